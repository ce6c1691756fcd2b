-- Codes of names and points, by which finite maps of them can be compared and copied.
use Rattle.std.specs.Prelude.{ℕ, ℤ, refl}
use Rattle.std.specs.Coded.{Coded, code_by, coded×, coded_ℕ, coded_ℤ}
use Rattle.grid_core.specs.declared.point.Point.{Point}
use Rattle.grid_core.specs.Name.{Label}

-- a name as its editor and serial
abbrev pub label_code : Coded Label
label_code =
    code_by (ℕ × ℕ) (coded× coded_ℕ coded_ℕ)
    (λ n. (n.editor, n.serial)) (λ p. record { editor = p.0; serial = p.1 }) (λ _. refl)

-- a point as its two coordinates
abbrev pub point_code : Coded Point
point_code =
    code_by (ℤ × ℤ) (coded× coded_ℤ coded_ℤ)
    (λ a. (a.x, a.y)) (λ p. record { x = p.0; y = p.1 }) (λ _. refl)
