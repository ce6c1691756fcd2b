-- Numbers, names and points as text: numbers in decimal without leading zeros, a negative one with
-- a minus sign.
use Rattle.std.specs.Prelude.{◌≡◌, ℕ, List, ◌++◌, codes, decimal, length, take}
use Rattle.std.specs.Fmt.{signed_decimal}
use Rattle.grid_core.specs.declared.point.Point.{Point}
use Rattle.grid_core.specs.Name.{Label}

-- `f.k`: the editor and the serial
unfoldable pub name_text : Label → List ℕ
name_text name = decimal name.editor ++ codes "." ++ decimal name.serial

-- `x y`
unfoldable pub point_text : Point → List ℕ
point_text h = signed_decimal h.x ++ codes " " ++ signed_decimal h.y

-- a point behind a space
unfoldable pub spaced_point : Point → List ℕ
spaced_point h = codes " " ++ point_text h

-- a name behind a space
unfoldable pub spaced_name : Label → List ℕ
spaced_name name = codes " " ++ name_text name

-- the bytes begin with those
pub record BeginsWith (bytes front : List ℕ) : Type 0 where
  pub begins : take (length front) bytes ≡ front
