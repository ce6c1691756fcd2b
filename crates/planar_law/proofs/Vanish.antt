-- Sums with multiples of numbers that are 0: how a polynomial is shown to be another where some
-- differences are 0.

use Rattle.std.proofs.Common.{◌≡◌, refl, ◌∙◌, [], ◌∷◌}
use Rattle.std.specs.Prelude.{ℤ, pos, ◌+ℤ◌, ◌-ℤ◌, ◌*ℤ◌}
use Rattle.grid_core.proofs.Polynomial.{V, K, ◌⊕◌, ◌⊖◌, ◌⊗◌, same_polynomial}

-- what is a sum of multiples of numbers that are 0 is 0
pub zero_of : (t p x q y r z : ℤ) → t ≡ p *ℤ x +ℤ q *ℤ y +ℤ r *ℤ z → x ≡ pos 0 → y ≡ pos 0
    → z ≡ pos 0 → t ≡ pos 0
zero_of t p x q y r z e hx hy hz =
    e ∙ (λ l. p *ℤ hx l +ℤ q *ℤ hy l +ℤ r *ℤ hz l)
    ∙ same_polynomial (p ∷ q ∷ r ∷ []) (V 0 ⊗ K (pos 0) ⊕ V 1 ⊗ K (pos 0) ⊕ V 2 ⊗ K (pos 0)) (K (pos 0)) refl

-- a number with multiples of numbers that are 0 is the number
pub same_with : (z x y a b : ℤ) → x ≡ pos 0 → y ≡ pos 0 → z +ℤ (x *ℤ a -ℤ y *ℤ b) ≡ z
same_with z x y a b ex ey =
    (λ l. z +ℤ (ex l *ℤ a -ℤ ey l *ℤ b))
    ∙ same_polynomial (z ∷ a ∷ b ∷ []) (V 0 ⊕ (K (pos 0) ⊗ V 1 ⊖ K (pos 0) ⊗ V 2)) (V 0) refl
