-- Equations of cross and dot products, by the solver of `Polynomial`.
-- Each side is written as an expression over numbered variables; `refl` compares the two normal forms.

use Rattle.std.proofs.Common.{◌≡◌, [], ◌∷◌, refl, ◌∙◌, arith}
use Rattle.std.specs.Prelude.{ℤ, pos, neg_ℤ, ◌+ℤ◌, ◌-ℤ◌, ◌*ℤ◌}
use Rattle.grid_core.proofs.Signed.{signed}
use Rattle.grid_core.proofs.Polynomial.{V, K, ◌⊕◌, ◌⊖◌, ◌⊗◌, same_polynomial}
use Rattle.grid_core.specs.declared.point.Point.{Point}
use Rattle.grid_core.specs.Vector.{cross_of, dot_of, minus}

-- turning a cross product round changes its sign
pub cross-turned : (d e : Point) → cross_of d e ≡ neg_ℤ (cross_of e d)
cross-turned d e =
    same_polynomial (d.x ∷ d.y ∷ e.x ∷ e.y ∷ []) (V 0 ⊗ V 3 ⊖ V 1 ⊗ V 2) (K (pos 0) ⊖ (V 2 ⊗ V 1 ⊖ V 3 ⊗ V 0)) refl
    ∙ omega (arith, signed)

-- a direction has no cross product with itself
pub cross-itself : (d : Point) → cross_of d d ≡ pos 0
cross-itself d = same_polynomial (d.x ∷ d.y ∷ []) (V 0 ⊗ V 1 ⊖ V 1 ⊗ V 0) (K (pos 0)) refl

-- the cross product of a difference
pub cross-minus : (d a b : Point) → cross_of d (minus a b) ≡ cross_of d a -ℤ cross_of d b
cross-minus d a b =
    same_polynomial (d.x ∷ d.y ∷ a.x ∷ a.y ∷ b.x ∷ b.y ∷ [])
    (V 0 ⊗ (V 3 ⊖ V 5) ⊖ V 1 ⊗ (V 2 ⊖ V 4)) ((V 0 ⊗ V 3 ⊖ V 1 ⊗ V 2) ⊖ (V 0 ⊗ V 5 ⊖ V 1 ⊗ V 4)) refl

-- a has one orientation to p and q, measured from p or from q
pub cross-moved : (p q a : Point) → cross_of (minus q p) (minus a p) ≡ cross_of (minus q p) (minus a q)
cross-moved p q a =
    same_polynomial (p.x ∷ p.y ∷ q.x ∷ q.y ∷ a.x ∷ a.y ∷ [])
    ((V 2 ⊖ V 0) ⊗ (V 5 ⊖ V 1) ⊖ (V 3 ⊖ V 1) ⊗ (V 4 ⊖ V 0)) ((V 2 ⊖ V 0) ⊗ (V 5 ⊖ V 3) ⊖ (V 3 ⊖ V 1) ⊗ (V 4 ⊖ V 2)) refl

-- Lagrange: the squares of the cross and the dot product add up to the product of the squared lengths
pub lagrange : (d e : Point) → cross_of d e *ℤ cross_of d e +ℤ dot_of d e *ℤ dot_of d e ≡ dot_of d d *ℤ dot_of e e
lagrange d e =
    same_polynomial (d.x ∷ d.y ∷ e.x ∷ e.y ∷ [])
    ((V 0 ⊗ V 3 ⊖ V 1 ⊗ V 2) ⊗ (V 0 ⊗ V 3 ⊖ V 1 ⊗ V 2) ⊕ (V 0 ⊗ V 2 ⊕ V 1 ⊗ V 3) ⊗ (V 0 ⊗ V 2 ⊕ V 1 ⊗ V 3))
    ((V 0 ⊗ V 0 ⊕ V 1 ⊗ V 1) ⊗ (V 2 ⊗ V 2 ⊕ V 3 ⊗ V 3)) refl

-- Plücker: for four directions, the three ways to pair them
pub plucker : (a b c d : Point)
    → cross_of a b *ℤ cross_of c d -ℤ cross_of a c *ℤ cross_of b d +ℤ cross_of a d *ℤ cross_of b c
    ≡ pos 0
plucker a b c d =
    same_polynomial (a.x ∷ a.y ∷ b.x ∷ b.y ∷ c.x ∷ c.y ∷ d.x ∷ d.y ∷ [])
    ((V 0 ⊗ V 3 ⊖ V 1 ⊗ V 2) ⊗ (V 4 ⊗ V 7 ⊖ V 5 ⊗ V 6) ⊖ (V 0 ⊗ V 5 ⊖ V 1 ⊗ V 4) ⊗ (V 2 ⊗ V 7 ⊖ V 3 ⊗ V 6)
    ⊕ (V 0 ⊗ V 7 ⊖ V 1 ⊗ V 6) ⊗ (V 2 ⊗ V 5 ⊖ V 3 ⊗ V 4))
    (K (pos 0)) refl

-- Cramer: c is the sum of a and b with cross products for weights, in the first coordinate
pub cramer_x : (a b c : Point) → cross_of a b *ℤ c.x ≡ cross_of c b *ℤ a.x +ℤ cross_of a c *ℤ b.x
cramer_x a b c =
    same_polynomial (a.x ∷ a.y ∷ b.x ∷ b.y ∷ c.x ∷ c.y ∷ [])
    ((V 0 ⊗ V 3 ⊖ V 1 ⊗ V 2) ⊗ V 4) ((V 4 ⊗ V 3 ⊖ V 5 ⊗ V 2) ⊗ V 0 ⊕ (V 0 ⊗ V 5 ⊖ V 1 ⊗ V 4) ⊗ V 2) refl

-- the same in the second coordinate
pub cramer_y : (a b c : Point) → cross_of a b *ℤ c.y ≡ cross_of c b *ℤ a.y +ℤ cross_of a c *ℤ b.y
cramer_y a b c =
    same_polynomial (a.x ∷ a.y ∷ b.x ∷ b.y ∷ c.x ∷ c.y ∷ [])
    ((V 0 ⊗ V 3 ⊖ V 1 ⊗ V 2) ⊗ V 5) ((V 4 ⊗ V 3 ⊖ V 5 ⊗ V 2) ⊗ V 1 ⊕ (V 0 ⊗ V 5 ⊖ V 1 ⊗ V 4) ⊗ V 3) refl

-- the point at u / den of the way from p to q, as a weighted mean of p and q
pub along_is_mean : (p q u den : ℤ) → p *ℤ den +ℤ u *ℤ (q -ℤ p) ≡ p *ℤ (den -ℤ u) +ℤ q *ℤ u
along_is_mean p q u den =
    same_polynomial (p ∷ q ∷ u ∷ den ∷ []) (V 0 ⊗ V 3 ⊕ V 2 ⊗ (V 1 ⊖ V 0)) (V 0 ⊗ (V 3 ⊖ V 2) ⊕ V 1 ⊗ V 2) refl
