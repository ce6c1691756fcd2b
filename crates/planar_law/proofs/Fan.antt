-- Two edges with one common end u, to v and to z, have no other point in common unless v is z. Such a
-- point is m u + k v, and i u + j z with i + j = m + k. Where k is at least j, which is above 0, v is
-- (k - j) u + j z over k; so v lies on the edge to z, and is an end of it. Where j is above k it is z
-- that lies on the edge to v.

use Rattle.std.proofs.Common.{◌≡◌, refl, sym, ap, subst, ◌∙◌, arith, [], ◌∷◌, ◌⊎◌, inl, inr, List, Contains}
use Rattle.std.specs.Prelude.{ℤ, pos, ◌+ℤ◌, ◌-ℤ◌, ◌*ℤ◌, ◌≤ℤ◌, ◌<ℤ◌}
use Rattle.grid_core.specs.declared.point.Point.{Point}
use Rattle.grid_core.specs.Segment.{Segment}
use Rattle.grid_core.specs.Crossing.{RationalPoint}
use Rattle.grid_core.specs.Rounding.{hot}
use Rattle.grid_core.specs.Planar.{IsOnePoint, whole_point}
use Rattle.grid_core.proofs.Signed.{signed}
use Rattle.grid_core.proofs.Ring.{int_lt_or_le, int_same_of_mul}
use Rattle.grid_core.proofs.Polynomial.{V, K, ◌⊕◌, ◌⊖◌, ◌⊗◌, same_polynomial}
use Rattle.planar_law.proofs.Inequalities.{weak, zero, no_difference}
use Rattle.planar_law.proofs.Mix.{AreWeights, mix}
use Rattle.planar_law.proofs.Vanish.{same_with}
use Rattle.planar_law.proofs.EdgePieces.{HasPiece}
use Rattle.planar_law.proofs.OnEdge.{HasWeights, IsShared, same_x, same_y}
use Rattle.planar_law.proofs.VertexOnEdge.{vertex_is_end}

-- a point with no weight on v is u
at_first : (u v : Point) (c : RationalPoint) (m k : ℤ) → HasWeights u v c m k → k ≡ pos 0
    → IsOnePoint c (whole_point u)
at_first u v c m k h none = record { x = by u.x v.x c.num_x h.x; y = by u.y v.y c.num_y h.y }
  where
    some : (m k : ℤ) → k ≡ pos 0 → pos 0 <ℤ (m +ℤ k) → pos 0 <ℤ m
    some m k e h = omega (arith, signed, e, h)

    by : (p q n : ℤ) → mix m k p q *ℤ c.den ≡ (m +ℤ k) *ℤ n → n *ℤ pos 1 ≡ p *ℤ c.den
    by p q n e =
        int_same_of_mul m _ _ (some m k none h.weights.some)
        (same_polynomial (m ∷ n ∷ []) (V 0 ⊗ (V 1 ⊗ K (pos 1))) ((V 0 ⊕ K (pos 0)) ⊗ V 1) refl
        ∙ ap (λ x. (m +ℤ x) *ℤ n) (sym none) ∙ sym e ∙ ap (λ x. mix m x p q *ℤ c.den) none
        ∙ same_polynomial (m ∷ p ∷ q ∷ c.den ∷ []) ((V 0 ⊗ V 1 ⊕ K (pos 0) ⊗ V 2) ⊗ V 3) (V 0 ⊗ (V 1 ⊗ V 3)) refl)

-- the other end of one edge as a mean of the ends of the other
mean_of : (m k i j u v z : ℤ) → mix m k u v ≡ mix i j u z → m +ℤ k ≡ i +ℤ j
    → mix (j -ℤ k) k u v ≡ ((j -ℤ k) +ℤ k) *ℤ z
mean_of m k i j u v z e f =
    same_polynomial (m ∷ k ∷ i ∷ j ∷ u ∷ v ∷ z ∷ []) ((V 3 ⊖ V 1) ⊗ V 4 ⊕ V 1 ⊗ V 5)
    (((V 3 ⊖ V 1) ⊕ V 1) ⊗ V 6
    ⊕ (((V 0 ⊗ V 4 ⊕ V 1 ⊗ V 5) ⊖ (V 2 ⊗ V 4 ⊕ V 3 ⊗ V 6)) ⊗ K (pos 1) ⊖ ((V 0 ⊕ V 1) ⊖ (V 2 ⊕ V 3)) ⊗ V 4)) refl
    ∙ same_with (((j -ℤ k) +ℤ k) *ℤ z) _ _ (pos 1) u (no_difference _ _ e) (no_difference _ _ f)

-- two edges from u
module _ (ss : List Segment) (s t : Segment) (u v z : Point) (c : RationalPoint) (p : HasPiece ss s u v)
    (q : HasPiece ss t u z) (hot_v : Contains (hot ss) v) (hot_z : Contains (hot ss) z) (not_v : v ≡ u → ⊥)
    (not_z : z ≡ u → ⊥) (some : pos 0 <ℤ c.den) (h : IsShared u v u z c) where
  weights : (x y : ℤ) → x ≤ℤ y → pos 0 <ℤ x → AreWeights (y -ℤ x) x
  weights x y h g =
      record { first = omega (arith, signed, h); second = omega (arith, signed, g); some = omega (arith, signed, h, g) }

  z_on_v : h.k <ℤ h.j → pos 0 <ℤ h.k → v ≡ z
  z_on_v l some_k =
      by (vertex_is_end ss s u v z p hot_z (h.j -ℤ h.k) h.k (weights h.k h.j (weak _ _ l) some_k)
      (mean_of h.m h.k h.i h.j u.x v.x z.x (same_x some h) h.whole) (mean_of h.m h.k h.i h.j u.y v.y z.y (same_y some h) h.whole))
    where
      by : (z ≡ u) ⊎ (z ≡ v) → v ≡ z
      by (inl e) = absurd (not_z e)
      by (inr e) = sym e

  v_on_z : h.j ≤ℤ h.k → pos 0 <ℤ h.j → v ≡ z
  v_on_z l some_j =
      by (vertex_is_end ss t u z v q hot_v (h.k -ℤ h.j) h.j (weights h.j h.k l some_j)
      (mean_of h.i h.j h.m h.k u.x z.x v.x (sym (same_x some h)) (sym h.whole))
      (mean_of h.i h.j h.m h.k u.y z.y v.y (sym (same_y some h)) (sym h.whole)))
    where
      by : (v ≡ u) ⊎ (v ≡ z) → v ≡ z
      by (inl e) = absurd (not_v e)
      by (inr e) = e

  from_one_end : (v ≡ z) ⊎ IsOnePoint c (whole_point u)
  from_one_end = by (int_lt_or_le (pos 0) h.k) (int_lt_or_le (pos 0) h.j) (int_lt_or_le h.k h.j)
    where
      by : (pos 0 <ℤ h.k) ⊎ (h.k ≤ℤ pos 0) → (pos 0 <ℤ h.j) ⊎ (h.j ≤ℤ pos 0)
          → (h.k <ℤ h.j) ⊎ (h.j ≤ℤ h.k)
          → (v ≡ z) ⊎ IsOnePoint c (whole_point u)
      by (inr none) _ _ = inr (at_first u v c h.m h.k h.first (zero h.k h.first.weights.second none))
      by (inl _) (inr none) _ = inr (at_first u z c h.i h.j h.second (zero h.j h.second.weights.second none))
      by (inl some_k) (inl _) (inl l) = inl (z_on_v l some_k)
      by (inl _) (inl some_j) (inr l) = inl (v_on_z l some_j)

-- two edges whose first ends are one point
pub fan : (ss : List Segment) (s t : Segment) (u v w z : Point) (c : RationalPoint)
    → HasPiece ss s u v
    → HasPiece ss t w z → Contains (hot ss) v → Contains (hot ss) z → (v ≡ u → ⊥) → (z ≡ w → ⊥)
    → pos 0 <ℤ c.den
    → IsShared u v w z c → u ≡ w → (v ≡ z) ⊎ IsOnePoint c (whole_point u)
fan ss s t u v w z c p q hot_v hot_z not_v not_z some h e =
    from_one_end ss s t u v z c p (subst (λ x. HasPiece ss t x z) (sym e) q) hot_v hot_z not_v
    (λ same. not_z (same ∙ e)) some (subst (λ x. IsShared u v x z c) (sym e) h)
