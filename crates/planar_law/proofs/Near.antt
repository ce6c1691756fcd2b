-- Closeness: the point of an edge with weights m and k is within 1/2, in each coordinate, of the point
-- of the edge's piece with the same weights. That is what Mix says of the two, times the denominator
-- of the point of the edge.

use Rattle.std.proofs.Common.{◌≡◌, ◌*◌, ◌≤◌, refl, ap, ◌∙◌, arith, [], ◌∷◌, List, Contains}
use Rattle.std.specs.Prelude.{ℤ, pos, negsuc, ◌+ℤ◌, ◌-ℤ◌, ◌*ℤ◌, ◌≤ℤ◌, ◌<ℤ◌, unsigned_abs}
use Rattle.grid_core.specs.Segment.{Segment, direction}
use Rattle.grid_core.specs.Edge.{EdgeEnds}
use Rattle.grid_core.specs.Crossing.{RationalPoint, point_along}
use Rattle.grid_core.specs.Rounding.{route, route_edges}
use Rattle.grid_core.specs.Laws.{IsFromTo}
use Rattle.grid_core.specs.Planar.{IsWithinHalf, HasPointNear, IsNear}
use Rattle.grid_core.proofs.Signed.{signed, one_part}
use Rattle.grid_core.proofs.Ring.{int_mul_pos, int_mul-le_left, int_mul-lt_left}
use Rattle.grid_core.proofs.Polynomial.{V, K, ◌⊕◌, ◌⊖◌, ◌⊗◌, same_polynomial}
use Rattle.grid_core.proofs.RoundingMembers.{route_is_met}
use Rattle.grid_core.proofs.RouteOrder.{along_total}
use Rattle.planar_law.proofs.Inequalities.{weak}
use Rattle.planar_law.proofs.Mix.{AreWeights, mix, mixed_low, mixed_high}
use Rattle.planar_law.proofs.Neighbours.{joins_neighbours}
use Rattle.planar_law.proofs.EdgePieces.{HasPiece, IsShare, mixed_share, piece_of}
use Rattle.planar_law.proofs.OnEdge.{HasWeights, weights_on}
use Rattle.planar_law.proofs.VertexOnEdge.{mean_along}

-- a number whose double is between the negation of another and that other is at most half of it
half_of : (x y : ℤ) → (pos 0 -ℤ y) ≤ℤ (pos 2 *ℤ x) → (pos 2 *ℤ x) ≤ℤ y
    → 2 * unsigned_abs x ≤ unsigned_abs y
half_of x y h g = omega (arith, signed, one_part x, one_part y, h, g)

-- one coordinate: e = m u + k v is l times c / den, and p / (l n) is the same mean of points in the pixels
within_half : (m k n u v a b c den p : ℤ) → AreWeights m k → pos 0 <ℤ den → IsFromTo u u a n
    → IsFromTo v v b n
    → mix m k u v *ℤ den ≡ (m +ℤ k) *ℤ c → mix m k a b ≡ p
    → 2 * unsigned_abs (c *ℤ ((m +ℤ k) *ℤ n) -ℤ p *ℤ den) ≤ unsigned_abs (den *ℤ ((m +ℤ k) *ℤ n))
within_half m k n u v a b c den p w some in_u in_v e f =
    half_of (c *ℤ ((m +ℤ k) *ℤ n) -ℤ p *ℤ den) (den *ℤ ((m +ℤ k) *ℤ n))
    (low_of _ _ _ _ (int_mul-lt_left den _ _ some (mixed_high m k n u v a b w in_u in_v))
    (high_side ∙ (λ i. (pos 2 *ℤ e i +ℤ (m +ℤ k) *ℤ den) *ℤ n) ∙ high_is)
    (twice ∙ ap (λ x. pos 2 *ℤ (x *ℤ den)) f) (difference (c *ℤ ((m +ℤ k) *ℤ n)) (p *ℤ den)))
    (high_of _ _ _ _ (int_mul-le_left den _ _ (weak (pos 0) den some) (mixed_low m k n u v a b w in_u in_v))
    (low_side ∙ (λ i. (pos 2 *ℤ e i -ℤ (m +ℤ k) *ℤ den) *ℤ n) ∙ low_is)
    (twice ∙ ap (λ x. pos 2 *ℤ (x *ℤ den)) f) (difference (c *ℤ ((m +ℤ k) *ℤ n)) (p *ℤ den)))
  where
    twice : den *ℤ (pos 2 *ℤ mix m k a b) ≡ pos 2 *ℤ (mix m k a b *ℤ den)
    twice =
        same_polynomial (mix m k a b ∷ den ∷ []) (V 1 ⊗ (K (pos 2) ⊗ V 0)) (K (pos 2) ⊗ (V 0 ⊗ V 1)) refl

    low_side : den *ℤ ((pos 2 *ℤ mix m k u v -ℤ (m +ℤ k)) *ℤ n)
        ≡ (pos 2 *ℤ (mix m k u v *ℤ den) -ℤ (m +ℤ k) *ℤ den) *ℤ n
    low_side =
        same_polynomial (m ∷ k ∷ mix m k u v ∷ den ∷ n ∷ []) (V 3 ⊗ ((K (pos 2) ⊗ V 2 ⊖ (V 0 ⊕ V 1)) ⊗ V 4))
        ((K (pos 2) ⊗ (V 2 ⊗ V 3) ⊖ (V 0 ⊕ V 1) ⊗ V 3) ⊗ V 4) refl

    low_is : (pos 2 *ℤ ((m +ℤ k) *ℤ c) -ℤ (m +ℤ k) *ℤ den) *ℤ n
        ≡ pos 2 *ℤ (c *ℤ ((m +ℤ k) *ℤ n)) -ℤ den *ℤ ((m +ℤ k) *ℤ n)
    low_is =
        same_polynomial (m ∷ k ∷ c ∷ den ∷ n ∷ []) ((K (pos 2) ⊗ ((V 0 ⊕ V 1) ⊗ V 2) ⊖ (V 0 ⊕ V 1) ⊗ V 3) ⊗ V 4)
        (K (pos 2) ⊗ (V 2 ⊗ ((V 0 ⊕ V 1) ⊗ V 4)) ⊖ V 3 ⊗ ((V 0 ⊕ V 1) ⊗ V 4)) refl

    high_side : den *ℤ ((pos 2 *ℤ mix m k u v +ℤ (m +ℤ k)) *ℤ n)
        ≡ (pos 2 *ℤ (mix m k u v *ℤ den) +ℤ (m +ℤ k) *ℤ den) *ℤ n
    high_side =
        same_polynomial (m ∷ k ∷ mix m k u v ∷ den ∷ n ∷ []) (V 3 ⊗ ((K (pos 2) ⊗ V 2 ⊕ (V 0 ⊕ V 1)) ⊗ V 4))
        ((K (pos 2) ⊗ (V 2 ⊗ V 3) ⊕ (V 0 ⊕ V 1) ⊗ V 3) ⊗ V 4) refl

    high_is : (pos 2 *ℤ ((m +ℤ k) *ℤ c) +ℤ (m +ℤ k) *ℤ den) *ℤ n
        ≡ pos 2 *ℤ (c *ℤ ((m +ℤ k) *ℤ n)) +ℤ den *ℤ ((m +ℤ k) *ℤ n)
    high_is =
        same_polynomial (m ∷ k ∷ c ∷ den ∷ n ∷ []) ((K (pos 2) ⊗ ((V 0 ⊕ V 1) ⊗ V 2) ⊕ (V 0 ⊕ V 1) ⊗ V 3) ⊗ V 4)
        (K (pos 2) ⊗ (V 2 ⊗ ((V 0 ⊕ V 1) ⊗ V 4)) ⊕ V 3 ⊗ ((V 0 ⊕ V 1) ⊗ V 4)) refl

    difference : (x y : ℤ) → pos 2 *ℤ (x -ℤ y) ≡ pos 2 *ℤ x -ℤ pos 2 *ℤ y
    difference x y = same_polynomial (x ∷ y ∷ []) (K (pos 2) ⊗ (V 0 ⊖ V 1)) (K (pos 2) ⊗ V 0 ⊖ K (pos 2) ⊗ V 1) refl

    low_of : (x y q r : ℤ) {z w : ℤ} → x <ℤ y → y ≡ q +ℤ r → x ≡ z → w ≡ q -ℤ z → (pos 0 -ℤ r) ≤ℤ w
    low_of x y q r h e f g = omega (arith, signed, h, e, f, g)

    high_of : (x y q r : ℤ) {z w : ℤ} → x ≤ℤ y → x ≡ q -ℤ r → y ≡ z → w ≡ q -ℤ z → w ≤ℤ r
    high_of x y q r h e f g = omega (arith, signed, h, e, f, g)

-- ---- both coordinates

-- whole numbers that aren't negative are the natural ones
as_naturals : (s : Segment) (c : RationalPoint) (i n : ℤ) → IsShare i n → pos 0 <ℤ n
    → IsWithinHalf c (point_along s i n) → HasPointNear s c
as_naturals s c (pos a) (pos b) h some w =
    record { a = a; b = b; part = omega (arith, signed, h.high); whole = omega (arith, signed, some); near = w }
as_naturals s c (pos a) (negsuc b) h some w = absurd (omega (arith, signed, some))
as_naturals s c (negsuc a) n h some w = absurd (omega (arith, signed, h.low))

-- a point of an edge that has a piece of s
point_near : (ss : List Segment) (s : Segment) (e : EdgeEnds) (c : RationalPoint)
    → HasPiece ss s e.a e.b → pos 0 <ℤ c.den
    → (m k : ℤ) → HasWeights e.a e.b c m k → HasPointNear s c
point_near ss s e c p some m k h =
    as_naturals s c (mix m k p.i p.j) ((m +ℤ k) *ℤ p.n)
    (mixed_share m k p.i p.j p.n h.weights p.i_share p.j_share) (int_mul_pos (m +ℤ k) p.n h.weights.some p.some)
    (record {
      x = within_half m k p.n e.a.x e.b.x _ _ c.num_x c.den _ h.weights some p.in_u.x p.in_v.x h.x
          (mean_along m k s.p.x (direction s).x p.n p.i p.j);
      y = within_half m k p.n e.a.y e.b.y _ _ c.num_y c.den _ h.weights some p.in_u.y p.in_v.y h.y
          (mean_along m k s.p.y (direction s).y p.n p.i p.j);
    })

-- each point of an edge of the route of s is within 1/2 of a point of s
pub near_of_route : (ss : List Segment) (s : Segment) (e : EdgeEnds) → Contains (route_edges ss s) e
    → IsNear s e
near_of_route ss s e h c some on =
    point_near ss s e c
    (piece_of ss s e (joins_neighbours (along_total s) (route ss s) e (route_is_met ss s).in_order h)).1
    some _ _ (weights_on e c on)
