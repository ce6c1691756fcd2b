-- How large differences, products and points between two others can be.
-- Each bound is that of the sums and products of sizes, over any bound n of the coordinates.

use Rattle.std.proofs.Common.{◌≡◌, ℕ, ◌+◌, ◌*◌, ◌≤◌, ap, arith}
use Rattle.std.specs.Prelude.{ℤ, pos, ◌+ℤ◌, ◌-ℤ◌, ◌*ℤ◌, ◌≤ℤ◌, unsigned_abs}
use Rattle.grid_core.proofs.Signed.{signed, one_part, product_within, sum_within, difference_within}
use Rattle.grid_core.proofs.Identities.{along_is_mean}
use Rattle.grid_core.specs.declared.point.Point.{Point}
use Rattle.grid_core.specs.Vector.{cross_of, dot_of, minus, IsWithin}
use Rattle.grid_core.specs.Segment.{Segment, IsSegment, direction}

-- the way from b to a is within m + n where a and b are within m and n
pub minus_within : (m n : ℕ) (a b : Point) → IsWithin m a → IsWithin n b → IsWithin (m + n) (minus a b)
minus_within m n a b h k =
    record { x = difference_within a.x b.x m n h.x k.x; y = difference_within a.y b.y m n h.y k.y }

-- the direction of a segment within n is within 2 n
pub direction_within : (n : ℕ) (s : Segment) → IsSegment n s → IsWithin (n + n) (direction s)
direction_within n s h = minus_within n n s.q s.p h.q_within h.p_within

-- a cross product of directions within m and n
pub cross_within : (m n : ℕ) (d e : Point) → IsWithin m d → IsWithin n e → unsigned_abs (cross_of d e) ≤ m * n + m * n
cross_within m n d e h k =
    difference_within (d.x *ℤ e.y) (d.y *ℤ e.x) (m * n) (m * n) (product_within d.x e.y m n h.x k.y)
    (product_within d.y e.x m n h.y k.x)

-- a dot product of directions within m and n
pub dot_within : (m n : ℕ) (d e : Point) → IsWithin m d → IsWithin n e → unsigned_abs (dot_of d e) ≤ m * n + m * n
dot_within m n d e h k =
    sum_within (d.x *ℤ e.x) (d.y *ℤ e.y) (m * n) (m * n) (product_within d.x e.x m n h.x k.x)
    (product_within d.y e.y m n h.y k.y)

sizes_add : (u den : ℤ) → pos 0 ≤ℤ u → u ≤ℤ den → unsigned_abs (den -ℤ u) + unsigned_abs u ≡ unsigned_abs den
sizes_add u den low high = omega (arith, signed, one_part u, one_part den, one_part (den -ℤ u))

-- a point between p and q, at u / den of the way, is within the bound of both
pub between_within : (p q u den : ℤ) (b : ℕ) → unsigned_abs p ≤ b → unsigned_abs q ≤ b → pos 0 ≤ℤ u → u ≤ℤ den
    → unsigned_abs (p *ℤ den +ℤ u *ℤ (q -ℤ p)) ≤ b * unsigned_abs den
between_within p q u den b hp hq low high =
    let first = product_within p (den -ℤ u) b (unsigned_abs (den -ℤ u)) hp (omega arith) in
    let second = product_within q u b (unsigned_abs u) hq (omega arith) in
    let both = sum_within (p *ℤ (den -ℤ u)) (q *ℤ u) _ _ first second in
    let parts = ap (λ (n : ℕ). b * n) (sizes_add u den low high) in
    omega (arith, both, parts, ap unsigned_abs (along_is_mean p q u den))
