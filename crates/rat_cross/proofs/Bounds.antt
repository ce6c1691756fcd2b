-- How large a crossing point and its pixel are.
-- A point between the ends of a segment is within the bound of the ends; rounding keeps it there,
-- since the bound is a whole number.

use Rattle.std.proofs.Common.{◌≡◌, ℕ, ◌+◌, ◌*◌, ◌<◌, ◌≤◌, ◌^◌, arith, Bool, true, false, Some, None, IfSome, refl}
use Rattle.std.proofs.Common.{w64, SFits, to_z, of_z, to_z-of_z}
use Rattle.std.specs.Prelude.{ℤ, pos, negsuc, neg_ℤ, ◌+ℤ◌, ◌-ℤ◌, ◌*ℤ◌, ◌<ℤ◌, ◌≤ℤ◌, unsigned_abs, int_lt, ◌&&◌, if◌then◌else◌}
use Rattle.std.specs.Int.{int_div_euclid}
use Rattle.std.proofs.lemmas.Bool.{and_parts}
use Rattle.std.proofs.lemmas.Int.{ints}
use Rattle.std.proofs.lemmas.Nat.{div_below}
use borrow.Author.Differences.{up, down}
use Rattle.grid_core.specs.Vector.{IsWithin, cross_of, minus}
use Rattle.grid_core.specs.Segment.{Segment, IsSegment, direction}
use Rattle.grid_core.specs.Crossing.{RationalPoint, crossing_of, in_unit_interval, point_along, within_both}
use Rattle.grid_core.specs.Crossing.{pixel_coordinate, pixel_of}
use Rattle.grid_core.proofs.Signed.{signed, one_part, from_lt_true, from_le_true, product_within, fits_by_size, size_between}
use Rattle.grid_core.proofs.Sizes.{between_within, direction_within, cross_within}
use Rattle.rat_cross.specs.CrossPoint.{IsCrossPoint}
use Rattle.rat_cross.specs.Narrow.{narrow_number, narrow_point}

-- ---- products

-- a product whose size is below 2^63
pub made : (a b : ℤ) → SFits w64 a → SFits w64 b → unsigned_abs (a *ℤ b) < 2 ^ 63
    → to_z w64 (of_z w64 (to_z w64 (of_z w64 a) *ℤ to_z w64 (of_z w64 b))) ≡ a *ℤ b
made a b left right small =
    let fits : SFits w64 (a *ℤ b) = fits_by_size w64 (a *ℤ b) (omega arith) in
    simp to_z-of_z refl

-- of factors up to 2^31 in size
pub product_size : (a b : ℤ) → unsigned_abs a ≤ 2 ^ 31 → unsigned_abs b ≤ 2 ^ 31 → unsigned_abs (a *ℤ b) ≤ 2 ^ 62
product_size a b h k = let l = product_within a b (2 ^ 31) (2 ^ 31) h k in omega arith

-- ---- the point

-- the denominator of two segments within n is at most 8 n^2
pub den_within : (n : ℕ) (s t : Segment) → IsSegment n s → IsSegment n t
    → unsigned_abs (cross_of (direction s) (direction t)) ≤ 8 * (n * n)
den_within n s t h k =
    omega (
      arith,
      cross_within (n + n) (n + n) (direction s) (direction t) (direction_within n s h)
          (direction_within n t k),
    )

-- a point of a segment within n
pub point_within : (n : ℕ) (s : Segment) (u den : ℤ) → IsSegment n s → pos 0 <ℤ den
    → unsigned_abs den ≤ 8 * (n * n)
    → pos 0 ≤ℤ u → u ≤ℤ den → IsCrossPoint n (point_along s u den)
point_within n s u den h positive small low high =
    record {
      positive = positive;
      small = small;
      x = between_within s.p.x s.q.x u den n h.p_within.x h.q_within.x low high;
      y = between_within s.p.y s.q.y u den n h.p_within.y h.q_within.y low high;
    }

part_branch : (n : ℕ) (s : Segment) (u v den : ℤ) (b : Bool) → in_unit_interval u den && in_unit_interval v den ≡ b
    → IsSegment n s → pos 0 <ℤ den
    → unsigned_abs den ≤ 8 * (n * n)
    → IfSome (if b then Some (point_along s u den) else None) (IsCrossPoint n)
part_branch n s u v den true e h positive small =
    let part : (pos 0 ≤ℤ u) × (u ≤ℤ den) = grind (arith, ints) in
    point_within n s u den h positive small part.0 part.1
part_branch n s u v den false e h positive small = tt

both_within : (n : ℕ) (s : Segment) (u v den : ℤ) → IsSegment n s → pos 0 <ℤ den
    → unsigned_abs den ≤ 8 * (n * n)
    → IfSome (within_both s u v den) (IsCrossPoint n)
both_within n s u v den h positive small =
    part_branch n s u v den (in_unit_interval u den && in_unit_interval v den) refl h positive small

sign_branch : (n : ℕ) (s : Segment) (u v den : ℤ) (b c : Bool) → int_lt (pos 0) den ≡ b
    → int_lt den (pos 0) ≡ c → IsSegment n s
    → unsigned_abs den ≤ 8 * (n * n)
    → IfSome
    (if b then within_both s u v den else if c then within_both s (pos 0 -ℤ u) (pos 0 -ℤ v)
    (pos 0 -ℤ den) else None) (IsCrossPoint n)
sign_branch n s u v den true c e f h small =
    both_within n s u v den h (from_lt_true (pos 0) den e) small
sign_branch n s u v den false true e f h small =
    both_within n s (pos 0 -ℤ u) (pos 0 -ℤ v) (pos 0 -ℤ den) h (omega (arith, ints))
    (omega (arith, signed, one_part (pos 0 -ℤ den)))
sign_branch n s u v den false false e f h small = tt

-- the crossing of two segments within n is within n
pub crossing_within : (n : ℕ) (s t : Segment) → IsSegment n s → IsSegment n t
    → IfSome (crossing_of s t) (IsCrossPoint n)
crossing_within n s t h k =
    let den = cross_of (direction s) (direction t) in
    let w = minus t.p s.p in
    sign_branch n s (cross_of w (direction t)) (cross_of w (direction s)) den (int_lt (pos 0) den)
    (int_lt den (pos 0)) refl refl h (den_within n s t h k)

-- ---- the pixel

-- a quotient that is rounded down is within b where the dividend is at least - b m and below (b +
-- 1) m
pub euclid_within : (a : ℤ) (m b : ℕ) → 0 < m → up a < (b + 1) * m → down a ≤ b * m
    → unsigned_abs (int_div_euclid a (pos m)) ≤ b
euclid_within (pos a) m b h k l = omega (arith, div_below a m (b + 1) h k)
euclid_within (negsuc a) m b h k l = omega (arith, div_below a m b h (omega arith))

-- n / d to the nearest whole number is within b where n / d is
pub rounded_within : (n d : ℤ) (b : ℕ) → pos 0 <ℤ d → unsigned_abs n ≤ b * unsigned_abs d
    → unsigned_abs (pixel_coordinate n d) ≤ b
rounded_within n (negsuc d) b h k = absurd (omega (arith, ints))
rounded_within n (pos d) b h k =
    euclid_within (pos 2 *ℤ n +ℤ pos d) (2 * d) b (omega (arith, ints))
    (omega (arith, signed, one_part n, one_part (pos 2 *ℤ n +ℤ pos d)))
    (omega (arith, signed, one_part n, one_part (pos 2 *ℤ n +ℤ pos d)))

-- the pixel of a crossing point within n is within n
pub pixel_within : (n : ℕ) (c : RationalPoint) → IsCrossPoint n c → IsWithin n (pixel_of c)
pixel_within n c h =
    record {
      x = rounded_within c.num_x c.den n h.positive h.x;
      y = rounded_within c.num_y c.den n
          h.positive h.y;
    }

-- ---- numbers that 64 bits hold

narrow_size : (n : ℤ) → narrow_number n ≡ true → unsigned_abs n ≤ 2 ^ 61
narrow_size n h =
    size_between n (2 ^ 61) (from_le_true (neg_ℤ (pos (2 ^ 61))) n (and_parts _ _ h).0)
    (from_le_true n (pos (2 ^ 61)) (and_parts _ _ h).1)

-- the numbers of a narrow point
pub record IsNarrow (c : RationalPoint) : Type 0 where
  pub x : unsigned_abs c.num_x ≤ 2 ^ 61
  pub y : unsigned_abs c.num_y ≤ 2 ^ 61
  pub den : unsigned_abs c.den ≤ 2 ^ 61

pub narrow_sizes : (c : RationalPoint) → narrow_point c ≡ true → IsNarrow c
narrow_sizes c h =
    record {
      x = narrow_size c.num_x (and_parts _ _ (and_parts _ _ h).0).0;
      y = narrow_size c.num_y (and_parts _ _ (and_parts _ _ h).0).1;
      den = narrow_size c.den (and_parts _ _ h).1;
    }
