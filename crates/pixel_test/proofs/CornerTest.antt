-- The test by corners is the test by the six constraints.
-- By cases on the segment: it rises, it falls, it is level or it is upright. In each case the signs
-- of the direction decide which constraints bound t from below and which from above, and
-- `ConstraintPairs` has each pair that is left.

use Rattle.std.proofs.Common.{◌≡◌, ◌∙◌, ap, arith, Bool, true, false, not, ◌&&◌}
use Rattle.std.specs.Prelude.{ℤ, pos, ◌+ℤ◌, ◌-ℤ◌, ◌*ℤ◌, ◌<ℤ◌, ◌≤ℤ◌, ◌⊎◌, int_lt, int_le}
use Rattle.std.proofs.Common.{Less, ⊎_elim, inl, inr}
use Rattle.std.proofs.lemmas.Int.{ints, by_lt_z}
use Rattle.grid_core.specs.declared.pixel_box.PixelBox.{PixelBox}
use Rattle.grid_core.specs.Vector.{point_cmp}
use Rattle.grid_core.specs.Segment.{Segment}
use Rattle.grid_core.specs.Meets.{meets_of}
use Rattle.grid_core.proofs.Signed.{lt_true, lt_false}
use Rattle.grid_core.proofs.Order.{point_less}
use Rattle.pixel_test.proofs.ConstraintPairs.{upper_alone, lower_alone, upper_at_start}
use Rattle.pixel_test.proofs.ConstraintPairs.{lower_at_start, lower_at_end, upper_at_end}
use Rattle.pixel_test.proofs.ConstraintPairs.{room_rising, room_falling, upper_left, lower_right}
use Rattle.pixel_test.proofs.ConstraintPairs.{upper_right, lower_left}
use Rattle.pixel_test.specs.Corners.{overlaps_of, straddles_of, is_left_of, is_right_of}
use Rattle.pixel_test.specs.Corners.{upper_left_of, upper_right_of, lower_left_of, lower_right_of}

-- the signs of a coordinate of the direction, as the constraints ask for them
record Signs (p q : ℤ) (up down : Bool) : Type 0 where
  above : int_lt (pos 0) (pos 2 *ℤ (q -ℤ p)) ≡ up
  below : int_lt (pos 2 *ℤ (q -ℤ p)) (pos 0) ≡ down
  back_above : int_lt (pos 0) (pos 0 -ℤ pos 2 *ℤ (q -ℤ p)) ≡ down
  back_below : int_lt (pos 0 -ℤ pos 2 *ℤ (q -ℤ p)) (pos 0) ≡ up
  ends_above : int_lt p q ≡ up
  ends_below : int_lt q p ≡ down

up_signs : (p q : ℤ) → p <ℤ q → Signs p q true false
up_signs p q h =
    record {
      above = lt_true (pos 0) (pos 2 *ℤ (q -ℤ p)) (omega (arith, ints));
      below = lt_false (pos 2 *ℤ (q -ℤ p)) (pos 0) (omega (arith, ints));
      back_above = lt_false (pos 0) (pos 0 -ℤ pos 2 *ℤ (q -ℤ p)) (omega (arith, ints));
      back_below = lt_true (pos 0 -ℤ pos 2 *ℤ (q -ℤ p)) (pos 0) (omega (arith, ints));
      ends_above = lt_true p q h;
      ends_below = lt_false q p (omega (arith, ints));
    }

down_signs : (p q : ℤ) → q <ℤ p → Signs p q false true
down_signs p q h =
    record {
      above = lt_false (pos 0) (pos 2 *ℤ (q -ℤ p)) (omega (arith, ints));
      below = lt_true (pos 2 *ℤ (q -ℤ p)) (pos 0) (omega (arith, ints));
      back_above = lt_true (pos 0) (pos 0 -ℤ pos 2 *ℤ (q -ℤ p)) (omega (arith, ints));
      back_below = lt_false (pos 0 -ℤ pos 2 *ℤ (q -ℤ p)) (pos 0) (omega (arith, ints));
      ends_above = lt_false p q (omega (arith, ints));
      ends_below = lt_true q p h;
    }

no_signs : (p q : ℤ) → p ≡ q → Signs p q false false
no_signs p q h =
    record {
      above = lt_false (pos 0) (pos 2 *ℤ (q -ℤ p)) (omega (arith, ints));
      below = lt_false (pos 2 *ℤ (q -ℤ p)) (pos 0) (omega (arith, ints));
      back_above = lt_false (pos 0) (pos 0 -ℤ pos 2 *ℤ (q -ℤ p)) (omega (arith, ints));
      back_below = lt_false (pos 0 -ℤ pos 2 *ℤ (q -ℤ p)) (pos 0) (omega (arith, ints));
      ends_above = lt_false p q (omega (arith, ints));
      ends_below = lt_false q p (omega (arith, ints));
    }

-- ---- the order of the tests

rising_order : (right left top bottom corner other : Bool)
    → (((right && left) && (top && bottom)) && (corner && other))
    ≡ ((right && (top && true)) &&
    ((left && (corner && true)) && ((bottom && (other && true)) && true)))
rising_order right left top bottom corner other = grind arith

falling_order : (right left top bottom corner other : Bool)
    → (((right && left) && (top && bottom)) && (corner && other))
    ≡ ((right && (bottom && true)) &&
    ((left && (other && true)) && ((top && (corner && true)) && true)))
falling_order right left top bottom corner other = grind arith

level_order : (right left top bottom : Bool)
    → (((right && left) && (top && bottom)) && true)
    ≡ ((bottom && (top && true)) && ((right && true) && ((left && true) && true)))
level_order right left top bottom = grind arith

upright_order : (right left top bottom : Bool)
    → (((right && left) && (top && bottom)) && true)
    ≡ ((left && (right && true)) && ((top && true) && ((bottom && true) && true)))
upright_order right left top bottom = grind arith

-- ---- the four cases

rising : (s : Segment) (area : PixelBox) → s.p.x <ℤ s.q.x → s.p.y <ℤ s.q.y → area.lo.x ≤ℤ area.hi.x
    → area.lo.y ≤ℤ area.hi.y
    → (overlaps_of s area && straddles_of s area) ≡ meets_of s area
rising s area h k wide high =
    let dx = s.q.x -ℤ s.p.x in
    let dy = s.q.y -ℤ s.p.y in
    let x = up_signs s.p.x s.q.x h in
    let y = up_signs s.p.y s.q.y k in
    let right = upper_at_start s.p.x area.hi.x (pos 0 -ℤ pos 2 *ℤ dx) in
    let top = upper_at_start s.p.y area.hi.y (pos 0 -ℤ pos 2 *ℤ dy) in
    let left = lower_at_end s.p.x s.q.x area.lo.x in
    let bottom = lower_at_end s.p.y s.q.y area.lo.y in
    let across = room_rising s.p.x dx area.lo.x area.hi.x (omega (arith, ints)) wide in
    let along = room_rising s.p.y dy area.lo.y area.hi.y (omega (arith, ints)) high in
    let corner = upper_left s.p.x s.p.y dx dy area.lo.x area.hi.y in
    let other = lower_right s.p.x s.p.y dx dy area.lo.y area.hi.x in
    simp (
      x.above,
      x.below,
      x.back_above,
      x.back_below,
      x.ends_above,
      y.above,
      y.below,
      y.back_above,
      y.back_below,
      y.ends_above,
      y.ends_below,
      right,
      top,
      left,
      bottom,
      across,
      along,
      corner,
      other,
    )
    (rising_order (int_le s.p.x area.hi.x) (int_le area.lo.x s.q.x) (int_le s.p.y area.hi.y)
    (int_le area.lo.y s.q.y)
    (is_left_of s (upper_left_of area)) (is_right_of s (lower_right_of area)))

falling : (s : Segment) (area : PixelBox) → s.p.x <ℤ s.q.x → s.q.y <ℤ s.p.y → area.lo.x ≤ℤ area.hi.x
    → area.lo.y ≤ℤ area.hi.y
    → (overlaps_of s area && straddles_of s area) ≡ meets_of s area
falling s area h k wide high =
    let dx = s.q.x -ℤ s.p.x in
    let dy = s.q.y -ℤ s.p.y in
    let x = up_signs s.p.x s.q.x h in
    let y = down_signs s.p.y s.q.y k in
    let right = upper_at_start s.p.x area.hi.x (pos 0 -ℤ pos 2 *ℤ dx) in
    let bottom = lower_at_start s.p.y area.lo.y (pos 2 *ℤ dy) in
    let left = lower_at_end s.p.x s.q.x area.lo.x in
    let top = upper_at_end s.p.y s.q.y area.hi.y in
    let across = room_rising s.p.x dx area.lo.x area.hi.x (omega (arith, ints)) wide in
    let along = room_falling s.p.y dy area.lo.y area.hi.y (omega (arith, ints)) high in
    let corner = upper_right s.p.x s.p.y dx dy area.hi.x area.hi.y in
    let other = lower_left s.p.x s.p.y dx dy area.lo.x area.lo.y in
    simp (
      x.above,
      x.below,
      x.back_above,
      x.back_below,
      x.ends_above,
      y.above,
      y.below,
      y.back_above,
      y.back_below,
      y.ends_above,
      y.ends_below,
      right,
      top,
      left,
      bottom,
      across,
      along,
      corner,
      other,
    )
    (falling_order (int_le s.p.x area.hi.x) (int_le area.lo.x s.q.x) (int_le s.q.y area.hi.y)
    (int_le area.lo.y s.p.y)
    (is_left_of s (upper_right_of area)) (not (is_left_of s (lower_left_of area))))

level : (s : Segment) (area : PixelBox) → s.p.x <ℤ s.q.x → s.p.y ≡ s.q.y → area.lo.x ≤ℤ area.hi.x
    → (overlaps_of s area && straddles_of s area) ≡ meets_of s area
level s area h k wide =
    let dx = s.q.x -ℤ s.p.x in
    let x = up_signs s.p.x s.q.x h in
    let y = no_signs s.p.y s.q.y k in
    let right = upper_at_start s.p.x area.hi.x (pos 0 -ℤ pos 2 *ℤ dx) in
    let left = lower_at_end s.p.x s.q.x area.lo.x in
    let top = upper_alone s.p.y area.hi.y in
    let bottom : int_le (pos 0) (pos 2 *ℤ s.p.y -ℤ pos 2 *ℤ area.lo.y +ℤ pos 1)
    ≡ int_le area.lo.y s.q.y =
    lower_alone s.p.y area.lo.y ∙ ap (int_le area.lo.y) k in
    let across = room_rising s.p.x dx area.lo.x area.hi.x (omega (arith, ints)) wide in
    simp (
      x.above,
      x.below,
      x.back_above,
      x.back_below,
      x.ends_above,
      y.above,
      y.below,
      y.back_above,
      y.back_below,
      y.ends_above,
      y.ends_below,
      right,
      top,
      left,
      bottom,
      across,
    )
    (level_order (int_le s.p.x area.hi.x) (int_le area.lo.x s.q.x) (int_le s.p.y area.hi.y)
    (int_le area.lo.y s.q.y))

upright : (s : Segment) (area : PixelBox) → s.p.x ≡ s.q.x → s.p.y <ℤ s.q.y → area.lo.y ≤ℤ area.hi.y
    → (overlaps_of s area && straddles_of s area) ≡ meets_of s area
upright s area h k high =
    let dy = s.q.y -ℤ s.p.y in
    let x = no_signs s.p.x s.q.x h in
    let y = up_signs s.p.y s.q.y k in
    let right = upper_alone s.p.x area.hi.x in
    let left : int_le (pos 0) (pos 2 *ℤ s.p.x -ℤ pos 2 *ℤ area.lo.x +ℤ pos 1)
    ≡ int_le area.lo.x s.q.x =
    lower_alone s.p.x area.lo.x ∙ ap (int_le area.lo.x) h in
    let top = upper_at_start s.p.y area.hi.y (pos 0 -ℤ pos 2 *ℤ dy) in
    let bottom = lower_at_end s.p.y s.q.y area.lo.y in
    let along = room_rising s.p.y dy area.lo.y area.hi.y (omega (arith, ints)) high in
    simp (
      x.above,
      x.below,
      x.back_above,
      x.back_below,
      x.ends_above,
      y.above,
      y.below,
      y.back_above,
      y.back_below,
      y.ends_above,
      y.ends_below,
      right,
      top,
      left,
      bottom,
      along,
    )
    (upright_order (int_le s.p.x area.hi.x) (int_le area.lo.x s.q.x) (int_le s.p.y area.hi.y)
    (int_le area.lo.y s.q.y))

-- ---- the whole

cases : (a b : ℤ) → (a <ℤ b) ⊎ ((b <ℤ a) ⊎ (a ≡ b))
cases a b =
    by_lt_z a b (λ h. inl h)
    (λ h. by_lt_z b a (λ k. inr (inl k)) (λ k. inr (inr (omega (arith, ints)))))

-- a segment meets a box exactly where the bounding boxes overlap and the box has corners on both
-- sides of its line
pub corner_test : (s : Segment) (area : PixelBox) → point_cmp s.p s.q ≡ Less
    → area.lo.x ≤ℤ area.hi.x → area.lo.y ≤ℤ area.hi.y
    → (overlaps_of s area && straddles_of s area) ≡ meets_of s area
corner_test s area h wide high =
    ⊎_elim
    (λ (right : s.p.x <ℤ s.q.x).
    ⊎_elim (λ (up : s.p.y <ℤ s.q.y). rising s area right up wide high)
    (⊎_elim (λ (down : s.q.y <ℤ s.p.y). falling s area right down wide high)
    (λ (same : s.p.y ≡ s.q.y). level s area right same wide))
    (cases s.p.y s.q.y))
    (λ (both : (s.p.x ≡ s.q.x) × (s.p.y <ℤ s.q.y)). upright s area both.0 both.1 high)
    (point_less s.p s.q h)
