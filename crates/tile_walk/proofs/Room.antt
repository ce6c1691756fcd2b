-- The room that a walk needs. From entry to exit the rows only go on towards the row of q, and never
-- past it, so that what a column takes and what is left after it is at most what was left before.

use Rattle.std.proofs.Common.{◌≡◌, refl, sym, subst, ◌+◌, ◌<◌, ◌≤◌, ◌^◌, arith, ⊎_elim, Bool, true, false, Less}
use Rattle.std.specs.Prelude.{ℤ, pos, negsuc, ◌+ℤ◌, ◌-ℤ◌, ◌*ℤ◌, ◌≤ℤ◌, ◌<ℤ◌, unsigned_abs, if◌then◌else◌, not, ◌&&◌}
use Rattle.std.specs.Int.{int_gap, int_div_euclid}
use Rattle.std.specs.Ordering.{int_eq}
use Rattle.grid_core.specs.Profile.{Sizes}
use Rattle.grid_core.specs.Vector.{point_cmp}
use Rattle.grid_core.specs.Segment.{Segment, direction}
use Rattle.grid_core.specs.Tiles.{falls, tile_of}
use Rattle.grid_core.proofs.Quotients.{floor_le, floor_ge}
use Rattle.grid_core.proofs.Ring.{int_mul_nonneg, int_mul_nonpos_nonneg, int_mul_comm}
use Rattle.grid_core.proofs.Signed.{signed, size_between}
use Rattle.tile_law.proofs.JoinedLists.{int_gap_is}
use Rattle.tile_walk.specs.Borders.{IsBorder, IsEntry}
use Rattle.tile_walk.specs.Columns.{rows_from, most_tiles}
use Rattle.tile_walk.specs.Steps.{exit_of}
use Rattle.tile_walk.proofs.Floors.{fits, at_most, at_least, too_many}
use Rattle.tile_walk.proofs.Lines.{IsRising, IsFalling, next_height}
use Rattle.tile_walk.proofs.Rows.{rising_from_p, rising_to_q, falling_from_p, falling_to_q}
use Rattle.tile_walk.proofs.Walked.{rises_or_falls}

-- ---- sizes and gaps

size_up : (z : ℤ) → pos 0 ≤ℤ z → pos (unsigned_abs z) ≡ z
size_up (pos n) h = refl
size_up (negsuc n) h = absurd (omega (arith, signed, h))

size_down : (z : ℤ) → z ≤ℤ pos 0 → pos (unsigned_abs z) ≡ pos 0 -ℤ z
size_down (pos n) h = omega (arith, signed, h)
size_down (negsuc n) h = omega (arith, signed)

-- a column less is left
pub gap_falls : (i last : ℤ) → i <ℤ last → int_gap (i +ℤ pos 1) last < int_gap i last
gap_falls i last h = omega (arith, signed, int_gap_is (i +ℤ pos 1) last, int_gap_is i last, h)

-- rows upwards to the one before `to` or to it, and what is left from the next row, which is to + 1 or to
room_up : (i last from to row end : ℤ) → i <ℤ last → from ≤ℤ row → row ≤ℤ end → to ≤ℤ row
    → int_gap from (to +ℤ pos 1) + (unsigned_abs (last -ℤ (i +ℤ pos 1)) + unsigned_abs (end -ℤ row) + 1)
    ≤ unsigned_abs (last -ℤ i) + unsigned_abs (end -ℤ from) + 1
room_up i last from to row end h k l m =
    omega (
      arith,
      signed,
      int_gap_is from (to +ℤ pos 1),
      size_up (last -ℤ (i +ℤ pos 1)) (omega (arith, signed, h)),
      size_up (last -ℤ i) (omega (arith, signed, h)),
      size_up (end -ℤ row) (omega (arith, signed, l)),
      size_up (end -ℤ from) (omega (arith, signed, k, l)),
      h,
      k,
      l,
      m,
    )

room_down : (i last from row end : ℤ) → i <ℤ last → row ≤ℤ from → end ≤ℤ row
    → int_gap row (from +ℤ pos 1) + (unsigned_abs (last -ℤ (i +ℤ pos 1)) + unsigned_abs (end -ℤ row) + 1)
    ≤ unsigned_abs (last -ℤ i) + unsigned_abs (end -ℤ from) + 1
room_down i last from row end h k l =
    omega (
      arith,
      signed,
      int_gap_is row (from +ℤ pos 1),
      size_up (last -ℤ (i +ℤ pos 1)) (omega (arith, signed, h)),
      size_up (last -ℤ i) (omega (arith, signed, h)),
      size_down (end -ℤ row) (omega (arith, signed, l)),
      size_down (end -ℤ from) (omega (arith, signed, k, l)),
      h,
      k,
      l,
    )

-- the rows of the last column
room_last : (down : Bool) (from end : ℤ) → rows_from down from end ≤ unsigned_abs (end -ℤ from) + 1
room_last true from end = omega (arith, signed, int_gap_is end (from +ℤ pos 1))
room_last false from end = omega (arith, signed, int_gap_is from (end +ℤ pos 1))

pub last_room : (down : Bool) (i from last end : ℤ)
    → rows_from down from end ≤ most_tiles (record { i = i; j = from }) (record { i = last; j = end })
last_room down i from last end = let l = room_last down from end in omega (arith, l)

-- the exit is the row of the border or the one below
exit_below : (down : Bool) (row above : ℤ)
    → (exit_of down (record { row = row; above = above }) ≤ℤ row)
    × ((row -ℤ pos 1) ≤ℤ exit_of down (record { row = row; above = above }))
exit_below down row above = by (int_eq above (pos 0) && not down)
  where
    by : (b : Bool) → ((if b then row -ℤ pos 1 else row) ≤ℤ row) × ((row -ℤ pos 1) ≤ℤ (if b then row -ℤ pos 1 else row))
    by true = (omega (arith, signed), omega (arith, signed))
    by false = (omega (arith, signed), omega (arith, signed))

exit_down : (row above : ℤ) → exit_of true (record { row = row; above = above }) ≡ row
exit_down row above = by (int_eq above (pos 0))
  where
    by : (b : Bool) → (if b && not true then row -ℤ pos 1 else row) ≡ row
    by true = refl
    by false = refl

-- ---- a border on the way

module _ (pr : Sizes) (some : 0 < pr.side) (s : Segment) (ordered : point_cmp s.p s.q ≡ Less) (i row above : ℤ)
    (after_p : (tile_of pr s.p).i ≤ℤ i) (before_q : i <ℤ (tile_of pr s.q).i)
    (border : IsBorder pr s (i +ℤ pos 1) row above) where
  later : (tile_of pr s.p).i <ℤ (i +ℤ pos 1)
  later = omega (arith, signed, after_p)

  soon : (i +ℤ pos 1) ≤ℤ (tile_of pr s.q).i
  soon = omega (arith, signed, before_q)

  rising_on : IsRising s → (from : ℤ) → IsEntry pr s i from → from ≤ℤ row
  rising_on r from e =
      ⊎_elim
      (λ (first : (i ≡ (tile_of pr s.p).i) × (from ≡ (tile_of pr s.p).j)).
      omega (arith, signed, first.1, rising_from_p pr some s r (i +ℤ pos 1) row above later border))
      (λ (next : ((tile_of pr s.p).i <ℤ i) × ((own : ℤ) × IsBorder pr s i from own)).
      at_most border from
      (omega (
        arith,
        signed,
        fits next.1.1 from (omega (arith, signed)),
        next_height pr s i,
        int_mul_nonneg (pos 2 *ℤ pos pr.side) (direction s).y (omega (arith, signed)) r.up,
      )))
      e

  falling_on : IsFalling s → (from : ℤ) → IsEntry pr s i from → row ≤ℤ from
  falling_on f from e =
      ⊎_elim
      (λ (first : (i ≡ (tile_of pr s.p).i) × (from ≡ (tile_of pr s.p).j)).
      omega (arith, signed, first.1, falling_from_p pr some s f (i +ℤ pos 1) row above later border))
      (λ (next : ((tile_of pr s.p).i <ℤ i) × ((own : ℤ) × IsBorder pr s i from own)).
      at_least border from
      (omega (
        arith,
        signed,
        too_many next.1.1 from (omega (arith, signed)),
        next_height pr s i,
        int_mul_nonpos_nonneg (direction s).y (pos 2 *ℤ pos pr.side) (omega (arith, signed, f.down)) (omega (arith, signed)),
        int_mul_comm (direction s).y (pos 2 *ℤ pos pr.side),
      )))
      e

  -- what the column takes, and what is left after it
  pub next_room : (from : ℤ) → IsEntry pr s i from
      → rows_from (falls s) from (exit_of (falls s) (record { row = row; above = above }))
      + most_tiles (record { i = i +ℤ pos 1; j = row }) (tile_of pr s.q)
      ≤ most_tiles (record { i = i; j = from }) (tile_of pr s.q)
  next_room from e =
      ⊎_elim
      (λ (r : (falls s ≡ false) × IsRising s).
      subst (λ b. rows_from b from (exit_of b (record { row = row; above = above }))
      + most_tiles (record { i = i +ℤ pos 1; j = row }) (tile_of pr s.q)
      ≤ most_tiles (record { i = i; j = from }) (tile_of pr s.q)) (sym r.0)
      (room_up i (tile_of pr s.q).i from (exit_of false (record { row = row; above = above })) row (tile_of pr s.q).j
      before_q (rising_on r.1 from e) (rising_to_q pr some s r.1 (i +ℤ pos 1) row above soon border)
      (exit_below false row above).0))
      (λ (f : (falls s ≡ true) × IsFalling s).
      subst (λ b. rows_from b from (exit_of b (record { row = row; above = above }))
      + most_tiles (record { i = i +ℤ pos 1; j = row }) (tile_of pr s.q)
      ≤ most_tiles (record { i = i; j = from }) (tile_of pr s.q)) (sym f.0)
      (subst (λ to. int_gap to (from +ℤ pos 1)
      + most_tiles (record { i = i +ℤ pos 1; j = row }) (tile_of pr s.q)
      ≤ most_tiles (record { i = i; j = from }) (tile_of pr s.q)) (sym (exit_down row above))
      (room_down i (tile_of pr s.q).i from row (tile_of pr s.q).j
      before_q (falling_on f.1 from e) (falling_to_q pr some s f.1 (i +ℤ pos 1) row above soon border))))
      (rises_or_falls s ordered)

  -- rows on the way lie between those of the ends, so they are small
  module _ (p_within : unsigned_abs s.p.y ≤ 2 ^ 30) (q_within : unsigned_abs s.q.y ≤ 2 ^ 30) where
    index_low : (z : ℤ) → unsigned_abs z ≤ 2 ^ 30 → (pos 0 -ℤ pos (2 ^ 30)) ≤ℤ int_div_euclid z (pos pr.side)
    index_low z h =
        let more = int_mul_nonneg (pos pr.side -ℤ pos 1) (pos (2 ^ 30)) (omega (arith, signed, some)) (omega (arith, signed)) in
        floor_ge z (pos pr.side) (pos 0 -ℤ pos (2 ^ 30)) (omega (arith, signed, some))
        (omega (arith, signed, h, more, low (pos pr.side)))
      where
        low : (m : ℤ) → m *ℤ (pos 0 -ℤ pos (2 ^ 30)) ≡ pos 0 -ℤ pos (2 ^ 30) -ℤ (m -ℤ pos 1) *ℤ pos (2 ^ 30)
        low m = omega (arith, signed)

    index_high : (z : ℤ) → unsigned_abs z ≤ 2 ^ 30 → int_div_euclid z (pos pr.side) ≤ℤ pos (2 ^ 30)
    index_high z h =
        floor_le z (pos pr.side) (pos (2 ^ 30)) (omega (arith, signed, some))
        (omega (
          arith,
          signed,
          h,
          int_mul_nonneg (pos pr.side -ℤ pos 1) (pos (2 ^ 30) +ℤ pos 1)
              (omega (arith, signed, some)) (omega (arith, signed)),
          high (pos pr.side),
        ))
      where
        high : (m : ℤ) → m *ℤ (pos (2 ^ 30) +ℤ pos 1) ≡ pos (2 ^ 30) +ℤ pos 1 +ℤ (m -ℤ pos 1) *ℤ (pos (2 ^ 30) +ℤ pos 1)
        high m = omega (arith, signed)

    between : ((pos 0 -ℤ pos (2 ^ 30)) ≤ℤ row) × (row ≤ℤ pos (2 ^ 30))
    between =
        ⊎_elim
        (λ (r : (falls s ≡ false) × IsRising s). (
          omega (arith, signed, index_low s.p.y p_within, rising_from_p pr some s r.1 (i +ℤ pos 1) row above later border),
          omega (arith, signed, index_high s.q.y q_within, rising_to_q pr some s r.1 (i +ℤ pos 1) row above soon border),
        ))
        (λ (f : (falls s ≡ true) × IsFalling s). (
          omega (arith, signed, index_low s.q.y q_within, falling_to_q pr some s f.1 (i +ℤ pos 1) row above soon border),
          omega (arith, signed, index_high s.p.y p_within, falling_from_p pr some s f.1 (i +ℤ pos 1) row above later border),
        ))
        (rises_or_falls s ordered)

    pub small_row : unsigned_abs row ≤ 2 ^ 30
    small_row = size_between row (2 ^ 30) (omega (arith, signed, between)) between.1

    pub small_exit : unsigned_abs (exit_of (falls s) (record { row = row; above = above })) ≤ 2 ^ 30 + 1
    small_exit =
        let near = exit_below (falls s) row above in
        size_between (exit_of (falls s) (record { row = row; above = above })) (2 ^ 30 + 1)
        (omega (arith, signed, near.1, between.0)) (omega (arith, signed, near.0, between.1))
