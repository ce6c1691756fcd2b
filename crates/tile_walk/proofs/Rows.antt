-- The rows of a column that a segment meets are those from the row in which it enters the column to
-- the row in which it leaves it. It enters the first column in the row of p, and each other one in the
-- row in which its line stands on the border before it; it leaves the last one in the row of q.

use Rattle.std.proofs.Common.{◌≡◌, arith, ◌↔◌, IsTrue, Less, ⊎_elim}
use Rattle.std.specs.Prelude.{◌<◌, ℤ, pos, ◌+ℤ◌, ◌-ℤ◌, ◌*ℤ◌, ◌≤ℤ◌, ◌<ℤ◌, ◌⊎◌}
use Rattle.std.specs.Int.{int_div_euclid}
use Rattle.grid_core.specs.Profile.{Sizes}
use Rattle.grid_core.specs.Segment.{Segment}
use Rattle.grid_core.specs.Vector.{point_cmp}
use Rattle.grid_core.specs.Tiles.{tile_of, meets_tile}
use Rattle.grid_core.proofs.Signed.{signed}
use Rattle.grid_core.proofs.Ring.{int_mul-le_left}
use Rattle.tile_walk.specs.Borders.{tile_height, height_at, IsSplit, IsBorder, IsEntry}
use Rattle.tile_walk.proofs.Floors.{fits, at_most, at_least, too_many, split_by_quotient}
use Rattle.tile_walk.proofs.Lines.{IsRising, IsFalling}
use Rattle.tile_walk.proofs.Lines.{rising_left_of_p, rising_right_of_p, rising_left_of_q, rising_right_of_q}
use Rattle.tile_walk.proofs.Lines.{falling_left_of_p, falling_right_of_p, falling_left_of_q, falling_right_of_q}
use Rattle.tile_walk.proofs.Corners.{Overlaps, met_rising, met_falling}

-- the row in which a rising segment leaves column i: the one below the height at the border behind it
abbrev pub IsUpperExit : Sizes → Segment → ℤ → ℤ → Type 0
IsUpperExit pr s i row =
    ((i ≡ (tile_of pr s.q).i) × (row ≡ (tile_of pr s.q).j))
    ⊎ ((i <ℤ (tile_of pr s.q).i)
    × ((rest : ℤ) × IsSplit (tile_height pr s) (height_at pr s (i +ℤ pos 1) -ℤ pos 1) row rest))

-- the row in which a falling one leaves it: the one that has that height
abbrev pub IsLowerExit : Sizes → Segment → ℤ → ℤ → Type 0
IsLowerExit pr s i row =
    ((i ≡ (tile_of pr s.q).i) × (row ≡ (tile_of pr s.q).j))
    ⊎ ((i <ℤ (tile_of pr s.q).i) × ((above : ℤ) × IsBorder pr s (i +ℤ pos 1) row above))

module _ (pr : Sizes) (some : 0 < pr.side) (s : Segment) where
  abbrev side : ℤ
  side = pos pr.side

  positive : pos 0 <ℤ side
  positive = omega (arith, signed, some)

  -- ---- columns and rows of the ends

  pub split_of : (z : ℤ) → IsSplit side z (int_div_euclid z side) (z -ℤ side *ℤ int_div_euclid z side)
  split_of z = split_by_quotient side z positive

  -- columns from i on begin right of a coordinate whose column is before i, and those up to its own don't
  pub right_of : (x i : ℤ) → int_div_euclid x side <ℤ i → x <ℤ (side *ℤ i)
  right_of x i h =
      let past = too_many (split_of x) (int_div_euclid x side) (omega (arith, signed)) in
      let more = int_mul-le_left side (int_div_euclid x side +ℤ pos 1) i
      (omega (arith, signed, some)) (omega (arith, signed, h)) in
      omega (arith, signed, past, more)

  -- ---- rising

  pub rising_from_p : IsRising s → (i row above : ℤ) → (tile_of pr s.p).i <ℤ i → IsBorder pr s i row above
      → (tile_of pr s.p).j ≤ℤ row
  rising_from_p r i row above h b =
      at_most b (tile_of pr s.p).j
      (omega (
        arith,
        signed,
        rising_right_of_p pr s i (tile_of pr s.p).j r (right_of s.p.x i h)
            (fits (split_of s.p.y) (tile_of pr s.p).j (omega (arith, signed))),
      ))

  pub rising_to_q : IsRising s → (i row above : ℤ) → i ≤ℤ (tile_of pr s.q).i → IsBorder pr s i row above
      → row ≤ℤ (tile_of pr s.q).j
  rising_to_q r i row above h b =
      at_least b (tile_of pr s.q).j
      (rising_left_of_q pr s i ((tile_of pr s.q).j +ℤ pos 1) r (fits (split_of s.q.x) i h)
      (too_many (split_of s.q.y) (tile_of pr s.q).j (omega (arith, signed))))

  rising_entry : IsRising s → (i row : ℤ) → IsEntry pr s i row → (j : ℤ)
      → ((s.p.y <ℤ (side *ℤ (j +ℤ pos 1))) × (height_at pr s i <ℤ (tile_height pr s *ℤ (j +ℤ pos 1)))) ↔ (row ≤ℤ j)
  rising_entry r i row e j =
      ⊎_elim
      (λ (first : (i ≡ (tile_of pr s.p).i) × (row ≡ (tile_of pr s.p).j)). (
        λ m. let least = at_least (split_of s.p.y) j m.0 in omega (arith, signed, first.1, least),
        λ h.
            let over = too_many (split_of s.p.y) j (omega (arith, signed, first.1, h)) in (
              over,
              rising_left_of_p pr s i (j +ℤ pos 1) r
                  (fits (split_of s.p.x) i (omega (arith, signed, first.0))) over,
            ),
      ))
      (λ (later : ((tile_of pr s.p).i <ℤ i) × ((above : ℤ) × IsBorder pr s i row above)). (
        λ m. at_least later.1.1 j m.1,
        λ h.
            let least = rising_from_p r i row later.1.0 later.0 later.1.1 in
            (too_many (split_of s.p.y) j (omega (arith, signed, least, h)), too_many later.1.1 j h),
      ))
      e

  -- the row below a border's height is no higher than that of q
  rising_exit_to_q : IsRising s → (i row rest : ℤ) → i <ℤ (tile_of pr s.q).i
      → IsSplit (tile_height pr s) (height_at pr s (i +ℤ pos 1) -ℤ pos 1) row rest
      → row ≤ℤ (tile_of pr s.q).j
  rising_exit_to_q r i row rest h b =
      let under = rising_left_of_q pr s (i +ℤ pos 1) ((tile_of pr s.q).j +ℤ pos 1) r
      (fits (split_of s.q.x) (i +ℤ pos 1) (omega (arith, signed, h)))
      (too_many (split_of s.q.y) (tile_of pr s.q).j (omega (arith, signed))) in
      at_least b (tile_of pr s.q).j (omega (arith, signed, under))

  rising_exit : IsRising s → (i row : ℤ) → IsUpperExit pr s i row → (j : ℤ)
      → (((side *ℤ j) ≤ℤ s.q.y) × ((tile_height pr s *ℤ j) <ℤ height_at pr s (i +ℤ pos 1))) ↔ (j ≤ℤ row)
  rising_exit r i row e j =
      ⊎_elim
      (λ (last : (i ≡ (tile_of pr s.q).i) × (row ≡ (tile_of pr s.q).j)). (
        λ m. let most = at_most (split_of s.q.y) j m.0 in omega (arith, signed, last.1, most),
        λ h.
            let under = fits (split_of s.q.y) j (omega (arith, signed, last.1, h)) in (
              under,
              rising_right_of_q pr s (i +ℤ pos 1) j r
                  (right_of s.q.x (i +ℤ pos 1) (omega (arith, signed, last.0))) under,
            ),
      ))
      (λ (before : (i <ℤ (tile_of pr s.q).i)
      × ((rest : ℤ) × IsSplit (tile_height pr s) (height_at pr s (i +ℤ pos 1) -ℤ pos 1) row rest)). (
        λ m. at_most before.1.1 j (omega (arith, signed, m.1)),
        λ h.
            let most = rising_exit_to_q r i row before.1.0 before.0 before.1.1 in
            let under = fits before.1.1 j h in
            (fits (split_of s.q.y) j (omega (arith, signed, most, h)), omega (arith, signed, under)),
      ))
      e

  -- ---- falling

  pub falling_from_p : IsFalling s → (i row above : ℤ) → (tile_of pr s.p).i <ℤ i → IsBorder pr s i row above
      → row ≤ℤ (tile_of pr s.p).j
  falling_from_p f i row above h b =
      at_least b (tile_of pr s.p).j
      (falling_right_of_p pr s i ((tile_of pr s.p).j +ℤ pos 1) f (right_of s.p.x i h)
      (too_many (split_of s.p.y) (tile_of pr s.p).j (omega (arith, signed))))

  pub falling_to_q : IsFalling s → (i row above : ℤ) → i ≤ℤ (tile_of pr s.q).i → IsBorder pr s i row above
      → (tile_of pr s.q).j ≤ℤ row
  falling_to_q f i row above h b =
      at_most b (tile_of pr s.q).j
      (omega (
        arith,
        signed,
        falling_left_of_q pr s i (tile_of pr s.q).j f (fits (split_of s.q.x) i h)
            (fits (split_of s.q.y) (tile_of pr s.q).j (omega (arith, signed))),
      ))

  falling_entry : IsFalling s → (i row : ℤ) → IsEntry pr s i row → (j : ℤ)
      → (((side *ℤ j) ≤ℤ s.p.y) × ((tile_height pr s *ℤ j) ≤ℤ height_at pr s i)) ↔ (j ≤ℤ row)
  falling_entry f i row e j =
      ⊎_elim
      (λ (first : (i ≡ (tile_of pr s.p).i) × (row ≡ (tile_of pr s.p).j)). (
        λ m. let most = at_most (split_of s.p.y) j m.0 in omega (arith, signed, first.1, most),
        λ h.
            let under = fits (split_of s.p.y) j (omega (arith, signed, first.1, h)) in
            let above = falling_left_of_p pr s i j f (fits (split_of s.p.x) i (omega (arith, signed, first.0))) under in
            (under, omega (arith, signed, above)),
      ))
      (λ (later : ((tile_of pr s.p).i <ℤ i) × ((above : ℤ) × IsBorder pr s i row above)). (
        λ m. at_most later.1.1 j m.1,
        λ h.
            let most = falling_from_p f i row later.1.0 later.0 later.1.1 in
            (fits (split_of s.p.y) j (omega (arith, signed, most, h)), fits later.1.1 j h),
      ))
      e

  falling_exit : IsFalling s → (i row : ℤ) → IsLowerExit pr s i row → (j : ℤ)
      → ((s.q.y <ℤ (side *ℤ (j +ℤ pos 1))) × (height_at pr s (i +ℤ pos 1) <ℤ (tile_height pr s *ℤ (j +ℤ pos 1)))) ↔ (row ≤ℤ j)
  falling_exit f i row e j =
      ⊎_elim
      (λ (last : (i ≡ (tile_of pr s.q).i) × (row ≡ (tile_of pr s.q).j)). (
        λ m. let least = at_least (split_of s.q.y) j m.0 in omega (arith, signed, last.1, least),
        λ h.
            let over = too_many (split_of s.q.y) j (omega (arith, signed, last.1, h)) in (
              over,
              falling_right_of_q pr s (i +ℤ pos 1) (j +ℤ pos 1) f
                  (right_of s.q.x (i +ℤ pos 1) (omega (arith, signed, last.0))) over,
            ),
      ))
      (λ (before : (i <ℤ (tile_of pr s.q).i) × ((above : ℤ) × IsBorder pr s (i +ℤ pos 1) row above)). (
        λ m. at_least before.1.1 j m.1,
        λ h.
            let least = falling_to_q f (i +ℤ pos 1) row before.1.0 (omega (arith, signed, before.0)) before.1.1 in
            (too_many (split_of s.q.y) j (omega (arith, signed, least, h)), too_many before.1.1 j h),
      ))
      e

  -- ---- the rows of a column

  module _ (ordered : point_cmp s.p s.q ≡ Less) (i : ℤ) (after_p : (tile_of pr s.p).i ≤ℤ i)
      (before_q : i ≤ℤ (tile_of pr s.q).i) where
    overlap : (low high j : ℤ) → low <ℤ (side *ℤ (j +ℤ pos 1)) → (side *ℤ j) ≤ℤ high
        → Overlaps pr s low high (record { i = i; j = j })
    overlap low high j h k =
        record {
          left = right_of s.p.x (i +ℤ pos 1) (omega (arith, signed, after_p));
          right = fits (split_of s.q.x) i before_q;
          under = h;
          over = k;
        }

    -- a rising segment meets the rows from entry to exit
    pub rising_rows : IsRising s → (from to : ℤ) → IsEntry pr s i from → IsUpperExit pr s i to → (j : ℤ)
        → IsTrue (meets_tile pr (record { i = i; j = j }) s) ↔ ((from ≤ℤ j) × (j ≤ℤ to))
    rising_rows r from to e x j = (
      λ m.
          let met = (met_rising pr some s ordered (record { i = i; j = j }) r).0 m in (
            (rising_entry r i from e j).0 (met.overlaps.under, met.enters),
            (rising_exit r i to x j).0 (met.overlaps.over, met.leaves),
          ),
      λ h.
          let enters = (rising_entry r i from e j).1 h.0 in
          let leaves = (rising_exit r i to x j).1 h.1 in
          (met_rising pr some s ordered (record { i = i; j = j }) r).1
          (record { overlaps = overlap s.p.y s.q.y j enters.0 leaves.0; enters = enters.1; leaves = leaves.1 }),
    )

    -- a falling one those from exit to entry
    pub falling_rows : IsFalling s → (from to : ℤ) → IsEntry pr s i from → IsLowerExit pr s i to → (j : ℤ)
        → IsTrue (meets_tile pr (record { i = i; j = j }) s) ↔ ((to ≤ℤ j) × (j ≤ℤ from))
    falling_rows f from to e x j = (
      λ m.
          let met = (met_falling pr some s ordered (record { i = i; j = j }) f).0 m in (
            (falling_exit f i to x j).0 (met.overlaps.under, met.leaves),
            (falling_entry f i from e j).0 (met.overlaps.over, met.enters),
          ),
      λ h.
          let leaves = (falling_exit f i to x j).1 h.0 in
          let enters = (falling_entry f i from e j).1 h.1 in
          (met_falling pr some s ordered (record { i = i; j = j }) f).1
          (record { overlaps = overlap s.q.y s.p.y j leaves.0 enters.0; enters = enters.1; leaves = leaves.1 }),
    )
