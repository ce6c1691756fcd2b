-- Whole parts and a rest: a number of parts is at most the whole ones exactly where it fits the
-- number, so that the whole parts are the quotient that is rounded down.

use Rattle.std.proofs.Common.{◌≡◌, subst, arith}
use Rattle.std.specs.Prelude.{ℤ, pos, ◌+ℤ◌, ◌-ℤ◌, ◌*ℤ◌, ◌≤ℤ◌, ◌<ℤ◌}
use Rattle.std.proofs.Common.{⊎_elim}
use Rattle.std.specs.Int.{int_div_euclid}
use Rattle.grid_core.proofs.Signed.{signed}
use Rattle.grid_core.proofs.Ring.{int_mul-le_left, int_mul-add, int_lt_or_le}
use Rattle.grid_core.proofs.Quotients.{times_more}
use Rattle.grid_core.proofs.Crossings.{floor_low, floor_high}
use Rattle.tile_walk.specs.Borders.{IsSplit}

module _ {part number whole rest : ℤ} (split : IsSplit part number whole rest) (j : ℤ) where
  -- j whole parts fit the number exactly where j is at most the quotient
  pub fits : j ≤ℤ whole → (part *ℤ j) ≤ℤ number
  fits h =
      let less = int_mul-le_left part j whole (omega (arith, signed, split.low, split.high)) h in
      omega (arith, signed, split.whole_and_rest, split.low, less)

  pub at_most : (part *ℤ j) ≤ℤ number → j ≤ℤ whole
  at_most h =
      ⊎_elim
      (λ (l : whole <ℤ j).
      absurd
      (let more = int_mul-le_left part (whole +ℤ pos 1) j (omega (arith, signed, split.low, split.high))
      (omega (arith, signed, l)) in
      omega (arith, signed, split.whole_and_rest, split.high, times_more part whole, more, h)))
      (λ l. l)
      (int_lt_or_le whole j)

  -- one more than j are too many exactly where j is at least the quotient
  pub at_least : number <ℤ (part *ℤ (j +ℤ pos 1)) → whole ≤ℤ j
  at_least h =
      ⊎_elim
      (λ (l : j <ℤ whole).
      absurd
      (let more = int_mul-le_left part (j +ℤ pos 1) whole (omega (arith, signed, split.low, split.high))
      (omega (arith, signed, l)) in
      omega (arith, signed, split.whole_and_rest, split.low, more, h)))
      (λ l. l)
      (int_lt_or_le j whole)

  pub too_many : whole ≤ℤ j → number <ℤ (part *ℤ (j +ℤ pos 1))
  too_many h =
      let more = int_mul-le_left part (whole +ℤ pos 1) (j +ℤ pos 1)
      (omega (arith, signed, split.low, split.high)) (omega (arith, signed, h)) in
      omega (arith, signed, split.whole_and_rest, split.high, times_more part whole, more)

-- the quotient that is rounded down, and what is left
pub split_by_quotient : (part number : ℤ) → pos 0 <ℤ part
    → IsSplit part number (int_div_euclid number part) (number -ℤ part *ℤ int_div_euclid number part)
split_by_quotient part number h =
    let low = floor_low number part h in
    let high = floor_high number part h in
    let more = times_more part (int_div_euclid number part) in
    record {
      whole_and_rest = omega (arith, signed);
      low = omega (arith, signed, low);
      high = omega (arith, signed, high, more);
    }

-- ---- sums

-- so many whole parts and a rest more, where the rests make no part together, and where they do
module _ {part number whole rest : ℤ} (split : IsSplit part number whole rest) (more left : ℤ) where
  pub sum_below : pos 0 ≤ℤ left → (rest +ℤ left) <ℤ part
      → IsSplit part (number +ℤ (part *ℤ more +ℤ left)) (whole +ℤ more) (rest +ℤ left)
  sum_below h k =
      record {
        whole_and_rest = omega (arith, signed, split.whole_and_rest, int_mul-add part whole more);
        low = omega (arith, signed, split.low, h);
        high = k;
      }

  pub sum_above : left <ℤ part → part ≤ℤ (rest +ℤ left)
      → IsSplit part (number +ℤ (part *ℤ more +ℤ left)) (whole +ℤ more +ℤ pos 1) (rest +ℤ left -ℤ part)
  sum_above h k =
      record {
        whole_and_rest = omega (
          arith,
          signed,
          split.whole_and_rest,
          int_mul-add part whole more,
          times_more part (whole +ℤ more),
        );
        low = omega (arith, signed, k);
        high = omega (arith, signed, split.high, h);
      }

-- ---- the same split

pub same_split : {part part' number number' whole rest : ℤ} → part ≡ part' → number ≡ number'
    → IsSplit part number whole rest → IsSplit part' number' whole rest
same_split {whole = whole} {rest = rest} e f split = subst (λ (x : ℤ × ℤ). IsSplit x.0 x.1 whole rest) (λ i. (e i, f i)) split
