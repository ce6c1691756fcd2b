-- Quotients that are rounded down, by their two bounds: the quotient of a number and m, times m, is
-- at most the number, and one more than it, times m, is above the number.

use Rattle.std.proofs.Common.{◌≡◌, refl, arith, [], ◌∷◌}
use Rattle.std.specs.Prelude.{ℤ, pos, ◌+ℤ◌, ◌*ℤ◌, ◌≤ℤ◌, ◌<ℤ◌}
use Rattle.std.specs.Int.{int_div_euclid}
use Rattle.grid_core.proofs.Signed.{signed}
use Rattle.grid_core.proofs.Ring.{int_mul-le_left, int_lt_of_mul}
use Rattle.grid_core.proofs.Polynomial.{V, K, ◌⊕◌, ◌⊗◌, same_polynomial}
use Rattle.grid_core.proofs.Crossings.{floor_low, floor_high}

-- m times one more
pub times_more : (m q : ℤ) → m *ℤ (q +ℤ pos 1) ≡ m *ℤ q +ℤ m
times_more m q = same_polynomial (m ∷ q ∷ []) (V 0 ⊗ (V 1 ⊕ K (pos 1))) (V 0 ⊗ V 1 ⊕ V 0) refl

-- the quotient is at most j exactly where the number is below m (j + 1)
pub floor_le : (a m j : ℤ) → pos 0 <ℤ m → a <ℤ (m *ℤ (j +ℤ pos 1)) → int_div_euclid a m ≤ℤ j
floor_le a m j h k =
    let low = floor_low a m h in
    let below : (m *ℤ int_div_euclid a m) <ℤ (m *ℤ (j +ℤ pos 1)) = omega (arith, signed, low, k) in
    let less = int_lt_of_mul m (int_div_euclid a m) (j +ℤ pos 1) h below in
    omega (arith, signed, less)

pub below_floor_le : (a m j : ℤ) → pos 0 <ℤ m → int_div_euclid a m ≤ℤ j → a <ℤ (m *ℤ (j +ℤ pos 1))
below_floor_le a m j h k =
    let high = floor_high a m h in
    let more = int_mul-le_left m (int_div_euclid a m +ℤ pos 1) (j +ℤ pos 1) (omega (arith, signed, h)) (omega (arith, signed, k)) in
    omega (arith, signed, high, more)

-- the quotient is at least j exactly where the number is at least m j
pub floor_ge : (a m j : ℤ) → pos 0 <ℤ m → (m *ℤ j) ≤ℤ a → j ≤ℤ int_div_euclid a m
floor_ge a m j h k =
    let high = floor_high a m h in
    let below : (m *ℤ j) <ℤ (m *ℤ (int_div_euclid a m +ℤ pos 1)) = omega (arith, signed, high, k) in
    let less = int_lt_of_mul m j (int_div_euclid a m +ℤ pos 1) h below in
    omega (arith, signed, less)

pub above_floor_ge : (a m j : ℤ) → pos 0 <ℤ m → j ≤ℤ int_div_euclid a m → (m *ℤ j) ≤ℤ a
above_floor_ge a m j h k =
    let low = floor_low a m h in
    let less = int_mul-le_left m j (int_div_euclid a m) (omega (arith, signed, h)) k in
    omega (arith, signed, low, less)

-- a greater number has the greater quotient, or the same
pub floor_rises : (a b m : ℤ) → pos 0 <ℤ m → a ≤ℤ b → int_div_euclid a m ≤ℤ int_div_euclid b m
floor_rises a b m h k =
    let low = floor_low a m h in
    floor_ge b m (int_div_euclid a m) h (omega (arith, signed, low, k))
