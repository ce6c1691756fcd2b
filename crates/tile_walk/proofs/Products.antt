-- Products of 64 bits that fit, with no trace of their bits.

use Rattle.std.proofs.Common.{◌≡◌, refl, ap, ◌∙◌, ℕ, ◌<◌, ◌≤◌, ◌^◌, ◌+◌, arith, w64, SFits, to_z, of_z, to_z-of_z}
use Rattle.std.specs.Prelude.{ℤ, pos, ◌*ℤ◌, ◌+ℤ◌, ◌-ℤ◌, ◌<ℤ◌, unsigned_abs}
use Rattle.std.specs.Int.{int_div_euclid}
use Rattle.grid_core.proofs.Signed.{signed, product_within, fits_by_size, size_between}
use Rattle.grid_core.proofs.Crossings.{floor_low, floor_high}
use Rattle.grid_core.proofs.Quotients.{times_more}
use Rattle.grid_core.proofs.Ring.{int_mul_comm, int_mul_pos}
use Rattle.tile_walk.specs.Borders.{IsSplit}
use Rattle.tile_walk.proofs.Floors.{split_by_quotient}

-- a product whose size is below 2^63
pub made : (a b : ℤ) → SFits w64 a → SFits w64 b → unsigned_abs (a *ℤ b) < 2 ^ 63
    → to_z w64 (of_z w64 (to_z w64 (of_z w64 a) *ℤ to_z w64 (of_z w64 b))) ≡ a *ℤ b
made a b left right small =
    let fits : SFits w64 (a *ℤ b) = fits_by_size w64 (a *ℤ b) (omega arith) in
    simp to_z-of_z refl

-- of factors up to 2^17 in size, and one more, and 2^31
pub widened_within : (a b : ℤ) → unsigned_abs a ≤ 2 ^ 17 + 1 → unsigned_abs b ≤ 2 ^ 31
    → unsigned_abs (a *ℤ b) ≤ 2 ^ 48 + 2 ^ 31
widened_within a b h k = let l = product_within a b (2 ^ 17 + 1) (2 ^ 31) h k in omega arith

-- of factors up to 2^31 in size, and one more
pub product_size : (a b : ℤ) → unsigned_abs a ≤ 2 ^ 31 → unsigned_abs b ≤ 2 ^ 31 + 1
    → unsigned_abs (a *ℤ b) ≤ 2 ^ 62 + 2 ^ 31
product_size a b h k = let l = product_within a b (2 ^ 31) (2 ^ 31 + 1) h k in omega arith

-- so many parts as fit a number: their product, and what is left
pub whole_parts : (part number : ℤ) → pos 0 <ℤ part → unsigned_abs part ≤ 2 ^ 49
    → unsigned_abs number ≤ 2 ^ 62 + 2 ^ 50
    → unsigned_abs (part *ℤ int_div_euclid number part) < 2 ^ 63
whole_parts part number h k l =
    let low = floor_low number part h in
    let high = floor_high number part h in
    let more = times_more part (int_div_euclid number part) in
    let s = size_between (part *ℤ int_div_euclid number part) (2 ^ 62 + 2 ^ 51)
    (omega (arith, signed, high, more, k, l)) (omega (arith, signed, low, k, l)) in
    omega arith

-- the quotient of a number, and the number less the parts that fit it
pub split_made : (part number whole : ℤ) → SFits w64 part → SFits w64 number → SFits w64 whole
    → whole ≡ int_div_euclid number part → pos 0 <ℤ part → unsigned_abs part ≤ 2 ^ 49
    → unsigned_abs number ≤ 2 ^ 62 + 2 ^ 50
    → IsSplit part number (to_z w64 (of_z w64 whole))
    (to_z w64 (of_z w64 (to_z w64 (of_z w64 number)
    -ℤ to_z w64 (of_z w64 (to_z w64 (of_z w64 part) *ℤ to_z w64 (of_z w64 whole))))))
split_made part number whole fits_part fits_number fits_whole e h k l =
    let small : unsigned_abs (part *ℤ whole) < 2 ^ 63 = rw e (whole_parts part number h k l) in
    let fits_product : SFits w64 (part *ℤ whole) = fits_by_size w64 (part *ℤ whole) (omega arith) in
    let split : IsSplit part number whole (number -ℤ part *ℤ whole) = rw e (split_by_quotient part number h) in
    let size : unsigned_abs (number -ℤ part *ℤ whole) ≤ 2 ^ 49 =
    size_between (number -ℤ part *ℤ whole) (2 ^ 49)
    (omega (arith, signed, split.low)) (omega (arith, signed, split.high, k)) in
    let fits_rest : SFits w64 (number -ℤ part *ℤ whole) =
    fits_by_size w64 (number -ℤ part *ℤ whole) (omega arith) in
    simp to_z-of_z split

-- a height, from the way to the border and from the point's own height
pub height_is : (dx dy x y u : ℤ) {way twice more risen start : ℤ} → way ≡ u -ℤ x → twice ≡ pos 2 *ℤ way -ℤ pos 1
    → more ≡ pos 2 *ℤ y +ℤ pos 1 → risen ≡ twice *ℤ dy → start ≡ dx *ℤ more
    → risen +ℤ start ≡ dy *ℤ (pos 2 *ℤ (u -ℤ x) -ℤ pos 1) +ℤ dx *ℤ (pos 2 *ℤ y +ℤ pos 1)
height_is dx dy x y u {way} {twice} {more} {risen} {start} w t m r s = λ i. across i +ℤ own i
  where
    across : risen ≡ dy *ℤ (pos 2 *ℤ (u -ℤ x) -ℤ pos 1)
    across =
        r ∙ ap (λ k. k *ℤ dy) (t ∙ ap (λ k. pos 2 *ℤ k -ℤ pos 1) w) ∙ int_mul_comm (pos 2 *ℤ (u -ℤ x) -ℤ pos 1) dy

    own : start ≡ dx *ℤ (pos 2 *ℤ y +ℤ pos 1)
    own = s ∙ ap (λ k. dx *ℤ k) m

-- the height of a tile is positive
pub height_positive : (side : ℕ) (dx : ℤ) → 0 < side → pos 0 <ℤ dx → pos 0 <ℤ (pos 2 *ℤ pos side *ℤ dx)
height_positive side dx h k = int_mul_pos (pos 2 *ℤ pos side) dx (omega (arith, signed, h)) k
