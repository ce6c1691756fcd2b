-- Facts on signed numbers that `omega` and `grind` want.
-- A number z is read as the difference of its two parts, `up z - down z`, of which one is 0.
-- Sizes follow from those parts; each test is tied to the order that it tests.

use Rattle.std.proofs.Common.{◌≡◌, ℕ, ◌+◌, ◌*◌, ◌<◌, ◌≤◌, ◌^◌, true, false, arith, refl, inl, inr}
use Rattle.std.specs.Prelude.{ℤ, pos, negsuc, neg_ℤ, ◌+ℤ◌, ◌-ℤ◌, ◌*ℤ◌, ◌≤ℤ◌, ◌<ℤ◌, ◌⊎◌}
use Rattle.std.specs.Prelude.{unsigned_abs, int_lt, int_le, not, FitsSigned}
use Rattle.std.proofs.lemmas.Int.{ints, unsigned_abs-mul, fits_signed_from_abs}
use Rattle.std.proofs.lemmas.Nat.{mul-le}
use borrow.Author.Differences.{up, down}
use mir.Syntax.{Width}
use mir.Val.{hbits}

-- a size is the sum of the two parts
pub unsigned_abs-parts : (z : ℤ) → unsigned_abs z ≡ up z + down z
unsigned_abs-parts (pos n) = omega arith
unsigned_abs-parts (negsuc n) = omega arith

-- orders, sums, products and sizes of signed numbers, for `omega` and `grind`
pub ruleset signed = (ints, unsigned_abs-parts)

-- one of the two parts is 0
pub one_part : (z : ℤ) → (up z ≡ 0) ⊎ (down z ≡ 0)
one_part (pos n) = inr refl
one_part (negsuc n) = inl refl

-- ---- sizes

-- the size of a sum is at most the sum of the sizes
pub abs-add : (a b : ℤ) → unsigned_abs (a +ℤ b) ≤ unsigned_abs a + unsigned_abs b
abs-add a b = omega (arith, signed, one_part (a +ℤ b))

-- the size of a difference is at most the sum of the sizes
pub abs-sub : (a b : ℤ) → unsigned_abs (a -ℤ b) ≤ unsigned_abs a + unsigned_abs b
abs-sub a b = omega (arith, signed, one_part (a -ℤ b))

-- a number and its negation have one size
pub abs-neg : (a : ℤ) → unsigned_abs (neg_ℤ a) ≡ unsigned_abs a
abs-neg a = omega (arith, signed, one_part a, one_part (neg_ℤ a))

-- a sum is within m + n where its parts are within m and n
pub sum_within : (a b : ℤ) (m n : ℕ) → unsigned_abs a ≤ m → unsigned_abs b ≤ n → unsigned_abs (a +ℤ b) ≤ m + n
sum_within a b m n h k = omega (arith, abs-add a b)

-- a difference is within m + n where its parts are within m and n
pub difference_within : (a b : ℤ) (m n : ℕ) → unsigned_abs a ≤ m → unsigned_abs b ≤ n → unsigned_abs (a -ℤ b) ≤ m + n
difference_within a b m n h k = omega (arith, abs-sub a b)

-- a product is within m * n where its factors are within m and n
pub product_within : (a b : ℤ) (m n : ℕ) → unsigned_abs a ≤ m → unsigned_abs b ≤ n → unsigned_abs (a *ℤ b) ≤ m * n
product_within a b m n h k = omega (arith, unsigned_abs-mul a b, mul-le _ _ m n h k)

-- a number whose size is below half of a width's range fits that width
pub fits_by_size : (w : Width) (z : ℤ) → unsigned_abs z < 2 ^ hbits w → FitsSigned w z
fits_by_size w z h = fits_signed_from_abs w z h

-- a size that is at most n puts a number between the two bounds
pub size_bounds : (z : ℤ) (n : ℕ) → unsigned_abs z ≤ n → (neg_ℤ (pos n) ≤ℤ z) × (z ≤ℤ pos n)
size_bounds z n h = omega (arith, signed)

-- a number between the two bounds has a size that is at most n
pub size_between : (z : ℤ) (n : ℕ) → neg_ℤ (pos n) ≤ℤ z → z ≤ℤ pos n → unsigned_abs z ≤ n
size_between z n h k = omega (arith, signed, one_part z)

-- a number of no size is 0
pub size_zero : (z : ℤ) → unsigned_abs z ≡ 0 → z ≡ pos 0
size_zero z h = omega (arith, signed)

-- ---- tests

-- `a < b` answers true where a is below b
pub lt_true : (a b : ℤ) → a <ℤ b → int_lt a b ≡ true
lt_true a b h = grind (arith, ints)

-- `a < b` answers false where a is not below b
pub lt_false : (a b : ℤ) → b ≤ℤ a → int_lt a b ≡ false
lt_false a b h = grind (arith, ints)

-- a is below b where `a < b` answers true
pub from_lt_true : (a b : ℤ) → int_lt a b ≡ true → a <ℤ b
from_lt_true a b h = omega (arith, ints)

-- a is not below b where `a < b` answers false
pub from_lt_false : (a b : ℤ) → int_lt a b ≡ false → b ≤ℤ a
from_lt_false a b h = omega (arith, ints)

-- `a <= b` answers true where a is at most b
pub le_true : (a b : ℤ) → a ≤ℤ b → int_le a b ≡ true
le_true a b h = grind (arith, ints)

-- `a <= b` answers false where a is above b
pub le_false : (a b : ℤ) → b <ℤ a → int_le a b ≡ false
le_false a b h = grind (arith, ints)

-- a is at most b where `a <= b` answers true
pub from_le_true : (a b : ℤ) → int_le a b ≡ true → a ≤ℤ b
from_le_true a b h = omega (arith, ints)

-- `a <= b` is the denial of `b < a`
pub le-not_lt : (a b : ℤ) → int_le a b ≡ not (int_lt b a)
le-not_lt a b = grind (arith, ints)

-- `a < b` is the denial of `b <= a`
pub lt-not_le : (a b : ℤ) → int_lt a b ≡ not (int_le b a)
lt-not_le a b = grind (arith, ints)

-- two tests `<` answer alike where each order gives the other
pub same_lt : (a b c d : ℤ) → (a <ℤ b → c <ℤ d) → (c <ℤ d → a <ℤ b) → int_lt a b ≡ int_lt c d
same_lt a b c d f g = grind (arith, ints)

-- a test `<` is the denial of another where the one order is the other's denial
pub opposite_lt : (a b c d : ℤ) → (a <ℤ b → d ≤ℤ c) → (d ≤ℤ c → a <ℤ b) → int_lt a b ≡ not (int_lt c d)
opposite_lt a b c d f g = grind (arith, ints)

-- a test `<` and a test `<=` answer alike where each order gives the other
pub same_lt_le : (a b c d : ℤ) → (a <ℤ b → c ≤ℤ d) → (c ≤ℤ d → a <ℤ b) → int_lt a b ≡ int_le c d
same_lt_le a b c d f g = grind (arith, ints)

-- two tests `<=` answer alike where each order gives the other
pub same_le : (a b c d : ℤ) → (a ≤ℤ b → c ≤ℤ d) → (c ≤ℤ d → a ≤ℤ b) → int_le a b ≡ int_le c d
same_le a b c d f g = grind (arith, ints)
