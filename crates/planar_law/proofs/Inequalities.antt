-- Short steps on orders and equations of numbers, over variables: `omega` then reads no polynomial.

use Rattle.std.proofs.Common.{◌≡◌, arith}
use Rattle.std.specs.Prelude.{ℤ, pos, ◌+ℤ◌, ◌-ℤ◌, ◌≤ℤ◌, ◌<ℤ◌}
use Rattle.grid_core.proofs.Signed.{signed}

-- ---- chains

pub weak : (x y : ℤ) → x <ℤ y → x ≤ℤ y
weak x y h = omega (arith, signed, h)

pub le_le : (x y z : ℤ) → x ≤ℤ y → y ≤ℤ z → x ≤ℤ z
le_le x y z h g = omega (arith, signed, h, g)

pub less_le : (x y z : ℤ) → x <ℤ y → y ≤ℤ z → x <ℤ z
less_le x y z h g = omega (arith, signed, h, g)

pub le_less : (x y z : ℤ) → x ≤ℤ y → y <ℤ z → x <ℤ z
le_less x y z h g = omega (arith, signed, h, g)

-- an order over numbers that are known by other names
pub le_as : (a b c d : ℤ) → a ≡ c → b ≡ d → a ≤ℤ b → c ≤ℤ d
le_as a b c d e f h = omega (arith, signed, e, f, h)

pub lt_as : (a b c d : ℤ) → a ≡ c → b ≡ d → a <ℤ b → c <ℤ d
lt_as a b c d e f h = omega (arith, signed, e, f, h)

-- ---- above 0, and 0

-- the difference of two numbers in order
pub rise : (x y : ℤ) → x <ℤ y → pos 0 <ℤ (y -ℤ x)
rise x y h = omega (arith, signed, h)

pub no_fall : (x y : ℤ) → x ≤ℤ y → pos 0 ≤ℤ (y -ℤ x)
no_fall x y h = omega (arith, signed, h)

-- the size of a negative number
pub size : (x : ℤ) → x <ℤ pos 0 → pos 0 <ℤ (pos 0 -ℤ x)
size x h = omega (arith, signed, h)

-- a sum of positive numbers
pub sum_above : (x y : ℤ) → pos 0 <ℤ x → pos 0 <ℤ y → pos 0 <ℤ (x +ℤ y)
sum_above x y h g = omega (arith, signed, h, g)

-- a positive number by another name
pub above_as : (x y : ℤ) → x ≡ y → pos 0 <ℤ y → pos 0 <ℤ x
above_as x y e h = omega (arith, signed, e, h)

-- neither negative nor positive
pub zero : (x : ℤ) → pos 0 ≤ℤ x → x ≤ℤ pos 0 → x ≡ pos 0
zero x h g = omega (arith, signed, h, g)

-- equal numbers have no difference, and the other way
pub no_difference : (x y : ℤ) → x ≡ y → x -ℤ y ≡ pos 0
no_difference x y e = omega (arith, signed, e)

pub equal : (x y : ℤ) → x -ℤ y ≡ pos 0 → x ≡ y
equal x y e = omega (arith, signed, e)
