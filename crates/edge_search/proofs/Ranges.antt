-- Two conditions at once, and a number between two others.
use Rattle.std.proofs.Common.{◌≡◌, refl, sym, arith, Bool, true, false, ◌&&◌, true≢false}
use Rattle.std.specs.Prelude.{ℤ, ◌≤ℤ◌, int_le}
use Rattle.std.specs.Int.{int_min, int_max}
use Rattle.std.proofs.lemmas.Int.{ints, int_min_is, int_max_is}
use Rattle.grid_core.proofs.Signed.{from_le_true}

pub and_left : (a b : Bool) → (a && b) ≡ true → a ≡ true
and_left true b h = refl
and_left false b h = h

pub and_right : (a b : Bool) → (a && b) ≡ true → b ≡ true
and_right true b h = h
and_right false b h = absurd (true≢false (sym h))

pub between_low : (a b z : ℤ) → a ≤ℤ b → int_le (int_min a b) z ≡ true → a ≤ℤ z
between_low a b z h e = omega (arith, ints, from_le_true (int_min a b) z e, int_min_is a b)

pub between_high : (a b z : ℤ) → a ≤ℤ b → int_le z (int_max a b) ≡ true → z ≤ℤ b
between_high a b z h e = omega (arith, ints, from_le_true z (int_max a b) e, int_max_is a b)
