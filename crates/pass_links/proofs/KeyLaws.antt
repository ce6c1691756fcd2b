-- Keys of nodes: that a key is itself, that two differ, and the test of two in either order.
use Rattle.std.proofs.Common.{◌≡◌, ◌≢◌, refl, ℕ, arith, true, false}
use Rattle.std.specs.Prelude.{◌==◌}
use Rattle.std.proofs.lemmas.Bool.Decides.{Decides-eqb, nat_tests}

-- a key is itself
pub key_itself : (k : ℕ) → (k == k) ≡ true
key_itself k = (Decides-eqb k k).1 refl

-- two keys that are two
pub keys_differ : (j k : ℕ) → j ≢ k → (j == k) ≡ false
keys_differ j k h = grind (arith, nat_tests, h)

-- the test of keys in either order
pub keys_swapped : (j k : ℕ) → (j == k) ≡ (k == j)
keys_swapped j k = grind (arith, nat_tests)
