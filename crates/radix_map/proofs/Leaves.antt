-- The leaf of a block of sixteen keys: all keys of a block have the same slot at each level above, so that what one of them finds there the others find too.
use Rattle.std.proofs.Common.{◌≡◌, ℕ, ◌+◌, ◌*◌, ◌/◌, ◌%◌, ◌^◌, List, [], Option, None, refl, sym, ap, ◌∙◌}
use Rattle.std.proofs.Math.Nat.{div-div-eq-div-mul}
use Rattle.radix_map.specs.declared.level.Leaf.{Leaf}
use Rattle.radix_map.specs.Entries.{Rises, part, entries_of, node_map}
use Rattle.radix_map.specs.Inner.{IsLeafOf}
use Rattle.radix_map.specs.Levels.{leaf_entries}
use Rattle.radix_map.specs.Slots.{item_at}
use Rattle.radix_map.specs.Rising.{leaf_rises, pow_16}
use Rattle.radix_map.proofs.Trees.{node_value}

-- the bits from s + 4 on are bits of the block
block_bits : (k s : ℕ) → k / 2 ^ (s + 4) ≡ k / 16 / 2 ^ s
block_bits k s = ap (λ n. k / n) (pow_16 s) ∙ sym (div-div-eq-div-mul k 16 (2 ^ s))

block_slot : (k key s shift : ℕ) → shift ≡ s + 4 → k / 16 ≡ key / 16 → key / 2 ^ shift % 16 ≡ k / 2 ^ shift % 16
block_slot k key s shift e q =
    ap (λ t. key / 2 ^ t % 16) e ∙ ap (λ n. n % 16) (block_bits key s ∙ ap (λ n. n / 2 ^ s) (sym q) ∙ sym (block_bits k s)) ∙ sym (ap (λ t. k / 2 ^ t % 16) e)

pub node_leaf : {T V : Type 0} (f : T → List (ℕ × V)) (s : ℕ) → ((x : T) → Rises 0 (16 * 2 ^ s) (f x)) → (xs : List (Option T)) (key shift at : ℕ) (o : Option T) (leaf : Option (Leaf V)) → shift ≡ s + 4 → at ≡ key / 2 ^ shift % 16 → o ≡ item_at xs at → IsLeafOf (16 * 2 ^ s) (part f o) (key / 16) leaf → IsLeafOf (16 * 2 ^ (s + 4)) (entries_of f (2 ^ (s + 4)) xs) (key / 16) leaf
node_leaf f s h xs key shift at o leaf e i p g k q = node_value f s h xs k shift at o e (i ∙ block_slot k key s shift e q) p ∙ g k q

-- a node above leaves, whose item at the slot is the leaf
pub end_leaf : {V : Type 0} (xs : List (Option (Leaf V))) (key shift at : ℕ) (leaf : Option (Leaf V)) → shift ≡ 4 → at ≡ key / 2 ^ shift % 16 → leaf ≡ item_at xs at → IsLeafOf 256 (node_map leaf_entries 0 xs) (key / 16) leaf
end_leaf xs key shift at leaf e i p k q = node_value leaf_entries 0 (λ x. leaf_rises x.slots) xs k shift at leaf e (i ∙ block_slot k key 0 shift e q) p

-- a free slot has no leaf
pub no_leaf : {V : Type 0} (width b : ℕ) → IsLeafOf {V = V} width [] b None
no_leaf width b k q = refl
