-- What is left of a walk over a map: the entries that were not yet given.
use Rattle.std.specs.Prelude.{ℕ, ◌+◌, ◌*◌, ◌^◌, ◌≤◌, Option, Some, None, List, ◌∷◌, ◌++◌}
use Rattle.std.specs.Borrow.{Bor}
use Rattle.radix_map.specs.declared.level.Leaf.{Leaf}
use Rattle.radix_map.specs.declared.entries.LeafWalk.{LeafWalk}
use Rattle.radix_map.specs.declared.entries.NodeWalk.{NodeWalk}
use Rattle.radix_map.specs.Entries.{entries_behind, part, single, keys_end}
use Rattle.radix_map.specs.Levels.{Node1, Node2, Node3, Node4, Node5, Node6, leaf_entries}
use Rattle.radix_map.specs.Levels.{entries1, entries2, entries3, entries4, entries5, entries6}
use Rattle.radix_map.specs.Inner.{inner_sound}

-- what is left of a walk over a leaf
abbrev pub leaf_left : {V : Type 0} → LeafWalk V → List (ℕ × V)
leaf_left w = entries_behind single 1 w.base w.at w.leaf.now.slots

-- what is left of a walk over a node, where f tells the entries of a child and g what is left of a walk over one
abbrev pub node_left : {T W V : Type 0} → (T → List (ℕ × V)) → (W → List (ℕ × V)) → ℕ → NodeWalk T W → List (ℕ × V)
node_left f g s w = part g w.inner ++ entries_behind f (2 ^ (s + 4)) w.base w.at w.node.now.slots

-- a walk over a leaf stays within the keys
abbrev pub leaf_sound : {V : Type 0} → LeafWalk V → Type 0
leaf_sound w = (w.base + 16 ≤ keys_end) × (w.at ≤ 16)

-- so does a walk over a node, where P says so of a walk over a child
abbrev pub node_sound : {T W : Type 0} → (W → Type 0) → ℕ → NodeWalk T W → Type 0
node_sound P s w = (w.base + 16 * 2 ^ (s + 4) ≤ keys_end) × (w.at ≤ 16) × inner_sound P w.inner

abbrev pub RootWalk : Type 0 → Type 0
RootWalk V =
    NodeWalk (Node6 V) (NodeWalk (Node5 V) (NodeWalk (Node4 V) (NodeWalk (Node3 V) (NodeWalk (Node2 V)
    (NodeWalk (Node1 V) (NodeWalk (Leaf V) (LeafWalk V)))))))

-- what is left of a walk over the root
abbrev pub root_left : {V : Type 0} → RootWalk V → List (ℕ × V)
root_left w =
    node_left entries6 (node_left entries5 (node_left entries4 (node_left entries3 (node_left entries2 (node_left entries1
    (node_left leaf_entries leaf_left 0) 4) 8) 12) 16) 20) 24 w

-- a walk over the root stays within the keys
abbrev pub root_sound : {V : Type 0} → RootWalk V → Type 0
root_sound w =
    node_sound (node_sound (node_sound (node_sound (node_sound (node_sound (node_sound leaf_sound 0) 4) 8) 12) 16) 20) 24 w

-- the entry that waits before the others, if there is one, and the others
abbrev pub behind_first : {V : Type 0} → Option (ℕ × Bor V) → List (ℕ × V) → List (ℕ × V)
behind_first None es = es
behind_first (Some e) es = (e.0, e.1.now) ∷ es
