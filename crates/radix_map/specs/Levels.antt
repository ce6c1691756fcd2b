-- The eight levels of a map's tree, from below: leaves, six kinds of inner nodes, and the root. A node
-- of one level slots a key by four of its bits, the root by the highest.
use Rattle.std.specs.Prelude.{ℕ, ◌+◌, ◌^◌, List}
use Rattle.radix_map.specs.declared.level.Leaf.{Leaf}
use Rattle.radix_map.specs.declared.level.Node.{Node}
use Rattle.radix_map.specs.Entries.{entries_of, single}

abbrev pub Node1 : Type 0 → Type 0
Node1 V = Node (Leaf V)

abbrev pub Node2 : Type 0 → Type 0
Node2 V = Node (Node1 V)

abbrev pub Node3 : Type 0 → Type 0
Node3 V = Node (Node2 V)

abbrev pub Node4 : Type 0 → Type 0
Node4 V = Node (Node3 V)

abbrev pub Node5 : Type 0 → Type 0
Node5 V = Node (Node4 V)

abbrev pub Node6 : Type 0 → Type 0
Node6 V = Node (Node5 V)

abbrev pub Root : Type 0 → Type 0
Root V = Node (Node6 V)

-- the entries of a leaf
abbrev pub leaf_entries : {V : Type 0} → Leaf V → List (ℕ × V)
leaf_entries x = entries_of single 1 x.slots

-- the entries of a node, where f tells those of its children, which slot a key by the four bits from s on
abbrev pub node_entries : {T V : Type 0} → (T → List (ℕ × V)) → ℕ → Node T → List (ℕ × V)
node_entries f s x = entries_of f (2 ^ (s + 4)) x.slots

abbrev pub entries1 : {V : Type 0} → Node1 V → List (ℕ × V)
entries1 x = node_entries leaf_entries 0 x

abbrev pub entries2 : {V : Type 0} → Node2 V → List (ℕ × V)
entries2 x = node_entries entries1 4 x

abbrev pub entries3 : {V : Type 0} → Node3 V → List (ℕ × V)
entries3 x = node_entries entries2 8 x

abbrev pub entries4 : {V : Type 0} → Node4 V → List (ℕ × V)
entries4 x = node_entries entries3 12 x

abbrev pub entries5 : {V : Type 0} → Node5 V → List (ℕ × V)
entries5 x = node_entries entries4 16 x

abbrev pub entries6 : {V : Type 0} → Node6 V → List (ℕ × V)
entries6 x = node_entries entries5 20 x

-- the entries of the root
abbrev pub root_entries : {V : Type 0} → Root V → List (ℕ × V)
root_entries x = node_entries entries6 24 x
