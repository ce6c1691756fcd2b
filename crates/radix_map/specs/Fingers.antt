-- What a path into a map finds: the entries of the nodes that it leads through, and the leaf at its end.
use Rattle.std.specs.Prelude.{ℕ, List, Option, Some, None, option_copied}
use Rattle.std.specs.Borrow.{Bor}
use Rattle.radix_map.specs.declared.find.BlockLeaf.{BlockLeaf}
use Rattle.radix_map.specs.declared.find.NodeFinger.{NodeFinger}
use Rattle.radix_map.specs.Levels.{Node1, Node2, Node3, Node4, Node5, Node6, node_entries}
use Rattle.radix_map.specs.Levels.{entries1, entries2, entries3, entries4, entries5, entries6}
use Rattle.radix_map.specs.Inner.{IsFingerOf, IsLeafOf}
use Rattle.radix_map.specs.Entries.{keys_end}

-- the entries of a node above leaves, where a path ends
abbrev pub end_found : {V : Type 0} → Bor (Node1 V) → List (ℕ × V)
end_found f = entries1 f.now

-- the entries of a node, where f tells those of a child
abbrev pub node_found : {T F V : Type 0} → (T → List (ℕ × V)) → ℕ → NodeFinger T F → List (ℕ × V)
node_found f s w = node_entries f s w.node.now

-- the end of a path is sound
abbrev pub end_path : {V : Type 0} → Bor (Node1 V) → Type 0
end_path f = Unit {0}

-- a path into a node is sound where it leads into the child that it says
abbrev pub node_path : {T F V : Type 0} → (F → Type 0) → (F → List (ℕ × V)) → (T → List (ℕ × V)) → NodeFinger T F → Type 0
node_path P found f w = IsFingerOf P found f w.node.now.slots w.at w.inner

abbrev pub RootFinger : Type 0 → Type 0
RootFinger V =
    NodeFinger (Node6 V) (NodeFinger (Node5 V) (NodeFinger (Node4 V) (NodeFinger (Node3 V) (NodeFinger (Node2 V)
    (NodeFinger (Node1 V) (Bor (Node1 V)))))))

-- the entries of the root
abbrev pub root_found : {V : Type 0} → RootFinger V → List (ℕ × V)
root_found w = node_found entries6 24 w

-- a path into the root is sound
abbrev pub root_sound : {V : Type 0} → RootFinger V → Type 0
root_sound w =
    let p2 = node_path end_path end_found entries1 in
    let p3 = node_path p2 (node_found entries1 4) entries2 in
    let p4 = node_path p3 (node_found entries2 8) entries3 in
    let p5 = node_path p4 (node_found entries3 12) entries4 in
    let p6 = node_path p5 (node_found entries4 16) entries5 in
    node_path p6 (node_found entries5 20) entries6 w

-- the leaf that is kept, if one is, is that of its block in entries es
abbrev pub IsKeptOf : {V : Type 0} → List (ℕ × V) → Option (BlockLeaf V) → Type 0
IsKeptOf es None = Unit {0}
IsKeptOf es (Some kept) = IsLeafOf keys_end es kept.block (option_copied kept.leaf)
