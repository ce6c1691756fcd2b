-- The nodes as functions of their keys: what is stored at a key, and which keys come behind it and
-- before it in each of its two lists.
use Rattle.std.specs.Prelude.{◌≡◌, ◌≢◌, ℕ, ◌==◌, cond, List, Option, None, Some}
use Rattle.grid_core.specs.declared.point.Point.{Point}
use Rattle.grid_core.specs.Name.{Label}
use Rattle.pass_links.specs.declared.node.Node.{Node}
use Rattle.pass_links.specs.Chain.{end}
use Rattle.pass_links.specs.Nodes.{stored_at}

-- the key behind a node in its segment's list; the end where there is no node
abbrev pub along_of : Option Node → ℕ
along_of None = end
along_of (Some node) = node.next_of_segment

-- the key behind a node in its pixel's list; the end where there is no node
abbrev pub across_of : Option Node → ℕ
across_of None = end
across_of (Some node) = node.next_of_pixel

-- the key before a node in its segment's list; the end where it is first, or there is no node
abbrev pub back_along_of : Option Node → ℕ
back_along_of None = end
back_along_of (Some node) = node.previous_of_segment

-- the key before a node in its pixel's list; the end where it is first, or there is no node
abbrev pub back_across_of : Option Node → ℕ
back_across_of None = end
back_across_of (Some node) = node.previous_of_pixel

-- the segment of a node
abbrev pub name_of : Option Node → Option Label
name_of None = None
name_of (Some node) = Some node.name

-- the pixel of a node
abbrev pub pixel_of : Option Node → Option Point
pixel_of None = None
pixel_of (Some node) = Some node.pixel

module _ (slots : List (Option Node)) where
  -- the node at a key
  abbrev pub node_at : ℕ → Option Node
  node_at key = stored_at slots key

  -- the key behind a key in its segment's list
  abbrev pub along_at : ℕ → ℕ
  along_at key = along_of (node_at key)

  -- the key behind a key in its pixel's list
  abbrev pub across_at : ℕ → ℕ
  across_at key = across_of (node_at key)

  -- the key before a key in its segment's list
  abbrev pub back_along_at : ℕ → ℕ
  back_along_at key = back_along_of (node_at key)

  -- the key before a key in its pixel's list
  abbrev pub back_across_at : ℕ → ℕ
  back_across_at key = back_across_of (node_at key)

  -- the segment of the node at a key
  abbrev pub name_at : ℕ → Option Label
  name_at key = name_of (node_at key)

  -- the pixel of the node at a key
  abbrev pub pixel_at : ℕ → Option Point
  pixel_at key = pixel_of (node_at key)

-- behind the key stands `next` in its segment's list, and nothing else changes
pub record SetsAlong (old new : List (Option Node)) (key next : ℕ) : Type 0 where
  pub along : (k : ℕ) → along_at new k ≡ cond (k == key) next (along_at old k)
  pub across : (k : ℕ) → across_at new k ≡ across_at old k
  pub back_along : (k : ℕ) → back_along_at new k ≡ back_along_at old k
  pub back_across : (k : ℕ) → back_across_at new k ≡ back_across_at old k
  pub names : (k : ℕ) → name_at new k ≡ name_at old k
  pub pixels : (k : ℕ) → pixel_at new k ≡ pixel_at old k

-- behind the key stands `next` in its pixel's list, and nothing else changes
pub record SetsAcross (old new : List (Option Node)) (key next : ℕ) : Type 0 where
  pub along : (k : ℕ) → along_at new k ≡ along_at old k
  pub across : (k : ℕ) → across_at new k ≡ cond (k == key) next (across_at old k)
  pub back_along : (k : ℕ) → back_along_at new k ≡ back_along_at old k
  pub back_across : (k : ℕ) → back_across_at new k ≡ back_across_at old k
  pub names : (k : ℕ) → name_at new k ≡ name_at old k
  pub pixels : (k : ℕ) → pixel_at new k ≡ pixel_at old k

-- before the key, if it isn't the end, stands `previous` in its segment's list, and nothing else changes
pub record SetsBackAlong (old new : List (Option Node)) (key previous : ℕ) : Type 0 where
  pub along : (k : ℕ) → along_at new k ≡ along_at old k
  pub across : (k : ℕ) → across_at new k ≡ across_at old k
  pub back_along : (k : ℕ) → k ≢ end → back_along_at new k ≡ cond (k == key) previous (back_along_at old k)
  pub back_across : (k : ℕ) → back_across_at new k ≡ back_across_at old k
  pub names : (k : ℕ) → name_at new k ≡ name_at old k
  pub pixels : (k : ℕ) → pixel_at new k ≡ pixel_at old k

-- before the key, if it isn't the end, stands `previous` in its pixel's list, and nothing else changes
pub record SetsBackAcross (old new : List (Option Node)) (key previous : ℕ) : Type 0 where
  pub along : (k : ℕ) → along_at new k ≡ along_at old k
  pub across : (k : ℕ) → across_at new k ≡ across_at old k
  pub back_along : (k : ℕ) → back_along_at new k ≡ back_along_at old k
  pub back_across : (k : ℕ) → k ≢ end → back_across_at new k ≡ cond (k == key) previous (back_across_at old k)
  pub names : (k : ℕ) → name_at new k ≡ name_at old k
  pub pixels : (k : ℕ) → pixel_at new k ≡ pixel_at old k
