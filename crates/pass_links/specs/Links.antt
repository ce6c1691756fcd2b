-- What changes where one link is set, the one behind a node or where a list begins; and where a node is
-- taken out of a list.
use Rattle.std.specs.Prelude.{◌≡◌, ◌≢◌, ℕ, ◌+◌, ◌<◌, ◌≤◌, ◌==◌, Bool, false, cond, not, ◌&&◌, List, Option, None, Some, is_some}
use Rattle.grid_core.specs.declared.point.Point.{Point}
use Rattle.grid_core.specs.Vector.{point_eq}
use Rattle.grid_core.specs.Name.{Label, label_eq}
use Rattle.pass_links.specs.declared.node.Node.{Node}
use Rattle.pass_links.specs.Chain.{end, key_of}
use Rattle.pass_links.specs.Node.{along_at, across_at, back_along_at, back_across_at, name_at, pixel_at}

-- the key is that one
abbrev pub is_key : Option ℕ → ℕ → Bool
is_key None k = false
is_key (Some before) k = k == before

-- behind `before` in the segment's list comes `next`, or it is first there; nothing else changes
pub record PointsAlong (old new : List (Option Node)) (old_start new_start : Label → ℕ) (name : Label) (before : Option ℕ) (next : ℕ) : Type 0 where
  pub along : (k : ℕ) → along_at new k ≡ cond (is_key before k) next (along_at old k)
  pub across : (k : ℕ) → across_at new k ≡ across_at old k
  pub back_along : (k : ℕ) → back_along_at new k ≡ back_along_at old k
  pub back_across : (k : ℕ) → back_across_at new k ≡ back_across_at old k
  pub names : (k : ℕ) → name_at new k ≡ name_at old k
  pub pixels : (k : ℕ) → pixel_at new k ≡ pixel_at old k
  pub start : (n : Label) → new_start n ≡ cond (not (is_some before) && label_eq n name) next (old_start n)

-- behind `before` in the pixel's list comes `next`, or it is first there; nothing else changes
pub record PointsAcross (old new : List (Option Node)) (old_start new_start : Point → ℕ) (pixel : Point) (before : Option ℕ) (next : ℕ) : Type 0 where
  pub along : (k : ℕ) → along_at new k ≡ along_at old k
  pub across : (k : ℕ) → across_at new k ≡ cond (is_key before k) next (across_at old k)
  pub back_along : (k : ℕ) → back_along_at new k ≡ back_along_at old k
  pub back_across : (k : ℕ) → back_across_at new k ≡ back_across_at old k
  pub names : (k : ℕ) → name_at new k ≡ name_at old k
  pub pixels : (k : ℕ) → pixel_at new k ≡ pixel_at old k
  pub start : (p : Point) → new_start p ≡ cond (not (is_some before) && point_eq p pixel) next (old_start p)

-- the node at the key is gone, and its neighbours in its segment's list are linked to each other; in its pixel's
-- list no link is set
pub record TakesAlong (old new : List (Option Node)) (old_start new_start : Label → ℕ) (key : ℕ) (node : Node) : Type 0 where
  pub along : (k : ℕ) → k ≢ key → along_at new k ≡ cond (is_key (key_of node.previous_of_segment) k) node.next_of_segment (along_at old k)
  pub back_along : (k : ℕ) → k ≢ key → k ≢ end → back_along_at new k ≡ cond (k == node.next_of_segment) node.previous_of_segment (back_along_at old k)
  pub across : (k : ℕ) → k ≢ key → across_at new k ≡ across_at old k
  pub back_across : (k : ℕ) → k ≢ key → back_across_at new k ≡ back_across_at old k
  pub names : (k : ℕ) → k ≢ key → name_at new k ≡ name_at old k
  pub pixels : (k : ℕ) → k ≢ key → pixel_at new k ≡ pixel_at old k
  pub no_name : name_at new key ≡ None
  pub no_pixel : pixel_at new key ≡ None
  pub start : (n : Label) → new_start n ≡ cond (not (is_some (key_of node.previous_of_segment)) && label_eq n node.name) node.next_of_segment (old_start n)

-- the node at the key is gone, and its neighbours in its pixel's list are linked to each other; in its segment's
-- list no link is set
pub record TakesAcross (old new : List (Option Node)) (old_start new_start : Point → ℕ) (key : ℕ) (node : Node) : Type 0 where
  pub across : (k : ℕ) → k ≢ key → across_at new k ≡ cond (is_key (key_of node.previous_of_pixel) k) node.next_of_pixel (across_at old k)
  pub back_across : (k : ℕ) → k ≢ key → k ≢ end → back_across_at new k ≡ cond (k == node.next_of_pixel) node.previous_of_pixel (back_across_at old k)
  pub along : (k : ℕ) → k ≢ key → along_at new k ≡ along_at old k
  pub back_along : (k : ℕ) → k ≢ key → back_along_at new k ≡ back_along_at old k
  pub names : (k : ℕ) → k ≢ key → name_at new k ≡ name_at old k
  pub pixels : (k : ℕ) → k ≢ key → pixel_at new k ≡ pixel_at old k
  pub no_name : name_at new key ≡ None
  pub no_pixel : pixel_at new key ≡ None
  pub start : (p : Point) → new_start p ≡ cond (not (is_some (key_of node.previous_of_pixel)) && point_eq p node.pixel) node.next_of_pixel (old_start p)

-- a head that is not there yet has room
abbrev pub HasHeadRoom : Option ℕ → ℕ → ℕ → ℕ → Type 0
HasHeadRoom None start len capacity = start ≡ end → len < capacity
HasHeadRoom (Some before) start len capacity = Unit {0}

-- at most one head more, and that only where none was there
abbrev pub KeepsHeadRoom : Option ℕ → ℕ → ℕ → ℕ → Type 0
KeepsHeadRoom None start old new = (new ≤ old + 1) × (start ≢ end → new ≤ old)
KeepsHeadRoom (Some before) start old new = new ≤ old
