-- A finite map from whole numbers as the list of its entries by rising key, and the maps of a tree's nodes.
use Rattle.std.specs.Prelude.{◌≡◌, ℕ, ◌+◌, ◌*◌, ◌/◌, ◌%◌, ◌^◌, ◌<◌, ◌≤◌, length, drop, Option, Some, None, List, [], ◌∷◌, ◌++◌, map, take, filter, option_map}
use Rattle.std.specs.Bool.{nat_lt, nat_le}
use Rattle.std.specs.Arc.{arc_value}
use Rattle.std.specs.declared.sync.Arc.{Arc}
use Rattle.std.specs.Ordering.{nat_cmp}
use Rattle.std.specs.Map.{lookup, remove_entry}
use Rattle.std.specs.BTreeMap.{insert_entry, is_at}

-- keys are below this number
abbrev pub keys_end : ℕ
keys_end = 2 ^ 32

-- the value at key k
abbrev pub value_at : {V : Type 0} → ℕ → List (ℕ × V) → Option V
value_at k es = lookup (is_at (nat_cmp k)) es

-- the entries whose key is at least k
unfoldable pub entries_from : {V : Type 0} → ℕ → List (ℕ × V) → List (ℕ × V)
entries_from k es = filter (λ e. nat_le k e.0) es

-- the entries whose key is below k
unfoldable pub entries_below : {V : Type 0} → ℕ → List (ℕ × V) → List (ℕ × V)
entries_below k es = filter (λ e. nat_lt e.0 k) es

-- the entries with key k set to v
abbrev pub with_key : {V : Type 0} → List (ℕ × V) → ℕ → V → List (ℕ × V)
with_key es k v = insert_entry nat_cmp es k v

-- the entries without key k
abbrev pub without_key : {V : Type 0} → List (ℕ × V) → ℕ → List (ℕ × V)
without_key es k = remove_entry (is_at (nat_cmp k)) es

-- the entries after one edit: key k is set, or removed
abbrev pub edited : {V : Type 0} → List (ℕ × V) → ℕ → Option V → List (ℕ × V)
edited es k None = without_key es k
edited es k (Some v) = with_key es k v

-- the entries after each edit in turn
unfoldable pub edited_all : {V Z : Type 0} → List (ℕ × V) → List (ℕ × Option (Arc V Z)) → List (ℕ × V)
edited_all es [] = es
edited_all es (e ∷ edits) = edited_all (edited es e.0 (option_map arc_value e.1)) edits

-- the same, each key counted within blocks of width keys
unfoldable pub edited_within : {V Z : Type 0} → ℕ → List (ℕ × V) → List (ℕ × Option (Arc V Z)) → List (ℕ × V)
edited_within width es [] = es
edited_within width es (e ∷ edits) = edited_within width (edited es (e.0 % width) (option_map arc_value e.1)) edits

-- the keys rise, from low on and below high
abbrev pub Rises : {V : Type 0} → ℕ → ℕ → List (ℕ × V) → Type 0
Rises low high [] = low ≤ high
Rises low high (e ∷ es) = (low ≤ e.0) × Rises (e.0 + 1) high es

-- the entries with base added to each key
unfoldable pub raised : {V : Type 0} → ℕ → List (ℕ × V) → List (ℕ × V)
raised base [] = []
raised base (e ∷ es) = (base + e.0, e.1) ∷ raised base es

-- maps in a row, the first from key base on, each for step keys
unfoldable pub joined : {V : Type 0} → ℕ → ℕ → List (List (ℕ × V)) → List (ℕ × V)
joined step base [] = []
joined step base (es ∷ ess) = raised base es ++ joined step (base + step) ess

-- the entries of a slot, where f tells those of an item: none of a free slot
abbrev pub part : {T V : Type 0} → (T → List (ℕ × V)) → Option T → List (ℕ × V)
part f None = []
part f (Some x) = f x

-- the entries of sixteen slots, each for step keys
unfoldable pub entries_of : {T V : Type 0} → (T → List (ℕ × V)) → ℕ → List (Option T) → List (ℕ × V)
entries_of f step xs = joined step 0 (map (part f) (take 16 xs))

-- the entry of a value that stands alone in its slot
abbrev pub single : {V : Type 0} → V → List (ℕ × V)
single v = (0, v) ∷ []

-- the entries of a leaf's slots
abbrev pub leaf_map : {V : Type 0} → List (Option V) → List (ℕ × V)
leaf_map xs = entries_of single 1 xs

-- the entries of a node's slots, where f tells those of a child, which places a key by the four bits from s on
abbrev pub node_map : {T V : Type 0} → (T → List (ℕ × V)) → ℕ → List (Option T) → List (ℕ × V)
node_map f s xs = entries_of f (2 ^ (s + 4)) xs

-- how many keys a node has that places a key by the four bits from s on
abbrev pub block : ℕ → ℕ
block s = 16 * 2 ^ s

-- each edit's key is below the end of keys
abbrev pub KeysFit : {V Z : Type 0} → List (ℕ × Option (Arc V Z)) → Type 0
KeysFit [] = Unit {0}
KeysFit (e ∷ edits) = (e.0 < keys_end) × KeysFit edits

-- each edit's key lies in slot i, where a slot has step keys
abbrev pub InSlot : {V Z : Type 0} → ℕ → ℕ → List (ℕ × Option (Arc V Z)) → Type 0
InSlot step i [] = Unit {0}
InSlot step i (e ∷ edits) = (e.0 / step % 16 ≡ i) × InSlot step i edits

-- n entries became m, where some were added and some removed
abbrev pub Counts : ℕ → ℕ → ℕ → ℕ → Type 0
Counts n m added removed = m + removed ≡ n + added

-- the edits made entries new of entries old, each key counted within blocks of width keys, and added and removed so many keys: no more than there are edits
pub record IsEdited {V Z : Type 0} (width : ℕ) (old new : List (ℕ × V)) (edits : List (ℕ × Option (Arc V Z))) (added removed : ℕ) : Type 0 where
  pub made : new ≡ edited_within width old edits
  pub counted : Counts (length old) (length new) added removed
  pub few_added : added ≤ length edits
  pub few_removed : removed ≤ length edits

-- the edits are a run in slot i, which is not empty, and the rest
pub record IsFirstRun {V Z : Type 0} (step : ℕ) (edits : List (ℕ × Option (Arc V Z))) (i : ℕ) (run rest : List (ℕ × Option (Arc V Z))) : Type 0 where
  pub slot : i < 16
  pub within : InSlot step i run
  pub fit : KeysFit run
  pub some : 0 < length run
  pub all : edits ≡ run ++ rest

-- the entries of the slots from i on, each for step keys, where slot 0 is for those from base on
unfoldable pub entries_behind : {T V : Type 0} → (T → List (ℕ × V)) → ℕ → ℕ → ℕ → List (Option T) → List (ℕ × V)
entries_behind f step base i xs = joined step (base + i * step) (map (part f) (drop i (take 16 xs)))
