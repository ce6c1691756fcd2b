-- What a crate above may cite of maps as lists of entries by rising key: that keys still rise after
-- edits, the value at a key, and the entries from a key on, each also after edits. The other lemma files
-- of this crate are about the tree, and change with it.
use Rattle.std.proofs.Common.{◌≡◌, ℕ, ◌<◌, ◌≤◌, arith}
use Rattle.std.proofs.Common.{List, [], ◌∷◌, cond, is_eq, nat_cmp, option_map, Option, Some, None}
use Rattle.std.specs.Arc.{arc_value}
use Rattle.std.specs.declared.sync.Arc.{Arc}
use Rattle.radix_map.specs.Entries.{keys_end, value_at, with_key, without_key, edited, edited_all, Rises, KeysFit, entries_from}
use Rattle.radix_map.proofs.Halves.{from_edited}
use Rattle.radix_map.proofs.Noted.{value_noted, edit_or}
use Rattle.radix_map.proofs.Trees.{edited_rises}
use Rattle.radix_map.proofs.Values.{value_edited}
pub use Rattle.radix_map.proofs.Cuts.{cut, from_first, from_later, below_first, below_later, value_from}
pub use Rattle.radix_map.proofs.Values.{same_key, key_equal}

-- ---- keys still rise

pub with_rises : {V : Type 0} (es : List (ℕ × V)) (k : ℕ) (v : V) → k < keys_end → Rises 0 keys_end es
    → Rises 0 keys_end (with_key es k v)
with_rises es k v below h = edited_rises 0 keys_end k (Some v) es (omega arith) below h

pub without_rises : {V : Type 0} (es : List (ℕ × V)) (k : ℕ) → k < keys_end → Rises 0 keys_end es
    → Rises 0 keys_end (without_key es k)
without_rises es k below h = edited_rises 0 keys_end k None es (omega arith) below h

pub edited_all_rises : {V Z : Type 0} (es : List (ℕ × V)) (edits : List (ℕ × Option (Arc V Z))) → KeysFit edits
    → Rises 0 keys_end es → Rises 0 keys_end (edited_all es edits)
unfolding edited_all
edited_all_rises es [] fit h = h
edited_all_rises es (e ∷ edits) fit h =
    edited_all_rises (edited es e.0 (option_map arc_value e.1)) edits fit.1
    (edited_rises 0 keys_end e.0 (option_map arc_value e.1) es (omega arith) fit.0 h)

-- ---- the value at a key

-- at the key that is set stands the value, and at each other key what stood there
pub value_with : {V : Type 0} (k j : ℕ) (v : V) (es : List (ℕ × V)) → Rises 0 keys_end es
    → value_at k (with_key es j v) ≡ cond (is_eq (nat_cmp k j)) (Some v) (value_at k es)
value_with k j v es h = value_edited k j keys_end (Some v) es h

-- at the key that is removed stands nothing
pub value_without : {V : Type 0} (k j : ℕ) (es : List (ℕ × V)) → Rises 0 keys_end es
    → value_at k (without_key es j) ≡ cond (is_eq (nat_cmp k j)) None (value_at k es)
value_without k j es h = value_edited k j keys_end None es h

-- after edits by rising key: what the edit of the key says, if there is one, and else what stood there
pub value_edited_all : {V Z : Type 0} (k : ℕ) (es : List (ℕ × V)) (edits : List (ℕ × Option (Arc V Z)))
    → Rises 0 keys_end es → Rises 0 keys_end edits
    → value_at k (edited_all es edits) ≡ edit_or (value_at k edits) (value_at k es)
value_edited_all k es edits h g = value_noted k 0 keys_end es edits h g

-- ---- entries from a key on, after edits

pub from_edited_all : {V Z : Type 0} (from : ℕ) (es : List (ℕ × V)) (edits : List (ℕ × Option (Arc V Z))) → from ≤ keys_end
    → Rises 0 keys_end es → KeysFit edits
    → entries_from from (edited_all es edits) ≡ edited_all (entries_from from es) (entries_from from edits)
from_edited_all from es edits l h fit = from_edited from es edits l h fit
