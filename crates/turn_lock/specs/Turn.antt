-- Which turn it is, what its calls ask of a pass, and what is known of the book that it gives in
-- the end.
use Rattle.std.specs.Prelude.{◌≡◌, ℕ, ◌-◌, ◌<◌, ◌⊎◌, List, ℤ}
use mathlib.Core.Option.{some}
use lib.ListN.{get_elem?}
use Rattle.atomic_table.specs.Seated.{TableId}
use Rattle.turn_lock.specs.declared.turn.Turn.{Turn}
use Rattle.turn_lock.specs.declared.view.View.{View}
use Rattle.turn_lock.specs.History.{IsPrefix, calls}

-- which turn this is: the id of its words and its slot
abbrev pub turn_id : {B E : Type 0} → Turn B E → TableId
turn_id t = t.table.shared.table_id

module _ {E : Type 0} where
  -- the pass n was joined into the pass with this view, and its calls were es
  abbrev pub Keeps : View E → ℕ → List E → Type 0
  Keeps v n es = (i : ℕ) × (get_elem? v.ended i ≡ some (n, es))

  -- every number that was given is the pass's own, or of a pass that was joined into it
  abbrev pub HasAll : View E → Type 0
  HasAll v = (n : ℕ) → n < v.seats - v.room → (n ≡ v.number) ⊎ ((es : List E) × Keeps v n es)

-- the book b in the end: its history begins with what the last pass has seen, each entry names a
-- number that was given, and for each of these numbers the entries that name it are the calls of
-- its pass
pub record IsLast {B E : Type 0} (history : B → List E) (author : List ℤ → E → ℕ)
    (label_of : B → List ℤ)
    (v : View E) (b : B) : Type 0 where
  pub seen : IsPrefix v.seen (history b)
  pub named : (k : ℕ) (e : E) → get_elem? (history b) k ≡ some e
      → author v.label e < v.seats - v.room
  pub mine : calls (author v.label) v.number (history b) ≡ v.mine
  pub ended : (n : ℕ) (es : List E) → Keeps v n es → calls (author v.label) n (history b) ≡ es
  pub label_is : label_of b ≡ v.label
