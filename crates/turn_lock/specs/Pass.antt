-- A lock pass as clauses see it, by its seat at the words of the turn: what it knows, and whether
-- it holds the book.
use Rattle.std.specs.Prelude.{◌≡◌, ℕ, List, [], ◌∷◌, Option, None}
use Rattle.atomic_table.specs.declared.shared.Seat.{Seat}
use Rattle.atomic_table.specs.Seated.{TableId}
use Rattle.turn_lock.specs.declared.stage.Stage.TheVariants.{Idle, Served, Has, Marked}
use Rattle.turn_lock.specs.declared.view.View.{View}
use Rattle.turn_lock.specs.View.{with_journal}

-- the table has the three words and the one slot of a turn
abbrev pub IsSized : TableId → Type 0
IsSized turn = (turn.words ≡ 3) × (turn.slots ≡ 1)

module _ {B E : Type 0} (p : Seat (Option B) (View E)) where
  -- what the pass knows
  abbrev pub known : View E
  known = p.me.0

  -- the slots that the pass has taken, each with what it holds there now
  abbrev pub taken : List (ℕ × Option B)
  taken = p.me.1

module _ {B E : Type 0} (p : Seat (Option B) (View E)) where
  -- the pass holds nothing
  abbrev pub IsIdle : Type 0
  IsIdle = ((known p).stage ≡ Idle) × (taken p ≡ [])

  -- the pass is one of this turn, and holds nothing
  abbrev pub IsReady : TableId → Type 0
  IsReady turn = (p.table_id ≡ turn) × IsIdle

  -- the ticket of the pass is served, and it holds nothing yet
  abbrev pub IsServed : Type 0
  IsServed = (t : ℕ) × ((known p).stage ≡ Served t) × (taken p ≡ [])

  -- the pass has the book, which had the history es, and did not mark yet
  abbrev pub Holds : List E → Type 0
  Holds es =
      (t : ℕ) × ((known p).stage ≡ Has t) × (taken p ≡ (0, None) ∷ []) × ((known p).journal ≡ es)

  -- the pass has the book, and marked the history es
  abbrev pub HoldsMarked : List E → Type 0
  HoldsMarked es =
      (t : ℕ) × ((known p).stage ≡ Marked t) × (taken p ≡ (0, None) ∷ [])
      × ((known p).journal ≡ es)

  -- q is the pass after some steps: of the same turn, and it knows the same, but for its stage and
  -- what the book has
  abbrev pub Stays : Seat (Option B) (View E) → Type 0
  Stays q =
      (q.table_id ≡ p.table_id)
      × (known q ≡ with_journal (known q).stage (known q).journal (known p))

  -- q is the pass later: of the same turn, with the same number, room, label and ended passes
  abbrev pub IsStill : Seat (Option B) (View E) → Type 0
  IsStill q =
      (q.table_id ≡ p.table_id)
      × ((known q).number ≡ (known p).number)
      × ((known q).seats ≡ (known p).seats)
      × ((known q).room ≡ (known p).room)
      × ((known q).label ≡ (known p).label)
      × ((known q).ended ≡ (known p).ended)
