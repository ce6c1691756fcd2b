-- What each step tells the lock pass that makes it.
-- Each definition takes the step, the pass before it, the number found in the word, and the pass
-- after.
use Rattle.std.specs.Prelude.{◌≡◌, ◌≢◌, ℕ, ◌%◌, ◌^◌, ◌<◌, List, [], ◌∷◌, ℤ, Option, Some}
use Rattle.atomic_table.specs.Table.{Me, Step}
use Rattle.turn_lock.specs.declared.stage.Stage.TheVariants.{Idle, Waits, Served, Has, Marked, Home}
use Rattle.turn_lock.specs.declared.view.View.{View}
use Rattle.turn_lock.specs.History.{IsPrefix, calls, longer}
use Rattle.turn_lock.specs.View.{at_stage, with_journal, marked}

-- what a pass knows, and whether it has the slot
abbrev Known : Type 0 → Type 0 → Type 0
Known B E = Me (Option B) (View E)

-- a step of a table whose slot holds a B
abbrev At : Type 0 → Type 0
At B = Step (Option B)

module _ {B E : Type 0} where
  -- the pass has a ticket, the number found modulo 2^64
  abbrev pub drew : At B → Known B E → ℕ → Known B E → Type 0
  drew st m found m' = (t : ℕ) × (found ≡ t % 2 ^ 64) × (m' ≡ (at_stage (Waits t) m.0, m.1))

  -- a pass that waits is served where the number found is its ticket modulo 2^64
  abbrev pub looked : At B → Known B E → ℕ → Known B E → Type 0
  looked st m found m' = (t : ℕ) → m.0.stage ≡ Waits t
      → (found ≡ t % 2 ^ 64 → m' ≡ (at_stage (Served t) m.0, m.1))
      × (found ≢ t % 2 ^ 64 → m' ≡ m)

  -- a pass that is served has the book: its history begins with what the pass had seen, its entries
  -- that name the pass are those that the pass added, and its label is the one that the pass knows
  abbrev pub took : (B → List E) → (List ℤ → E → ℕ) → (B → List ℤ)
      → At B → Known B E → ℕ → Known B E → Type 0
  took history author label st m found m' = (t : ℕ) → m.0.stage ≡ Served t
      → (b : B) × (m' ≡ (with_journal (Has t) (history b) m.0, (0, Some b) ∷ m.1))
      × IsPrefix m.0.seen (history b)
      × (calls (author m.0.label) m.0.number (history b) ≡ m.0.mine) × (label b ≡ m.0.label)

  -- a pass that has the book has seen the history `list`, and its own entries have grown by the new
  -- ones: they are those that name the pass
  abbrev pub marks : (List ℤ → E → ℕ) → List E → At B → Known B E → ℕ → Known B E → Type 0
  marks author list st m found m' = (t : ℕ) → m.0.stage ≡ Has t
      → (m' ≡ (marked (Marked t) list m.0, m.1))
      × (calls (author m.0.label) m.0.number list ≡ (marked (Marked t) list m.0).mine)

  -- the book is at home
  abbrev pub gave_back : At B → Known B E → ℕ → Known B E → Type 0
  gave_back st m found m' = (t : ℕ) → m.0.stage ≡ Marked t → m' ≡ (at_stage (Home t) m.0, [])

  -- the ticket is spent
  abbrev pub passed_on : At B → Known B E → ℕ → Known B E → Type 0
  passed_on st m found m' = m' ≡ (at_stage Idle m.0, m.1)

  -- nothing changed: the pass has room for fewer than all passes, and the longer of the two lists
  -- that were joined last begins with both
  abbrev pub met : At B → Known B E → ℕ → Known B E → Type 0
  met st m found m' = (m' ≡ m) × (m.0.room < m.0.seats)
      × (m.0.seen ≡ longer m.0.one m.0.other
      → IsPrefix m.0.one m.0.seen × IsPrefix m.0.other m.0.seen)
