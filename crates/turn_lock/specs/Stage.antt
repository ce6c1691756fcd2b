-- How far a lock pass has come with its turn: its ticket, and whether it has the book.
use Rattle.std.specs.Prelude.{◌≡◌, ℕ, ◌<◌, ◌≤◌, Bool, true, false}
use Rattle.turn_lock.specs.declared.stage.Stage.{Stage}
use Rattle.turn_lock.specs.declared.stage.Stage.TheVariants.{Idle, Waits, Served, Has, Marked, Home}
use Rattle.turn_lock.specs.declared.stage.Stage.TheVariants.{Ended}

-- where the book is: in the slot, or with the pass of this number
pub data Whereabouts : Type 0 where
  at_home : Whereabouts
  with_pass : ℕ → Whereabouts

-- the pass was not joined into another one
abbrev pub is_live : Stage → Bool
is_live Idle = true
is_live (Waits t) = true
is_live (Served t) = true
is_live (Has t) = true
is_live (Marked t) = true
is_live (Home t) = true
is_live Ended = false

-- how many unspent tickets the pass has
abbrev pub tickets : Stage → ℕ
tickets Idle = 0
tickets (Waits t) = 1
tickets (Served t) = 1
tickets (Has t) = 1
tickets (Marked t) = 1
tickets (Home t) = 1
tickets Ended = 0

-- the unspent ticket of the pass, and 0 where it has none
abbrev pub ticket_of : Stage → ℕ
ticket_of Idle = 0
ticket_of (Waits t) = t
ticket_of (Served t) = t
ticket_of (Has t) = t
ticket_of (Marked t) = t
ticket_of (Home t) = t
ticket_of Ended = 0

-- the pass has the book
abbrev pub HasBook : Stage → Type 0
HasBook Idle = ⊥
HasBook (Waits t) = ⊥
HasBook (Served t) = ⊥
HasBook (Has t) = Unit {0}
HasBook (Marked t) = Unit {0}
HasBook (Home t) = ⊥
HasBook Ended = ⊥

-- what holds of the stage of pass j: `owner` says who drew a ticket, `served` is the ticket whose
-- turn it is, `drawn` the next to give, and `away` where the book is
abbrev pub Stands : (ℕ → ℕ) → ℕ → ℕ → Whereabouts → ℕ → Stage → Type 0
Stands owner served drawn away j Idle = Unit {0}
Stands owner served drawn away j (Waits t) = (served ≤ t) × (t < drawn) × (owner t ≡ j)
Stands owner served drawn away j (Served t) =
    (t ≡ served) × (t < drawn) × (owner t ≡ j) × (away ≡ at_home)
Stands owner served drawn away j (Has t) =
    (t ≡ served) × (t < drawn) × (owner t ≡ j) × (away ≡ with_pass j)
Stands owner served drawn away j (Marked t) =
    (t ≡ served) × (t < drawn) × (owner t ≡ j) × (away ≡ with_pass j)
Stands owner served drawn away j (Home t) =
    (t ≡ served) × (t < drawn) × (owner t ≡ j) × (away ≡ at_home)
Stands owner served drawn away j Ended = Unit {0}
