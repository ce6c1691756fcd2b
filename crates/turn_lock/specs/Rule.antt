-- The rule of a turn, which holds between any two steps.
-- It has five parts: tickets, turn, journal, calls and numbers.
-- The number of a pass is the index of its view among all views, since a new view goes to the end.
use Rattle.std.specs.Prelude.{◌≡◌, ℕ, ◌+◌, ◌%◌, ◌^◌, ◌<◌, ◌≤◌, List, [], ◌∷◌, ℤ, length, sum_by}
use Rattle.std.specs.Prelude.{Bool, true, false, Option, Some}
use mathlib.Core.Option.{none, some}
use lib.ListN.{get_elem?}
use Rattle.atomic_table.specs.Table.{State}
use Rattle.turn_lock.specs.declared.view.View.{View}
use Rattle.turn_lock.specs.Stage.{Whereabouts, at_home, with_pass, is_live, tickets, ticket_of}
use Rattle.turn_lock.specs.Stage.{HasBook, Stands}
use Rattle.turn_lock.specs.History.{IsPrefix, calls}

module _ {E : Type 0} (views : List (View E)) (j : ℕ) where
  -- pass j has the unspent ticket t
  abbrev pub HasTicket : ℕ → Type 0
  HasTicket t =
      (v : View E) × (get_elem? views j ≡ some v) × (tickets v.stage ≡ 1) × (ticket_of v.stage ≡ t)

  -- pass j has the book
  abbrev pub IsHolder : Type 0
  IsHolder = (v : View E) × (get_elem? views j ≡ some v) × HasBook v.stage

-- what pass j knows is so: `over` says which passes were joined away, and pass `roomer` alone may
-- have room, which then is `room`
pub record Knows {E : Type 0} (author : E → ℕ) (seats : ℕ) (label : List ℤ) (journal : List E)
    (over : ℕ → Bool) (room roomer j : ℕ) (v : View E) : Type 0 where
  pub not_over : over j ≡ false
  -- turn: it has the label that the book had at the start
  pub label_is : v.label ≡ label
  -- journal: what it has seen is a prefix of the journal, and so are the two lists that were joined
  -- last; while it has the book, it keeps the journal
  pub seen : IsPrefix v.seen journal
  pub one : IsPrefix v.one journal
  pub other : IsPrefix v.other journal
  pub journal_is : HasBook v.stage → v.journal ≡ journal
  -- calls: what it added are the entries of the journal that name its number, and it has seen them;
  -- the calls that it keeps of a pass joined away are the entries that name that one
  pub calls_are : calls author j journal ≡ v.mine
  pub calls_seen : calls author j v.seen ≡ v.mine
  pub ended : (i n : ℕ) (es : List E) → get_elem? v.ended i ≡ some (n, es)
      → (over n ≡ true) × (calls author n journal ≡ es)
  -- numbers
  pub number_is : v.number ≡ j
  pub seats_is : v.seats ≡ seats
  pub has_room : 0 < v.room → (j ≡ roomer) × (v.room ≡ room)

-- the rule, for a turn of `seats` passes whose book has the label `label`
pub record Kept {B E : Type 0} (history : B → List E) (author : E → ℕ) (label_of : B → List ℤ)
    (seats : ℕ) (label : List ℤ) (s : State (Option B) (View E)) : Type 0 where
  -- the history that what each pass has seen is a prefix of
  pub journal : List E
  -- the ticket that is served, and the next to give
  pub served : ℕ
  pub drawn : ℕ
  -- where the book is, who drew each ticket, and which passes were joined away
  pub away : Whereabouts
  pub owner : ℕ → ℕ
  pub over : ℕ → Bool
  -- how many passes can be split off yet, and which pass has this room
  pub room : ℕ
  pub roomer : ℕ
  -- the words are ticket, serving and front
  pub words_are : s.words ≡ (drawn % 2 ^ 64) ∷ (served % 2 ^ 64) ∷ length journal ∷ []
  pub short : length journal < 2 ^ 32
  pub few : seats < 2 ^ 32
  -- tickets: each pass has at most one, so many are unspent as from serving up to ticket, each of
  -- these numbers is some pass's ticket, and a ticket is of the pass that drew it alone
  pub counted : served + sum_by (λ (v : View E). tickets v.stage) s.views ≡ drawn
  pub drawn_by : (t : ℕ) → served ≤ t → t < drawn → HasTicket s.views (owner t) t
  pub stands : (j : ℕ) (v : View E) → get_elem? s.views j ≡ some v
      → Stands owner served drawn away j v.stage
  -- turn: the book is at home with the journal and the label, or the pass that is served has it
  pub home : away ≡ at_home
      → (b : B) × (s.homes ≡ some (Some b) ∷ []) × (history b ≡ journal) × (label_of b ≡ label)
  pub out : (j : ℕ) → away ≡ with_pass j
      → (s.homes ≡ none ∷ []) × (j ≡ owner served) × (served < drawn) × IsHolder s.views j
  -- journal and calls: what each pass that was not joined away knows
  pub knows : (j : ℕ) (v : View E) → get_elem? s.views j ≡ some v → is_live v.stage ≡ true
      → Knows author seats label journal over room roomer j v
  -- numbers: as many were given as there are views, no later one was joined away, and no entry
  -- names a later one
  pub given : length s.views + room ≡ seats
  pub fresh : (n : ℕ) → length s.views ≤ n → over n ≡ false
  pub named : (k : ℕ) (e : E) → get_elem? journal k ≡ some e → author e < length s.views
