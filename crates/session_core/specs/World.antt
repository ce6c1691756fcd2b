-- The machine as the program keeps it: a book, and a seat for each editor.
use Rattle.std.specs.Prelude.{◌≡◌, ◌≢◌, ℕ, ◌+◌, ◌<◌, ◌≤◌, List, map, length, slice_index_or, Contains}
use Rattle.std.specs.Prelude.{Bool, true, false, Option, Some, None, option_map, IfSome}
use Rattle.std.specs.Arc.{arc_value}
use Rattle.grid_core.specs.Name.{Label}
use Rattle.grid_core.specs.Profile.{Sizes}
use Rattle.version_core.specs.Edits.{inserted_names}
use Rattle.version_core.specs.History.{given_names}
use Rattle.version_core.specs.Stands.{PreparedChange}
use Rattle.version_core.specs.Version.{VersionState}
use Rattle.book_core.specs.Book.{BookState}
use Rattle.book_core.specs.Commit.{MayCommit}
use Rattle.script_read.specs.declared.command.Act.{Act}
use Rattle.script_read.specs.declared.command.Act.TheVariants.{Commit as MakeCommit}
use Rattle.script_read.specs.declared.reply.Said.{Said}
use Rattle.session_core.specs.declared.seat.Held.{Held}
use Rattle.session_core.specs.declared.seat.Held.TheVariants.{Newest, Older}
use Rattle.session_core.specs.declared.seat.Seat.{Seat}
use Rattle.session_core.specs.Machine.{BasedChange, Session, State, editors, session_of, live_at}
use Rattle.session_core.specs.Step.{Outcome, outcome, after_outcome, stays}

-- the machine as contracts see it: the sizes of its drawing, and its state
pub record WorldState : Type 0 where
  pub profile : Sizes
  pub state : State

-- ---- what a book and seats are for the machine

-- the version that an editor holds
abbrev pub held_version : BookState → Held → VersionState
held_version b Newest = b.version
held_version b (Older v) = arc_value v

-- a prepared change by its base
abbrev pub based_change : PreparedChange → BasedChange
based_change x = record { base = x.base; change = x.change }

-- the session of a seat
abbrev pub session_in : BookState → Seat → Session
session_in b s =
    record {
      held = (held_version b s.held).number;
      prepared = option_map based_change s.prepared;
      serial = s.serial;
    }

-- the machine's state
abbrev pub state_in : BookState → List Seat → State
state_in b seats = record { history = b.history; sessions = map (session_in b) seats }

-- the machine
abbrev pub world_of : BookState → List Seat → WorldState
world_of b seats = record { profile = b.version.profile; state = state_in b seats }

-- ---- what always holds

-- the version is the one after the first changes of the book
pub record IsVersionOf (b : BookState) (v : VersionState) : Type 0 where
  pub number : v.number ≤ length b.history
  pub profile : v.profile ≡ b.version.profile
  pub branded : v.brand ≡ b.version.brand
  pub live : v.live ≡ live_at b.history v.number

-- the name was given to this editor, whose last serial is `last`
pub record IsGivenTo (own last : ℕ) (n : Label) : Type 0 where
  pub editor : n.editor ≡ own
  pub serial : n.serial ≤ last

-- the prepared change is this editor's and may be committed, and the names that it inserts were given
-- to the editor
pub record IsOfEditor (b : BookState) (own last : ℕ) (x : PreparedChange) : Type 0 where
  pub may : MayCommit b x
  pub given : (n : Label) → Contains (inserted_names x.change.edits) n → IsGivenTo own last n

-- the seat of editor `own`: it holds a version of the book; what is prepared is the editor's; and no
-- serial above its last one was given
pub record IsSeat (b : BookState) (own : ℕ) (s : Seat) : Type 0 where
  pub held : IsVersionOf b (held_version b s.held)
  pub prepared : IfSome s.prepared (IsOfEditor b own s.serial)
  pub serials : (n : Label) → Contains (given_names b.history) n → n.editor ≡ own → n.serial ≤ s.serial

-- a seat at its start
abbrev pub new_seat : Seat
new_seat = record { held = Newest; prepared = None; serial = 0 }

-- each is the seat of its editor, from editor 1 on
abbrev pub AreSeats : BookState → List Seat → Type 0
AreSeats b seats = (i : ℕ) → i < editors → IsSeat b (i + 1) (slice_index_or seats i new_seat)

-- there is a seat for each editor, and what is read of the book's versions has their brand
pub record IsWorld (brand : ℕ) (b : BookState) (seats : List Seat) : Type 0 where
  pub branded : brand ≡ b.version.brand
  pub all : length seats ≡ editors
  pub each : AreSeats b seats

-- ---- what changes

-- the act is a commit
abbrev pub is_commit : Act → Bool
is_commit MakeCommit = true
is_commit _ = false

-- an editor's act but a commit was done at its seat: the new session, and what is said
pub record Did (b : BookState) (own : ℕ) (act : Act) (old new : Seat) (said : Said) : Type 0 where
  pub seat : IsSeat b own new
  pub done : outcome b.version.profile b.history own (session_in b old) act ≡ stays b.history (session_in b new) said

-- the version that the seat shares, none where it holds the newest one without a share
abbrev pub shared_version : Held → Option VersionState
shared_version Newest = None
shared_version (Older v) = Some (arc_value v)

-- the seat has a share of the version that it held, and all else is as before
pub record IsShare (b : BookState) (old new : Seat) : Type 0 where
  pub held : shared_version new.held ≡ Some (held_version b old.held)
  pub prepared : new.prepared ≡ old.prepared
  pub serial : new.serial ≡ old.serial

-- the seat holds the version that it held, with or without a share of it, and all else is as before
pub record IsAlike (b : BookState) (old new : Seat) : Type 0 where
  pub held : held_version b new.held ≡ held_version b old.held
  pub prepared : new.prepared ≡ old.prepared
  pub serial : new.serial ≡ old.serial

-- each seat has a share of the version that its editor held
pub record AreShares (b : BookState) (old new : List Seat) : Type 0 where
  pub all : length new ≡ length old
  pub each : (i : ℕ) → i < length old → IsShare b (slice_index_or old i new_seat) (slice_index_or new i new_seat)

-- each editor holds the version that it held
pub record AreAlike (b : BookState) (old new : List Seat) : Type 0 where
  pub all : length new ≡ length old
  pub each : (i : ℕ) → i < length old → IsAlike b (slice_index_or old i new_seat) (slice_index_or new i new_seat)

-- the seat at this index is as before, and each other has a share of the version that its editor held
pub record AreKept (b : BookState) (at : ℕ) (old new : List Seat) : Type 0 where
  pub all : length new ≡ length old
  pub others : (i : ℕ) → i < length old → i ≢ at → IsShare b (slice_index_or old i new_seat) (slice_index_or new i new_seat)
  pub same : slice_index_or new at new_seat ≡ slice_index_or old at new_seat

-- what comes of an editor's act at the machine
abbrev pub outcome_at : WorldState → ℕ → Act → Outcome
outcome_at w editor act = outcome w.profile w.state.history editor (session_of w.state editor) act

-- an editor's act was done at the machine, and what is said
pub record DidAt (editor : ℕ) (act : Act) (old new : WorldState) (said : Said) : Type 0 where
  pub state : new.state ≡ after_outcome old.state editor (outcome_at old editor act)
  pub told : said ≡ (outcome_at old editor act).said
