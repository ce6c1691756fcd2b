-- The state of the machine of sessions: one history, and a session for each editor. Version n is
-- the drawing after the first n changes of the history.
use Rattle.std.specs.Prelude.{ℕ, ◌-◌, List, [], slice_index_or, slice_set, take, replicate, Option, None}
use Rattle.grid_core.specs.Segment.{Segment}
use Rattle.version_core.specs.Edits.{Changes}
use Rattle.version_core.specs.History.{live}

-- a prepared change, and the number of the version that it was prepared on
pub record BasedChange : Type 0 where
  pub base : ℕ
  pub change : Changes

-- an editor's session: the number of the version that it holds, the change that it has prepared, if
-- there is one, and the last serial that it was given
pub record Session : Type 0 where
  pub held : ℕ
  pub prepared : Option BasedChange
  pub serial : ℕ

-- the state: the history, and the sessions of the editors, from editor 1 on
pub record State : Type 0 where
  pub history : List Changes
  pub sessions : List Session

-- how many editors there are
abbrev pub editors : ℕ
editors = 64

-- a session at its start holds version 0, and nothing is prepared
abbrev pub new_session : Session
new_session = record { held = 0; prepared = None; serial = 0 }

-- the start: an empty history, and each session at its start
abbrev pub start : State
start = record { history = []; sessions = replicate editors new_session }

-- the session of an editor
abbrev pub session_of : State → ℕ → Session
session_of st editor = slice_index_or st.sessions (editor - 1) new_session

-- the sessions with this one in place of an editor's; all others stay
abbrev pub with_session : List Session → ℕ → Session → List Session
with_session sessions editor s = slice_set sessions (editor - 1) s

-- the live list of a version, by its number
abbrev pub live_at : List Changes → ℕ → List Segment
live_at h n = live (take n h)
