-- One step of the machine of sessions: what a command changes, and what is said to it.
use Rattle.std.specs.Prelude.{ℕ, ◌+◌, Bool, ◌||◌, nat_lt, nat_le, List, [], ◌∷◌, ◌++◌, length, if◌then◌else◌, Option, Some, None, is_some, unsigned_abs}
use Rattle.grid_core.specs.declared.point.Point.{Point}
use Rattle.grid_core.specs.Vector.{point_eq}
use Rattle.grid_core.specs.Name.{Label}
use Rattle.grid_core.specs.Profile.{Sizes}
use Rattle.grid_core.specs.Segment.{Segment, segment_of}
use Rattle.hot_tile.specs.Tile.{segment_in}
use Rattle.version_core.specs.declared.change.Edit.{Edit}
use Rattle.version_core.specs.declared.change.Edit.TheVariants.{Insert as PutIn, Delete as TakeOut}
use Rattle.version_core.specs.Edits.{Changes, tiles_of_edits}
use Rattle.book_core.specs.declared.refusal.Refusal.{Refusal as CommitRefusal}
use Rattle.book_core.specs.declared.refusal.Refusal.TheVariants.{Stale as IsStale, Full as IsFull}
use Rattle.book_core.specs.Commit.{refusal_for}
use Rattle.script_read.specs.declared.command.Act.{Act}
use Rattle.script_read.specs.declared.command.Act.TheVariants.{Take, Insert, Delete, Reads as TellReads, Commit as MakeCommit, Drop, Ask}
use Rattle.script_read.specs.declared.command.Command.{Command}
use Rattle.script_read.specs.declared.reply.Refusal.{Refusal}
use Rattle.script_read.specs.declared.reply.Refusal.TheVariants.{Busy, Range, Point as OnePoint, Serials, Unknown}
use Rattle.script_read.specs.declared.reply.Reply.{Reply}
use Rattle.script_read.specs.declared.reply.Said.{Said}
use Rattle.script_read.specs.declared.reply.Said.TheVariants.{At, Ready, Refused, Reads, Nothing, Dropped, Commit, Stale, Full}
use Rattle.session_core.specs.Machine.{BasedChange, Session, State, session_of, with_session, live_at}
use Rattle.session_core.specs.Limits.{most_serials, full_text}
use Rattle.session_core.specs.Answer.{answer}

-- what comes of an editor's act: the history, the editor's session, and what is said
pub record Outcome : Type 0 where
  pub history : List Changes
  pub session : Session
  pub said : Said

-- what comes of an act that leaves the history
abbrev pub stays : List Changes → Session → Said → Outcome
stays h s said = record { history = h; session = s; said = said }

-- ---- preparing

-- the session with this change prepared on the version that it holds
abbrev pub preparing : Session → ℕ → Edit → Session
preparing s editor edit =
    record s {
      prepared =
          Some (record { base = s.held; change = record { editor = editor; edits = edit ∷ [] } });
    }

-- the session without its prepared change
abbrev pub unprepared : Session → Session
unprepared s = record s { prepared = None }

-- some coordinate is greater in size than the bound
abbrev pub leaves_bound : Sizes → Point → Bool
leaves_bound pr a = nat_lt pr.bound (unsigned_abs a.x) || nat_lt pr.bound (unsigned_abs a.y)

-- why an editor draws no segment between two points, by the last serial that was given, in the order
-- in which the causes are tried
abbrev pub draw_refusal : Sizes → ℕ → Point → Point → Option Refusal
draw_refusal pr serial a b =
    if leaves_bound pr a || leaves_bound pr b then Some Range
    else if point_eq a b then Some OnePoint
    else if nat_le most_serials serial then Some Serials
    else None

-- why an insertion is refused: a change is prepared already, or no segment is drawn
abbrev pub insert_refusal : Sizes → Session → Point → Point → Option Refusal
insert_refusal pr s a b =
    if is_some s.prepared then Some Busy else draw_refusal pr s.serial a b

-- the name under which an editor inserts next
abbrev pub next_name : ℕ → Session → Label
next_name editor s = record { editor = editor; serial = s.serial + 1 }

-- an insertion is refused, or prepared under the next name
abbrev pub inserting : List Changes → ℕ → Session → Point → Point → Option Refusal → Outcome
inserting h editor s a b (Some why) = stays h s (Refused why)
inserting h editor s a b None =
    let name = next_name editor s in
    stays h (preparing (record s { serial = s.serial + 1 }) editor (PutIn (segment_of name a b)))
    (Ready name)

-- the deletion of a segment is prepared, or refused where no such segment is live
abbrev pub deleting : List Changes → ℕ → Session → Option Segment → Outcome
deleting h editor s None = stays h s (Refused Unknown)
deleting h editor s (Some t) = stays h (preparing s editor (TakeOut t)) (Ready t.name)

-- a deletion is refused where a change is prepared already; else the name is looked for in the
-- version that is held
abbrev pub after_delete : List Changes → ℕ → Session → Label → Outcome
after_delete h editor s name =
    if is_some s.prepared then stays h s (Refused Busy)
    else deleting h editor s (segment_in (live_at h s.held) name)

-- ---- the prepared change

-- the tiles of the prepared change, if there is one
abbrev pub reads_said : Sizes → Option BasedChange → Said
reads_said pr None = Nothing
reads_said pr (Some x) = Reads (tiles_of_edits pr x.change.edits)

-- the prepared change, if there is one, is given up
abbrev pub after_drop : List Changes → Session → Option BasedChange → Outcome
after_drop h s None = stays h s Nothing
after_drop h s (Some x) = stays h (unprepared s) Dropped

-- the change is the last of the history, and the editor holds the version after it
abbrev pub committed : List Changes → Session → Changes → Outcome
committed h s x =
    record {
      history = h ++ x ∷ [];
      session = record s { held = length h + 1; prepared = None };
      said = Commit (length h + 1);
    }

-- why a change isn't taken, as it is said
abbrev pub refusal_said : CommitRefusal → Said
refusal_said (IsStale by tile) = Stale by tile
refusal_said (IsFull what) = Full (full_text what)

-- a change is committed, or refused: then it is given up
abbrev pub committing : List Changes → Session → Changes → Option CommitRefusal → Outcome
committing h s x (Some why) = stays h (unprepared s) (refusal_said why)
committing h s x None = committed h s x

-- the prepared change, if there is one, is committed, or it is stale or the drawing is full
abbrev pub after_commit : Sizes → List Changes → Session → Option BasedChange → Outcome
after_commit pr h s None = stays h s Nothing
after_commit pr h s (Some x) = committing h s x.change (refusal_for pr h x.base x.change)

-- ---- steps

-- what comes of an act, by the history and the session of the editor whose act it is
abbrev pub outcome : Sizes → List Changes → ℕ → Session → Act → Outcome
outcome pr h editor s Take = stays h (record s { held = length h }) (At (length h))
outcome pr h editor s (Insert a b) = inserting h editor s a b (insert_refusal pr s a b)
outcome pr h editor s (Delete name) = after_delete h editor s name
outcome pr h editor s TellReads = stays h s (reads_said pr s.prepared)
outcome pr h editor s MakeCommit = after_commit pr h s s.prepared
outcome pr h editor s Drop = after_drop h s s.prepared
outcome pr h editor s (Ask query) = stays h s (answer s.held (live_at h s.held) query)

-- the state after an act of an editor: the sessions of all others stay
abbrev pub after_outcome : State → ℕ → Outcome → State
after_outcome st editor o =
    record { history = o.history; sessions = with_session st.sessions editor o.session }

-- one step: the state after a command, and the reply to it
abbrev pub step : Sizes → State → Command → State × Reply
step pr st c =
    let o = outcome pr st.history c.editor (session_of st c.editor) c.act in
    (after_outcome st c.editor o, record { editor = c.editor; said = o.said })

-- the replies to commands, one after the other
unfoldable pub replies : Sizes → State → List Command → List Reply
replies pr st [] = []
replies pr st (c ∷ cs) = (step pr st c).1 ∷ replies pr (step pr st c).0 cs
