-- What a book answers to a prepared change: stale where a later change shares a tile with it, full
-- where one of four bounds would be passed, and else it takes the change.
use Rattle.std.specs.Prelude.{◌≡◌, ℕ, ◌≤◌, ◌^◌, List, [], ◌∷◌, ◌++◌, length, take, Contains, nat_lt}
use Rattle.std.specs.Prelude.{if◌then◌else◌, Option, Some, None}
use Rattle.grid_core.specs.declared.tile.TileId.{TileId}
use Rattle.grid_core.specs.Name.{Label}
use Rattle.grid_core.specs.Profile.{Sizes}
use Rattle.grid_core.specs.Segment.{Segment}
use Rattle.tile_law.specs.Parts.{passes_of}
use Rattle.version_core.specs.Edits.{Changes, after_edits, inserted_names}
use Rattle.version_core.specs.History.{live, clash, given_names}
use Rattle.version_core.specs.Stands.{PreparedChange, Stands, spans_of}
use Rattle.version_core.specs.Version.{IsNext, most_segments}
use Rattle.book_core.specs.Book.{BookState, most_commits}
use Rattle.book_core.specs.declared.refusal.FullOf.{FullOf}
use Rattle.book_core.specs.declared.refusal.FullOf.TheVariants.{Commits, Segments, Spans, Passes}
use Rattle.book_core.specs.declared.refusal.Refusal.{Refusal}
use Rattle.book_core.specs.declared.refusal.Refusal.TheVariants.{Stale, Full}
use Rattle.book_core.specs.declared.commit.Settled.{Settled}
use Rattle.book_core.specs.declared.commit.Settled.TheVariants.{Done, Refused, Memory}

-- a live list has at most so many spans, pairs of a segment and a tile that it meets: 4,194,304
abbrev pub most_spans : ℕ
most_spans = 2 ^ 22

-- and at most so many passes of segments through hot pixels: 4,194,304
abbrev pub most_passes : ℕ
most_passes = 2 ^ 22

-- the first of three bounds, in their order, that a live list passes
abbrev pub passed_by : Sizes → List Segment → Option FullOf
passed_by pr ss =
    if nat_lt most_segments (length ss)
    then Some Segments
    else if nat_lt most_spans (spans_of pr ss)
    then Some Spans
    else if nat_lt most_passes (passes_of ss) then Some Passes else None

-- the first of the four causes, in their order, why a history doesn't take one change more that makes
-- this live list
abbrev pub full_of : Sizes → List Changes → List Segment → Option FullOf
full_of pr h ss = if nat_lt (length h) most_commits then passed_by pr ss else Some Commits

-- why the change isn't taken: stale comes before full
abbrev pub refusal_by : Option (ℕ × TileId) → Option FullOf → Option Refusal
refusal_by (Some c) full = Some (Stale c.0 c.1)
refusal_by None (Some f) = Some (Full f)
refusal_by None None = None

-- why a history doesn't take a change that was prepared after its first changes, so many as the base
-- says: a change after the base shares a tile with it, the last such change and the least tile being
-- named; or the drawing is full; none where it takes the change
abbrev pub refusal_for : Sizes → List Changes → ℕ → Changes → Option Refusal
refusal_for pr h base x = refusal_by (clash pr h base x) (full_of pr h (after_edits (live h) x.edits))

-- why a book doesn't take a prepared change, none where it takes it
abbrev pub refusal_of : BookState → PreparedChange → Option Refusal
refusal_of b x = refusal_for b.version.profile b.history x.base x.change

-- the history has none of the names that the change inserts
abbrev pub InsertsNew : List Changes → Changes → Type 0
InsertsNew h x = (n : Label) → Contains (inserted_names x.edits) n → ¬ Contains (given_names h) n

-- what is asked of a prepared change: it has the book's profile, it was prepared after the first
-- changes of the history, and the names that it inserts aren't in the history
pub record MayCommit (b : BookState) (x : PreparedChange) : Type 0 where
  pub profile : x.profile ≡ b.version.profile
  pub based : x.base ≤ length b.history
  pub stands : Stands x (live (take x.base b.history))
  pub new : InsertsNew b.history x.change

-- the book took the change: the history grew by it, and the version is the next one
pub record Took (old : BookState) (x : Changes) (new : BookState) : Type 0 where
  pub history : new.history ≡ old.history ++ x ∷ []
  pub version : IsNext old.version x new.version

-- what a book answers, and the book after it: it took the change, whose number is told; or it is as
-- before, for the reason that is told, or for want of memory, which hands the prepared change back and
-- comes only where there is no other reason
abbrev pub Settles : BookState → PreparedChange → BookState → Settled → Type 0
Settles old x new (Done n) = (refusal_of old x ≡ None) × (n ≡ length new.history) × Took old x.change new
Settles old x new (Refused r) = (refusal_of old x ≡ Some r) × (new ≡ old)
Settles old x new (Memory y) = (refusal_of old x ≡ None) × (y ≡ x) × (new ≡ old)
