-- Each limit at its border: what is the last number that is left room for, and which limit is told
-- first where several stand against a change.
use Rattle.std.proofs.Common.{◌≡◌, refl, ap, ℕ, List, length, Option, Some, None}
use Rattle.std.specs.Prelude.{nat_lt, if◌then◌else◌}
use Rattle.grid_core.specs.declared.tile.TileId.{TileId}
use Rattle.grid_core.specs.Profile.{Sizes}
use Rattle.grid_core.specs.Segment.{Segment}
use Rattle.tile_law.specs.Parts.{passes_of}
use Rattle.version_core.specs.Edits.{Changes}
use Rattle.version_core.specs.Stands.{spans_of}
use Rattle.version_core.specs.Version.{most_segments}
use Rattle.book_core.specs.Book.{most_commits}
use Rattle.book_core.specs.Commit.{most_spans, most_passes, passed_by, full_of, refusal_by}
use Rattle.book_core.specs.declared.refusal.FullOf.{FullOf}
use Rattle.book_core.specs.declared.refusal.FullOf.TheVariants.{Commits, Segments, Spans, Passes}
use Rattle.script_read.specs.declared.reply.Refusal.TheVariants.{Busy, Range, Point as OnePoint, Serials}
use Rattle.script_read.specs.declared.reply.Said.TheVariants.{Stale}
use Rattle.session_core.specs.Machine.{BasedChange, Session}
use Rattle.session_core.specs.Step.{insert_refusal, committing}
use Rattle.session_core.proofs.RowNotation.{sizes, at}

-- ---- insertions: busy, range, point, serials

-- a session that was given n serials
abbrev given : ℕ → Option BasedChange → Session
given n prepared = record { held = 0; prepared = prepared; serial = n }

last_serial : insert_refusal sizes (given 65534 None) (at 0 0) (at 1 0) ≡ None
last_serial = refl

serials : insert_refusal sizes (given 65535 None) (at 0 0) (at 1 0) ≡ Some Serials
serials = refl

point-serials : insert_refusal sizes (given 65535 None) (at 0 0) (at 0 0) ≡ Some OnePoint
point-serials = refl

range-point : insert_refusal sizes (given 65535 None) (at 0 1048577) (at 0 1048577) ≡ Some Range
range-point = refl

busy-range : (x : BasedChange) → insert_refusal sizes (given 65535 (Some x)) (at 0 1048577) (at 0 1048577) ≡ Some Busy
busy-range x = refl

-- ---- commits: stale, then full by changes, segments, spans, passes

stale-full : (h : List Changes) (s : Session) (x : Changes) (c : ℕ × TileId) (what : FullOf)
    → (committing h s x (refusal_by (Some c) (Some what))).said ≡ Stale c.0 c.1
stale-full h s x c what = refl

-- what is full by the number of changes
by_commits : (pr : Sizes) (h : List Changes) (ss : List Segment) (n : ℕ) → length h ≡ n
    → full_of pr h ss ≡ (if nat_lt n most_commits then passed_by pr ss else Some Commits)
by_commits pr h ss n e = ap (λ k. if nat_lt k most_commits then passed_by pr ss else Some Commits) e

last_commit : (pr : Sizes) (h : List Changes) (ss : List Segment) → length h ≡ 262143
    → full_of pr h ss ≡ passed_by pr ss
last_commit pr h ss e = by_commits pr h ss 262143 e

commits : (pr : Sizes) (h : List Changes) (ss : List Segment) → length h ≡ 262144 → full_of pr h ss ≡ Some Commits
commits pr h ss e = by_commits pr h ss 262144 e

-- what is said by the numbers of segments, spans and passes
abbrev by_numbers : ℕ → ℕ → ℕ → Option FullOf
by_numbers segments spans passes =
    if nat_lt most_segments segments then Some Segments
    else if nat_lt most_spans spans then Some Spans
    else if nat_lt most_passes passes then Some Passes
    else None

numbers : (pr : Sizes) (ss : List Segment) → passed_by pr ss ≡ by_numbers (length ss) (spans_of pr ss) (passes_of ss)
numbers pr ss = refl

full : by_numbers 4096 4194304 4194304 ≡ None
full = refl

segments : by_numbers 4097 4194305 4194305 ≡ Some Segments
segments = refl

spans : by_numbers 4096 4194305 4194305 ≡ Some Spans
spans = refl

passes : by_numbers 4096 4194304 4194305 ≡ Some Passes
passes = refl
