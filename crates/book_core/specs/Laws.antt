-- What follows of clashes, whatever book a history is in.
use Rattle.std.specs.Prelude.{◌≡◌, ℕ, List, [], drop, length, None}
use Rattle.std.specs.List.{AllByRecursion}
use Rattle.grid_core.specs.Profile.{Sizes}
use Rattle.version_core.specs.Edits.{Changes, after_edits}
use Rattle.version_core.specs.History.{live, shared_tiles, clash}
use Rattle.version_core.specs.Stands.{PreparedChange}
use Rattle.book_core.specs.Book.{BookState}
use Rattle.book_core.specs.Commit.{full_of, refusal_of}

-- no change after the first b shares a tile with x
abbrev pub IsApart : Sizes → List Changes → ℕ → Changes → Type 0
IsApart pr h b x = AllByRecursion (λ y. shared_tiles pr x y ≡ []) (drop b h)

-- a change that was prepared on the newest version isn't stale: so an editor who works alone, each
-- time on the version after the change before, never is
abbrev pub NewestIsNeverStale : Type 0
NewestIsNeverStale = (pr : Sizes) (h : List Changes) (x : Changes) → clash pr h (length h) x ≡ None

-- a book takes a change that shares no tile with a later one, however old its base is, unless the
-- drawing would be full
abbrev pub OldBasesAreTaken : Type 0
OldBasesAreTaken =
    (b : BookState) (x : PreparedChange)
    → IsApart b.version.profile b.history x.base x.change
    → full_of b.version.profile b.history (after_edits (live b.history) x.change.edits) ≡ None
    → refusal_of b x ≡ None
