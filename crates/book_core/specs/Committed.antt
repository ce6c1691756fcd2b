-- What a book answers to a prepared change, with the version after it.
use Rattle.std.specs.Prelude.{◌≡◌, length, Some, None}
use Rattle.std.specs.Arc.{arc_value}
use Rattle.version_core.specs.Stands.{PreparedChange}
use Rattle.book_core.specs.Book.{BookState}
use Rattle.book_core.specs.Commit.{refusal_of, Took}
use Rattle.book_core.specs.declared.commit.Committed.{Committed}
use Rattle.book_core.specs.declared.commit.Committed.TheVariants.{Done, Stale, Full, Memory}
use Rattle.book_core.specs.declared.refusal.Refusal.TheVariants.{Stale as stale, Full as full}

-- what a book answers, and the book after it: it took the change, and the number and the version after
-- it are told; or it is as before, and the last change that clashes is told, or the bound that would be
-- passed, or it is for want of memory, which hands the prepared change back and comes only where there
-- is no other reason
abbrev pub Commits : BookState → PreparedChange → BookState → Committed → Type 0
Commits old x new (Done n version) =
    (refusal_of old x ≡ None)
    × (n ≡ length new.history)
    × (arc_value version ≡ new.version)
    × Took old x.change new
Commits old x new (Stale by tile) = (refusal_of old x ≡ Some (stale by tile)) × (new ≡ old)
Commits old x new (Full bound) = (refusal_of old x ≡ Some (full bound)) × (new ≡ old)
Commits old x new (Memory y) = (refusal_of old x ≡ None) × (y ≡ x) × (new ≡ old)
