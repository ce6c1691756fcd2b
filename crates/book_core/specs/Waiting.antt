-- Prepared changes that wait while a book takes others.
use Rattle.std.specs.Prelude.{◌≡◌, ◌⊎◌, List, All, Contains}
use Rattle.grid_core.specs.Name.{Label}
use Rattle.version_core.specs.Edits.{Changes, inserted_names}
use Rattle.version_core.specs.Stands.{PreparedChange}
use Rattle.book_core.specs.Book.{BookState}
use Rattle.book_core.specs.Commit.{MayCommit, Took}

-- the two changes insert no name in common
abbrev pub ShareNoName : Changes → Changes → Type 0
ShareNoName x y = (n : Label) → Contains (inserted_names x.edits) n → ¬ Contains (inserted_names y.edits) n

-- each of the prepared changes may be given to the book
abbrev pub AreWaiting : BookState → List PreparedChange → Type 0
AreWaiting b xs = All (MayCommit b) xs

-- the book took the change, or it is as before
abbrev pub IsSettled : BookState → Changes → BookState → Type 0
IsSettled old x new = Took old x new ⊎ (new ≡ old)
