-- Books: a history of changes, and the version after it.
use Rattle.std.specs.Prelude.{◌≡◌, ℕ, ◌≤◌, ◌^◌, List, length}
use Rattle.grid_core.specs.declared.tile.TileId.{TileId}
use Rattle.version_core.specs.Edits.{Changes}
use Rattle.version_core.specs.History.{live, Fit, last_touch}
use Rattle.version_core.specs.Laws.{AreChangesWithin}
use Rattle.version_core.specs.Version.{VersionState, stamp_of}

-- a book as contracts see it
pub record BookState : Type 0 where
  pub history : List Changes
  pub version : VersionState

-- a history has at most so many changes: 262,144
abbrev pub most_commits : ℕ
most_commits = 2 ^ 18

-- the history fits, and the version is the one after it: it has the history's length as its number,
-- the live list after it, and for each tile the number of the last change that touches it
pub record IsBook (b : BookState) : Type 0 where
  pub fits : Fit b.history
  pub within : AreChangesWithin b.version.profile.bound b.history
  pub few : length b.history ≤ most_commits
  pub number : b.version.number ≡ length b.history
  pub live : b.version.live ≡ live b.history
  pub stamps : (t : TileId) → stamp_of b.version.stamps t ≡ last_touch b.version.profile b.history t
