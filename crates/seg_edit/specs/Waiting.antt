-- Prepared changes that wait to be applied.
use Rattle.std.specs.Prelude.{◌≡◌, List, All}
use Rattle.version_core.specs.Stands.{PreparedChange, Stands}
use Rattle.version_core.specs.Version.{VersionState}

-- the prepared change may be applied to the version: it has its sizes, and stands on its live list
pub record IsWaiting (v : VersionState) (x : PreparedChange) : Type 0 where
  pub profile : x.profile ≡ v.profile
  pub stands : Stands x v.live

-- each of the prepared changes may be
abbrev pub AreWaiting : VersionState → List PreparedChange → Type 0
AreWaiting v xs = All (IsWaiting v) xs
