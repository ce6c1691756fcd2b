-- What a prepared change keeps beside its contents and gains.
use Rattle.std.specs.Prelude.{◌≡◌, ℕ, List, [], ◌∷◌}
use Rattle.grid_core.specs.declared.tile.TileId.{TileId}
use Rattle.grid_core.specs.Profile.{Sizes, IsProfile}
use Rattle.version_core.specs.declared.change.Edit.{Edit}
use Rattle.version_core.specs.declared.change.Edit.TheVariants.{Insert, Delete}
use Rattle.version_core.specs.Edits.{tiles_of_edits}
use Rattle.version_core.specs.Laws.{AreSegments}
use Rattle.version_core.specs.Renewal.{Renewed}
use Rattle.version_core.specs.Stands.{PreparedChange, Stands}
use Rattle.version_core.specs.Version.{VersionState}

-- a prepared change without its base
abbrev pub renewal_of : PreparedChange → Renewed
renewal_of x = record { change = x.change; contents = x.contents; gain = x.gain; span_gain = x.span_gain }

-- each name that the edits insert has this editor
abbrev pub AreOfEditor : ℕ → List Edit → Type 0
AreOfEditor editor [] = Unit {0}
AreOfEditor editor (Insert s ∷ es) = (s.name.editor ≡ editor) × AreOfEditor editor es
AreOfEditor editor (Delete s ∷ es) = AreOfEditor editor es

-- the tiles are those of the change, whose segments lie within the bound, and an inserted name has the
-- change's editor
pub record IsPrepared (pr : Sizes) (tiles : List TileId) (x : Renewed) : Type 0 where
  pub sizes : IsProfile pr
  pub whole : tiles ≡ tiles_of_edits pr x.change.edits
  pub within : AreSegments pr.bound x.change.edits
  pub own : AreOfEditor x.change.editor x.change.edits

-- the change was prepared on the version: it has the version's number as its base, and its sizes, and
-- it stands on the live list
pub record IsPreparedOn (v : VersionState) (x : PreparedChange) : Type 0 where
  pub base : x.base ≡ v.number
  pub profile : x.profile ≡ v.profile
  pub stands : Stands x v.live
