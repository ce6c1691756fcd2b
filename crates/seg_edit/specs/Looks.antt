-- What preparing a change reads of its base.
use Rattle.std.specs.Prelude.{◌≡◌, ℕ, List, [], ◌∷◌, map, take, Option, Some, None}
use Rattle.grid_core.specs.Name.{Label}
use Rattle.grid_core.specs.Profile.{Sizes}
use Rattle.grid_core.specs.Segment.{Segment}
use Rattle.grid_core.specs.Tiles.{along}
use Rattle.hot_tile.specs.Tile.{segment_in}
use Rattle.version_core.specs.declared.looked.Look.{Look}
use Rattle.version_core.specs.Looks.{Looks, with_looks, tile_look, name_look}
use Rattle.version_core.specs.Version.{VersionState}

-- the tiles that a segment meets, from its p to its q, none where there is no segment
abbrev pub looks_along : Sizes → Option Segment → List Look
looks_along pr None = []
looks_along pr (Some s) = map tile_look (along pr s)

-- what the deletion of a name reads: the name, and the tiles of its segment, if it is live
abbrev pub looks_at : VersionState → Label → List Look
looks_at v name = name_look name ∷ looks_along v.profile (segment_in v.live name)

-- the looks grew by the first ones of a list, and nothing else changed
abbrev pub GrewByPrefix : List Look → Looks → Looks → Type 0
GrewByPrefix more old new = (n : ℕ) × (new ≡ with_looks old (take n more))
