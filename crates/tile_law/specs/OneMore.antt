-- What a segment brings into a tile by its own.
use Rattle.std.specs.Prelude.{List, [], ◌∷◌, filter, filter_map}
use Rattle.grid_core.specs.declared.point.Point.{Point}
use Rattle.grid_core.specs.declared.tile.TileId.{TileId}
use Rattle.grid_core.specs.Profile.{Sizes}
use Rattle.grid_core.specs.Segment.{Segment}
use Rattle.grid_core.specs.Rounding.{crossing_pixel}
use Rattle.grid_core.specs.Tiles.{in_tile}

-- the ends of the segment that lie in the tile
abbrev pub own_ends : Sizes → TileId → Segment → List Point
own_ends pr t s = filter (in_tile pr t) (s.p ∷ s.q ∷ [])

-- the pixels in the tile in which the segment crosses those of a list, one for each crossing
abbrev pub own_crossings : Sizes → TileId → List Segment → Segment → List Point
own_crossings pr t ss s = filter (in_tile pr t) (filter_map (crossing_pixel s) ss)
