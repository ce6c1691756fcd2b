-- The part of a rounding in a tile, told by the hot pixels that lie in the tile; what a part has of
-- one segment; and how many passes of segments through hot pixels a rounding has.
use Rattle.std.specs.Prelude.{ℕ, List, filter, flat_map, length, sum_by}
use Rattle.grid_core.specs.declared.point.Point.{Point}
use Rattle.grid_core.specs.declared.tile.TileId.{TileId}
use Rattle.grid_core.specs.Name.{Label, label_eq}
use Rattle.grid_core.specs.Profile.{Sizes}
use Rattle.grid_core.specs.Segment.{Segment}
use Rattle.grid_core.specs.Meets.{meets_pixel_of}
use Rattle.grid_core.specs.RisingSet.{rising}
use Rattle.grid_core.specs.Rounding.{hot, along_cmp, route}
use Rattle.grid_core.specs.Tiles.{in_tile, TilePart}

-- the hot pixels of a live list that lie in the tile
abbrev pub hot_in : Sizes → TileId → List Segment → List Point
hot_in pr t ss = filter (in_tile pr t) (hot ss)

-- those of some pixels that s meets, in their order along s
abbrev pub route_among : List Point → Segment → List Point
route_among hs s = rising (along_cmp s) (filter (meets_pixel_of s) hs)

-- the points that a part has of the route of the segment of this name
abbrev pub route_in : TilePart → Label → List Point
route_in part name = flat_map (λ r. r.points) (filter (λ r. label_eq r.ur.name name) part.routes)

-- how many passes of segments through hot pixels the rounding of a live list has
abbrev pub passes_of : List Segment → ℕ
passes_of ss = sum_by (λ s. length (route ss s)) ss
