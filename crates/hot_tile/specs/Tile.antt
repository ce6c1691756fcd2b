-- Tiles: the part of a rounding that lies in one tile, told by the segments that meet the tile.
use Rattle.std.specs.Prelude.{◌≡◌, ◌≤◌, ℕ, List, map, filter, length, slice_get, Option}
use Rattle.grid_core.specs.declared.point.Point.{Point}
use Rattle.grid_core.specs.declared.point.Vertex.{Vertex}
use Rattle.grid_core.specs.declared.tile.TileId.{TileId}
use Rattle.grid_core.specs.Vector.{point_eq}
use Rattle.grid_core.specs.Profile.{Sizes, IsProfile}
use Rattle.grid_core.specs.Name.{Label, label_eq}
use Rattle.grid_core.specs.Segment.{Segment}
use Rattle.grid_core.specs.LiveList.{IsLiveList}
use Rattle.grid_core.specs.Rounding.{RoutedSegment, route}
use Rattle.grid_core.specs.Tiles.{TilePart, part_of, near, in_tile}
use Rattle.hot_tile.specs.declared.spots.Spot.{Spot}
use Rattle.hot_tile.specs.Frame.{TileFrame, key_of, step_of}

-- a tile as contracts see it: the sizes of the drawing, the tile's number, and its segments by name
pub record TileContent : Type 0 where
  pub profile : Sizes
  pub id : TileId
  pub segments : List Segment

-- the part of the rounding of its segments that lies in the tile
abbrev pub part_in : TileContent → TilePart
part_in t = part_of t.profile t.id t.segments

-- the hot pixel at h
abbrev pub vertex_in : TilePart → Point → Option Vertex
vertex_in p h = slice_get (filter (λ v. point_eq v.at h) p.vertices) 0

-- the segment of this name
abbrev pub segment_in : List Segment → Label → Option Segment
segment_in ss name = slice_get (filter (λ s. label_eq s.name name) ss) 0

-- the tile by its sizes and its number
abbrev pub frame_of : TileContent → TileFrame
frame_of t = record { profile = t.profile; id = t.id }

-- a hot pixel by its key
abbrev pub spot_of : TileFrame → Vertex → Spot
spot_of f v = record { key = key_of f v.at; ends = v.ends; crossings = v.crossings }

-- the hot pixels of the tile by key
abbrev pub spots_in : TileContent → List Spot
spots_in t = map (spot_of (frame_of t)) (part_in t).vertices

-- the pixels of a route as steps
abbrev pub row_of : TileFrame → RoutedSegment → List ℕ
row_of f r = map (λ h. step_of r.ur (key_of f h)) r.points

-- the pixels of a route that lie in the tile as steps
abbrev pub path_in : TileContent → Segment → List ℕ
path_in t u =
    row_of (frame_of t) (record { ur = u; points = filter (in_tile t.profile t.id) (route t.segments u) })

-- the routes as rows of steps
abbrev pub rows_in : TileContent → List (List ℕ)
rows_in t = map (row_of (frame_of t)) (part_in t).routes

-- the sizes are those of a drawing; the segments are a live list within its bound, at most 65,536
-- of them, and each meets the tile
pub record IsTileContent (t : TileContent) : Type 0 where
  pub sizes : IsProfile t.profile
  pub live : IsLiveList t.profile.bound t.segments
  pub few : length t.segments ≤ 65536
  pub meet : near t.profile t.id t.segments ≡ t.segments

-- the content is one of a tile; the hot pixels and the passes are those of its part
pub record IsTile (t : TileContent) (hot : List Spot) (paths : List (List ℕ)) : Type 0 where
  pub content : IsTileContent t
  pub spots : hot ≡ spots_in t
  pub rows : paths ≡ rows_in t
