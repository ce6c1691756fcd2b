-- The laws of tiles, for every profile, segment and list of segments.
use Rattle.std.specs.Prelude.{◌≡◌, ◌↔◌, ℕ, ◌+◌, ◌*◌, ◌<◌, ◌≤◌, unsigned_abs, IsTrue, IsFalse}
use Rattle.std.specs.Prelude.{if◌then◌else◌, List, filter, flat_map, sum_by, Contains}
use Rattle.std.specs.List.{IsDistinct, list_any}
use Rattle.std.specs.List.Sorted.{IsStrictlySortedBy}
use Rattle.std.specs.declared.cmp.Ordering.{Ordering}
use Rattle.std.specs.declared.cmp.Ordering.TheVariants.{Less}
use Rattle.std.specs.Ordering.{int_cmp, ordering_then}
use Rattle.grid_core.specs.declared.point.Point.{Point}
use Rattle.grid_core.specs.declared.pixel_box.PixelBox.{PixelBox}
use Rattle.grid_core.specs.declared.tile.TileId.{TileId}
use Rattle.grid_core.specs.Name.{Label, label_cmp}
use Rattle.grid_core.specs.Profile.{Sizes}
use Rattle.grid_core.specs.Segment.{Segment, IsSegment}
use Rattle.grid_core.specs.LiveList.{names, with_segment, without_name}
use Rattle.grid_core.specs.Meets.{meets_pixel_of}
use Rattle.grid_core.specs.Rounding.{along_cmp, route}
use Rattle.grid_core.specs.Tiles.{tile_cmp, tile_eq, tile_of, tile_box, in_tile, meets_tile, near, tiles, falls}
use Rattle.grid_core.specs.Tiles.{along_tile_cmp, along, part_of, passes_in}
use Rattle.grid_core.specs.Laws.{HasPointIn}
use Rattle.tile_law.specs.Parts.{route_in, passes_of}

-- ---- the tiles of a segment

-- each point of s that lies in the first box comes before each that lies in the second
abbrev pub MeetsBefore : Segment → PixelBox → PixelBox → Type 0
MeetsBefore s first second =
    (g : HasPointIn s first) → (h : HasPointIn s second) → (g.a * h.b) < (h.a * g.b)

-- `tiles` and `along` have exactly the tiles that s meets, in order, each once; along s, the points
-- of s in a tile come before those in a later tile
pub record TilesAreMet (pr : Sizes) (s : Segment) : Type 0 where
  pub met : (t : TileId) → Contains (tiles pr s) t ↔ IsTrue (meets_tile pr t s)
  pub in_order : IsStrictlySortedBy tile_cmp (tiles pr s)
  pub met_along : (t : TileId) → Contains (along pr s) t ↔ IsTrue (meets_tile pr t s)
  pub in_order_along : IsStrictlySortedBy (along_tile_cmp s) (along pr s)
  pub from_p_to_q : (t u : TileId)
      → along_tile_cmp s t u ≡ Less
      → MeetsBefore s (tile_box pr t) (tile_box pr u)

-- a pixel that s meets lies in a tile that s meets
abbrev pub PixelsLieInMetTiles : Sizes → Segment → Type 0
PixelsLieInMetTiles pr s =
    (h : Point) → IsTrue (meets_pixel_of s h) → IsTrue (meets_tile pr (tile_of pr h) s)

-- the column and the row of the tile are at most 16,384 in size
pub record IsTileInReach (t : TileId) : Type 0 where
  pub column : unsigned_abs t.i ≤ 16384
  pub row : unsigned_abs t.j ≤ 16384

-- a segment within the profile's bound meets only tiles in reach
abbrev pub MetTilesAreInReach : Sizes → Segment → Type 0
MetTilesAreInReach pr s =
    IsSegment pr.bound s → (t : TileId) → IsTrue (meets_tile pr t s) → IsTileInReach t

-- by x, and at one x by y, upwards, or downwards where the segment falls
abbrev pub place_cmp : Segment → Point → Point → Ordering
place_cmp s g h =
    ordering_then (int_cmp g.x h.x) (if falls s then int_cmp h.y g.y else int_cmp g.y h.y)

-- the pixels that s meets stand along s by place
abbrev pub PixelsStandByPlace : Segment → Type 0
PixelsStandByPlace s =
    (g h : Point)
    → IsTrue (meets_pixel_of s g)
    → IsTrue (meets_pixel_of s h)
    → along_cmp s g h ≡ place_cmp s g h

-- ---- parts

-- the part in a tile is made by those segments of the list that meet the tile, and by no other:
-- two lists that have the same such segments have the same part
pub record PartsAreLocal (pr : Sizes) (ss : List Segment) : Type 0 where
  pub by_near : (t : TileId) → part_of pr t ss ≡ part_of pr t (near pr t ss)
  pub same : (us : List Segment) (t : TileId)
      → near pr t ss ≡ near pr t us
      → part_of pr t ss ≡ part_of pr t us

-- the route of s is its pieces in the tiles that s meets, joined along s; where s is in the list,
-- whose names rise, these pieces are what the parts have of s
pub record RouteIsJoined (pr : Sizes) (ss : List Segment) (s : Segment) : Type 0 where
  pub pieces : route ss s ≡ flat_map (λ t. filter (in_tile pr t) (route ss s)) (along pr s)
  pub of_parts : IsStrictlySortedBy label_cmp (names ss)
      → Contains ss s
      → route ss s ≡ flat_map (λ t. route_in (part_of pr t ss) s.name) (along pr s)

-- the tiles stand in the list each once, and each tile that a segment of the list meets is one of
-- them
pub record CoversTiles (pr : Sizes) (ss : List Segment) (ts : List TileId) : Type 0 where
  pub once : IsDistinct tile_eq ts
  pub all : (s : Segment)
      → Contains ss s
      → (t : TileId)
      → IsTrue (meets_tile pr t s)
      → Contains ts t

-- how many passes the parts in some tiles have together
abbrev pub passes_in_tiles : Sizes → List TileId → List Segment → ℕ
passes_in_tiles pr ts ss = sum_by (λ t. passes_in (part_of pr t ss)) ts

-- the passes of a rounding are those of its parts; where two lists have the same segments in each
-- tile outside of ts, their passes differ by what those of the parts in ts differ
pub record PassesAddUp (pr : Sizes) (ss : List Segment) : Type 0 where
  pub whole : (ts : List TileId) → CoversTiles pr ss ts → passes_in_tiles pr ts ss ≡ passes_of ss
  pub change : (us : List Segment) (ts : List TileId)
      → IsDistinct tile_eq ts
      → ((t : TileId) → IsFalse (list_any (tile_eq t) ts) → near pr t ss ≡ near pr t us)
      → passes_in_tiles pr ts us + passes_of ss ≡ passes_in_tiles pr ts ss + passes_of us

-- ---- edits

-- no segment of the list that has this name meets the tile
abbrev pub IsFar : Sizes → TileId → List Segment → Label → Type 0
IsFar pr t ss name = (u : Segment) → Contains ss u → u.name ≡ name → IsFalse (meets_tile pr t u)

-- what is near a tile after an edit is made by what was near before; an edit with a segment that
-- doesn't meet the tile leaves what is near
pub record EditsAreLocal (pr : Sizes) (ss : List Segment) : Type 0 where
  pub put_in : (t : TileId) (s : Segment)
      → near pr t (with_segment ss s) ≡ near pr t (with_segment (near pr t ss) s)
  pub put_in_met : (t : TileId) (s : Segment)
      → IsTrue (meets_tile pr t s)
      → near pr t (with_segment ss s) ≡ with_segment (near pr t ss) s
  pub put_in_far : (t : TileId) (s : Segment)
      → IsStrictlySortedBy label_cmp (names ss)
      → IsFalse (meets_tile pr t s)
      → IsFar pr t ss s.name
      → near pr t (with_segment ss s) ≡ near pr t ss
  pub taken_out : (t : TileId) (name : Label)
      → near pr t (without_name ss name) ≡ without_name (near pr t ss) name
  pub taken_out_far : (t : TileId) (name : Label)
      → IsFar pr t ss name
      → near pr t (without_name ss name) ≡ near pr t ss

-- the part in a tile after an edit is made by what was near the tile before; an edit with a segment
-- that doesn't meet the tile leaves the part
pub record PartsAfterEdits (pr : Sizes) (ss : List Segment) : Type 0 where
  pub put_in : (t : TileId) (s : Segment)
      → part_of pr t (with_segment ss s) ≡ part_of pr t (with_segment (near pr t ss) s)
  pub put_in_far : (t : TileId) (s : Segment)
      → IsStrictlySortedBy label_cmp (names ss)
      → IsFalse (meets_tile pr t s)
      → IsFar pr t ss s.name
      → part_of pr t (with_segment ss s) ≡ part_of pr t ss
  pub taken_out : (t : TileId) (name : Label)
      → part_of pr t (without_name ss name) ≡ part_of pr t (without_name (near pr t ss) name)
  pub taken_out_far : (t : TileId) (name : Label)
      → IsFar pr t ss name
      → part_of pr t (without_name ss name) ≡ part_of pr t ss
