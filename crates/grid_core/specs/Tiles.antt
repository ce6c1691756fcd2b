-- Tiles: squares of pixels that cut the plane, the tiles that a segment meets, and the part of a
-- rounding that lies in one tile. Tile (0, 0) has pixel (0, 0) in its lower left corner.
use Rattle.std.specs.Prelude.{ℤ, pos, ◌+ℤ◌, ◌-ℤ◌, ◌*ℤ◌, int_lt, Bool, if◌then◌else◌}
use Rattle.std.specs.Prelude.{ℕ, List, map, filter, flat_map, length, sum_by}
use Rattle.std.specs.List.{range_with_len}
use Rattle.std.specs.Int.{int_div_euclid, int_gap, int_min, int_max}
use Rattle.std.specs.declared.cmp.Ordering.{Ordering}
use Rattle.std.specs.Ordering.{int_cmp, ordering_then, is_eq}
use Rattle.grid_core.specs.declared.point.Point.{Point}
use Rattle.grid_core.specs.declared.point.Vertex.{Vertex}
use Rattle.grid_core.specs.declared.pixel_box.PixelBox.{PixelBox}
use Rattle.grid_core.specs.declared.tile.TileId.{TileId}
use Rattle.grid_core.specs.Profile.{Sizes}
use Rattle.grid_core.specs.Segment.{Segment}
use Rattle.grid_core.specs.Meets.{meets_of}
use Rattle.grid_core.specs.RisingSet.{rising}
use Rattle.grid_core.specs.Rounding.{RoutedSegment, route, hot, vertex_at}

-- by column, and in one column by row
abbrev pub tile_cmp : TileId → TileId → Ordering
tile_cmp a b = ordering_then (int_cmp a.i b.i) (int_cmp a.j b.j)

-- the two are one tile
abbrev pub tile_eq : TileId → TileId → Bool
tile_eq a b = is_eq (tile_cmp a b)

-- the tile in which a pixel lies
abbrev pub tile_of : Sizes → Point → TileId
tile_of pr h =
    record { i = int_div_euclid h.x (pos pr.side); j = int_div_euclid h.y (pos pr.side) }

-- the pixels of a tile
abbrev pub tile_box : Sizes → TileId → PixelBox
tile_box pr t =
    record {
      lo = record { x = pos pr.side *ℤ t.i; y = pos pr.side *ℤ t.j };
      hi = record {
        x = pos pr.side *ℤ t.i +ℤ pos pr.side -ℤ pos 1;
        y = pos pr.side *ℤ t.j +ℤ pos pr.side -ℤ pos 1;
      };
    }

-- some point of the segment lies in the tile
abbrev pub meets_tile : Sizes → TileId → Segment → Bool
meets_tile pr t s = meets_of s (tile_box pr t)

-- the pixel lies in the tile
abbrev pub in_tile : Sizes → TileId → Point → Bool
in_tile pr t h = tile_eq (tile_of pr h) t

-- the segments of a list that meet the tile
abbrev pub near : Sizes → TileId → List Segment → List Segment
near pr t ss = filter (meets_tile pr t) ss

-- the whole numbers from the first to the last, none where the last is less than the first
abbrev pub whole_numbers : ℤ → ℤ → List ℤ
whole_numbers first last =
    map (λ k. first +ℤ pos k) (range_with_len 0 (int_gap first (last +ℤ pos 1)))

-- the tiles of one column, from one row to another
abbrev pub column_between : ℤ → ℤ → ℤ → List TileId
column_between low high i = map (λ j. record { i = i; j = j }) (whole_numbers low high)

-- the tiles between those of the segment's ends, by column and then row
abbrev pub tiles_between : Sizes → Segment → List TileId
tiles_between pr s =
    let p = tile_of pr s.p in
    let q = tile_of pr s.q in
    flat_map (column_between (int_min p.j q.j) (int_max p.j q.j)) (whole_numbers p.i q.i)

-- the tiles that the segment meets, by column and then row
abbrev pub tiles : Sizes → Segment → List TileId
tiles pr s = filter (λ t. meets_tile pr t s) (tiles_between pr s)

-- the segment runs downwards from p to q
abbrev pub falls : Segment → Bool
falls s = int_lt s.q.y s.p.y

-- the order in which a segment meets tiles: by column, and in one column by row, upwards, or
-- downwards where the segment falls
abbrev pub along_tile_cmp : Segment → TileId → TileId → Ordering
along_tile_cmp s a b =
    ordering_then (int_cmp a.i b.i) (if falls s then int_cmp b.j a.j else int_cmp a.j b.j)

-- the tiles that the segment meets, in the order in which it meets them from p to q
abbrev pub along : Sizes → Segment → List TileId
along pr s = rising (along_tile_cmp s) (tiles pr s)

-- the part of a rounding that lies in a tile: the segments that meet the tile, each with those
-- pixels of its route that lie there, and the hot pixels that lie there, with their counts
pub record TilePart : Type 0 where
  pub routes : List RoutedSegment
  pub vertices : List Vertex

-- the part in tile t of the rounding of a live list
abbrev pub part_of : Sizes → TileId → List Segment → TilePart
part_of pr t ss =
    record {
      routes = map (λ s. record { ur = s; points = filter (in_tile pr t) (route ss s) }) (near pr t ss);
      vertices = map (vertex_at ss) (filter (in_tile pr t) (hot ss));
    }

-- how many passes of segments through hot pixels a part has
abbrev pub passes_in : TilePart → ℕ
passes_in p = sum_by (λ r. length r.points) p.routes
