-- A drawing that was worked by hand, in tiles of 4 by 4 pixels: 1.1 rises and 1.2 falls through the
-- corner (3.5, 3.5) of four tiles, and 1.3 lies two columns to the right. The corner belongs to
-- the upper right tile: 1.2 meets that tile in this one point, and has a pixel of its route there.
use Rattle.std.proofs.Common.{◌≡◌, refl, ℕ}
use Rattle.std.specs.Prelude.{pos, List, [], ◌∷◌}
use Rattle.grid_core.specs.declared.point.Point.{Point}
use Rattle.grid_core.specs.declared.point.Vertex.{Vertex}
use Rattle.grid_core.specs.declared.tile.TileId.{TileId}
use Rattle.grid_core.specs.Profile.{Sizes}
use Rattle.grid_core.specs.Segment.{Segment, segment_of}
use Rattle.grid_core.specs.LiveList.{with_segment}
use Rattle.grid_core.specs.Rounding.{RoutedSegment, crossing_pixels, route}
use Rattle.grid_core.specs.Tiles.{TilePart, near, tiles, along, part_of}
use Rattle.tile_law.specs.Parts.{route_in, passes_of}
use Rattle.tile_law.specs.Laws.{passes_in_tiles}

abbrev sizes : Sizes
sizes = record { bound = 16; side = 4 }

abbrev at : ℕ → ℕ → Point
at x y = record { x = pos x; y = pos y }

abbrev tile : ℕ → ℕ → TileId
tile i j = record { i = pos i; j = pos j }

abbrev segment : ℕ → Point → Point → Segment
segment serial a b = segment_of (record { editor = 1; serial = serial }) a b

abbrev rising_one : Segment
rising_one = segment 1 (at 1 1) (at 6 6)

abbrev falling_one : Segment
falling_one = segment 2 (at 1 6) (at 6 1)

abbrev far_one : Segment
far_one = segment 3 (at 8 0) (at 10 2)

abbrev drawing : List Segment
drawing = rising_one ∷ falling_one ∷ far_one ∷ []

-- ---- the tiles of a segment

-- through the corner upwards, from the lower left tile right into the upper right one
rising-tiles : tiles sizes rising_one ≡ tile 0 0 ∷ tile 1 1 ∷ []
rising-tiles = refl

-- through it downwards, by way of the upper right tile; never in the lower left one
falling-tiles : tiles sizes falling_one ≡ tile 0 1 ∷ tile 1 0 ∷ tile 1 1 ∷ []
falling-tiles = refl

falling-along : along sizes falling_one ≡ tile 0 1 ∷ tile 1 1 ∷ tile 1 0 ∷ []
falling-along = refl

-- ---- parts

abbrev vertex : Point → ℕ → ℕ → Vertex
vertex h ends crossings = record { at = h; ends = ends; crossings = crossings }

abbrev routed : Segment → List Point → RoutedSegment
routed s points = record { ur = s; points = points }

-- the part in the upper right tile
abbrev upper_right : TilePart
upper_right =
    record {
      routes = routed rising_one (at 4 4 ∷ at 6 6 ∷ []) ∷ routed falling_one (at 4 4 ∷ []) ∷ [];
      vertices = vertex (at 4 4) 0 1 ∷ vertex (at 6 6) 1 0 ∷ [];
    }

part-upper_right : part_of sizes (tile 1 1) drawing ≡ upper_right
unfolding crossing_pixels
part-upper_right = refl

-- two of the three segments meet this tile, and make the part alone
near-upper_right : near sizes (tile 1 1) drawing ≡ rising_one ∷ falling_one ∷ []
near-upper_right = refl

part-by_near : part_of sizes (tile 1 1) (rising_one ∷ falling_one ∷ []) ≡ upper_right
unfolding crossing_pixels
part-by_near = refl

-- without the one that meets it in the corner alone it would be another: (4, 4) isn't hot
part-without : part_of sizes (tile 1 1) (rising_one ∷ [])
    ≡ record { routes = routed rising_one (at 6 6 ∷ []) ∷ []; vertices = vertex (at 6 6) 1 0 ∷ [] }
unfolding crossing_pixels
part-without = refl

-- the far one put in changes nothing there
near-put_in : near sizes (tile 1 1) (with_segment (rising_one ∷ falling_one ∷ []) far_one) ≡ rising_one ∷ falling_one ∷ []
near-put_in = refl

-- ---- routes and passes

-- the pieces of the falling one, joined along it
falling-route : route drawing falling_one ≡ at 1 6 ∷ at 4 4 ∷ at 6 1 ∷ []
unfolding crossing_pixels
falling-route = refl

falling-first : route_in (part_of sizes (tile 0 1) drawing) falling_one.name ≡ at 1 6 ∷ []
unfolding crossing_pixels
falling-first = refl

falling-second : route_in (part_of sizes (tile 1 1) drawing) falling_one.name ≡ at 4 4 ∷ []
unfolding crossing_pixels
falling-second = refl

falling-third : route_in (part_of sizes (tile 1 0) drawing) falling_one.name ≡ at 6 1 ∷ []
unfolding crossing_pixels
falling-third = refl

-- three passes, three and two
passes : passes_of drawing ≡ 8
unfolding crossing_pixels
passes = refl

-- one, one, one, three and two
passes-by_tile : passes_in_tiles sizes (tile 0 0 ∷ tile 0 1 ∷ tile 1 0 ∷ tile 1 1 ∷ tile 2 0 ∷ []) drawing ≡ 8
unfolding crossing_pixels
passes-by_tile = refl
