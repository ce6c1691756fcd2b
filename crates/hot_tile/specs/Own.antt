-- What a segment counts in a tile by its own.
use Rattle.std.specs.Prelude.{ℕ, List, [], ◌∷◌, ◌++◌, fold, flat_map, Option, Some, None}
use Rattle.grid_core.specs.declared.point.Point.{Point}
use Rattle.grid_core.specs.Segment.{Segment}
use Rattle.grid_core.specs.Rounding.{crossing_pixel}
use Rattle.hot_tile.specs.declared.spots.Spot.{Spot}
use Rattle.hot_tile.specs.Frame.{TileFrame, key_in}
use Rattle.hot_tile.specs.Spots.{counted}

-- one end, or one crossing, counted at a key
abbrev pub one_end : ℕ → Spot
one_end k = record { key = k; ends = 1; crossings = 0 }

abbrev pub one_crossing : ℕ → Spot
one_crossing k = record { key = k; ends = 0; crossings = 1 }

-- what f makes of the value, if there is one
abbrev pub of_some : {A B : Type 0} → (A → List B) → Option A → List B
of_some f None = []
of_some f (Some a) = f a

-- an end, if it lies in the tile
abbrev pub end_spot : TileFrame → Point → List Spot
end_spot f h = of_some (λ k. one_end k ∷ []) (key_in f h)

-- a pixel with a crossing, if it lies in the tile
abbrev pub pixel_spot : TileFrame → Point → List Spot
pixel_spot f h = of_some (λ k. one_crossing k ∷ []) (key_in f h)

-- the crossing of two segments, if they have one and its pixel lies in the tile
abbrev pub crossing_spot : TileFrame → Segment → Segment → List Spot
crossing_spot f s t = of_some (pixel_spot f) (crossing_pixel s t)

-- the ends of a segment that lie in the tile
abbrev pub end_spots : TileFrame → Segment → List Spot
end_spots f s = end_spot f s.p ++ end_spot f s.q

-- the crossings of a segment with others whose pixels lie in the tile
abbrev pub crossing_spots : TileFrame → List Segment → Segment → List Spot
crossing_spots f ss s = flat_map (crossing_spot f s) ss

-- what a segment counts in the tile by its own
abbrev pub own_spots : TileFrame → List Segment → Segment → List Spot
own_spots f ss s = fold counted [] (end_spots f s ++ crossing_spots f ss s)
