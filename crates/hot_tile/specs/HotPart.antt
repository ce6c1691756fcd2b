-- What a tile keeps of its hot pixels and passes, if it has any.
use Rattle.std.specs.Prelude.{◌≡◌, ℕ, List, [], map, Option, Some, None, Box}
use Rattle.std.specs.Global.{Global}
use Rattle.grid_core.specs.Segment.{Segment}
use Rattle.hot_tile.specs.declared.spots.Spot.{Spot}
use Rattle.hot_tile.specs.declared.tile.HotPart.{HotPart}

-- the hot pixels
abbrev pub part_spots : Option (Box HotPart Global) → List Spot
part_spots None = []
part_spots (Some d) = d.value.spots.items

-- the passes: a row for each segment, empty where no pixel is hot
abbrev pub part_rows : List Segment → Option (Box HotPart Global) → List (List ℕ)
part_rows ss None = map (λ s. []) ss
part_rows ss (Some d) = d.value.rows

-- these hot pixels and passes, or none where there are no hot pixels
abbrev pub IsHotPart : Option (Box HotPart Global) → List Spot → List (List ℕ) → Type 0
IsHotPart None hot paths = hot ≡ []
IsHotPart (Some d) hot paths = (d.value.spots.items ≡ hot) × (d.value.rows ≡ paths)
