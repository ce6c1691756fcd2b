-- When a prepared change stands on a live list: it fits the list, it has the new content of each of
-- its tiles, and it tells by how much it changes the two sums.
use Rattle.std.specs.Prelude.{◌≡◌, ◌↔◌, ℕ, ℤ, pos, ◌-ℤ◌, List, [], ◌∷◌, map, length, sum_by, Contains}
use Rattle.std.specs.Prelude.{Option, Some, None}
use Rattle.std.specs.List.{AllByRecursion}
use Rattle.grid_core.specs.declared.tile.TileId.{TileId}
use Rattle.grid_core.specs.Profile.{Sizes}
use Rattle.grid_core.specs.Segment.{Segment}
use Rattle.grid_core.specs.Tiles.{near, tiles, passes_in}
use Rattle.tile_law.specs.Parts.{passes_of}
use Rattle.hot_tile.specs.Tile.{TileContent, part_in}
use Rattle.version_core.specs.Edits.{Changes, after_edits, tiles_of_edits, FitEdits}

-- the tile of these segments, none where there are none
abbrev pub tile_with : Sizes → TileId → List Segment → Option TileContent
tile_with pr t [] = None
tile_with pr t (s ∷ ss) = Some (record { profile = pr; id = t; segments = s ∷ ss })

-- what tile t has of a live list: the segments that meet it, none where none does
abbrev pub content_of : Sizes → TileId → List Segment → Option TileContent
content_of pr t ss = tile_with pr t (near pr t ss)

-- how many passes a content has
abbrev pub content_passes : Option TileContent → ℕ
content_passes None = 0
content_passes (Some c) = passes_in (part_in c)

-- how many pairs of a segment and a tile that it meets there are
abbrev pub spans_of : Sizes → List Segment → ℕ
spans_of pr ss = sum_by (λ s. length (tiles pr s)) ss

-- a prepared change as contracts see it
pub record PreparedChange : Type 0 where
  pub base : ℕ
  pub profile : Sizes
  pub change : Changes
  pub contents : List (TileId × Option TileContent)
  pub gain : ℤ
  pub span_gain : ℤ

-- the live list after the prepared change
abbrev pub after_change : List Segment → Changes → List Segment
after_change ss x = after_edits ss x.edits

-- the prepared change stands on the live list: it fits it; the contents are those of the change's
-- tiles, in any order, each as it is after the change; and the gains are exact
pub record Stands (x : PreparedChange) (ss : List Segment) : Type 0 where
  pub fits : FitEdits x.change.editor [] ss x.change.edits
  pub tiles : (t : TileId)
      → Contains (map (λ c. c.0) x.contents) t ↔ Contains (tiles_of_edits x.profile x.change.edits) t
  pub contents : AllByRecursion (λ c. c.1 ≡ content_of x.profile c.0 (after_change ss x.change)) x.contents
  pub gain : x.gain ≡ pos (passes_of (after_change ss x.change)) -ℤ pos (passes_of ss)
  pub span_gain : x.span_gain
      ≡ pos (spans_of x.profile (after_change ss x.change)) -ℤ pos (spans_of x.profile ss)
