-- What a change gains, told by its edits and by the contents that are given for its tiles.
use Rattle.std.specs.Prelude.{ℤ, pos, ◌+ℤ◌, ◌-ℤ◌, List, [], ◌∷◌, length, sum_by, map, Option, option_map}
use Rattle.std.specs.Arc.{arc_value}
use Rattle.std.specs.declared.sync.Arc.{Arc}
use Rattle.grid_core.specs.declared.tile.TileId.{TileId}
use Rattle.grid_core.specs.Profile.{Sizes}
use Rattle.grid_core.specs.Segment.{Segment}
use Rattle.grid_core.specs.Tiles.{tiles}
use Rattle.hot_tile.specs.Tile.{TileContent}
use Rattle.version_core.specs.declared.change.Edit.{Edit}
use Rattle.version_core.specs.declared.change.Edit.TheVariants.{Insert, Delete}
use Rattle.version_core.specs.Edits.{after_edits, tiles_of_edits}
use Rattle.version_core.specs.Stands.{content_of, content_passes}

-- a tile with its content, whatever pointer leads to the content
abbrev pub plain_tile : {Z : Type 0} → TileId × Option (Arc TileContent Z) → TileId × Option TileContent
plain_tile e = (e.0, option_map arc_value e.1)

-- the tiles that the edits meet, each with what it has of the live list after the edits
abbrev pub contents_after : Sizes → List Segment → List Edit → List (TileId × Option TileContent)
contents_after pr ss es = map (λ t. (t, content_of pr t (after_edits ss es))) (tiles_of_edits pr es)

-- how many more passes the contents have than the tiles had of a live list
abbrev pub passes_gained : Sizes → List Segment → List (TileId × Option TileContent) → ℤ
passes_gained pr ss cs =
    pos (sum_by (λ c. content_passes c.1) cs) -ℤ pos (sum_by (λ c. content_passes (content_of pr c.0 ss)) cs)

-- how many spans an edit gains: those of a segment that is put in, less those of one taken out
abbrev pub spans_gained_by : Sizes → Edit → ℤ
spans_gained_by pr (Insert s) = pos (length (tiles pr s))
spans_gained_by pr (Delete s) = pos 0 -ℤ pos (length (tiles pr s))

-- how many spans edits gain
abbrev pub spans_gained : Sizes → List Edit → ℤ
spans_gained pr [] = pos 0
spans_gained pr (e ∷ es) = spans_gained_by pr e +ℤ spans_gained pr es
