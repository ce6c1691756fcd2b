-- What one edit makes of the content of a tile.
use Rattle.std.specs.Prelude.{◌≡◌, ℕ, ◌<◌, List, [], map, length, sum_by, Contains, IsTrue}
use Rattle.std.specs.Prelude.{Option, Some, None, option_copied}
use Rattle.std.specs.Borrow.{Bor}
use Rattle.grid_core.specs.declared.tile.TileId.{TileId}
use Rattle.grid_core.specs.Name.{Label}
use Rattle.grid_core.specs.Profile.{Sizes}
use Rattle.grid_core.specs.Segment.{Segment}
use Rattle.grid_core.specs.LiveList.{names, with_segment, without_name}
use Rattle.grid_core.specs.Tiles.{meets_tile}
use Rattle.tile_law.specs.Laws.{IsTileInReach}
use Rattle.hot_tile.specs.Tile.{TileContent}
use Rattle.version_core.specs.Stands.{tile_with, content_passes}

-- the segments of a content, none where there is no content
abbrev pub segments_in : Option TileContent → List Segment
segments_in None = []
segments_in (Some c) = c.segments

-- a tile and its content, with a segment more
abbrev pub grown : Sizes → Segment → TileId × Option TileContent → TileId × Option TileContent
grown pr s c = (c.0, tile_with pr c.0 (with_segment (segments_in c.1) s))

-- a tile and its content, without the segment of a name
abbrev pub thinned : Sizes → Label → TileId × Option TileContent → TileId × Option TileContent
thinned pr name c = (c.0, tile_with pr c.0 (without_name (segments_in c.1) name))

-- what tiles have together: how many passes
abbrev pub passes_together : List (TileId × Option TileContent) → ℕ
passes_together cs = sum_by (λ c. content_passes c.1) cs

-- tiles that were found, with their contents
abbrev pub found_contents : List (TileId × Option (Bor TileContent)) → List (TileId × Option TileContent)
found_contents found = map (λ e. (e.0, option_copied e.1)) found

-- the content is one of this tile, in a drawing of these sizes
abbrev pub IsContentOf : Sizes → TileId → Option TileContent → Type 0
IsContentOf pr t None = Unit {0}
IsContentOf pr t (Some c) = (c.profile ≡ pr) × (c.id ≡ t)

-- the segment may be put into the tile: it meets it, and its name is new there
pub record MayGrow (pr : Sizes) (s : Segment) (c : TileId × Option TileContent) : Type 0 where
  pub met : IsTrue (meets_tile pr c.0 s)
  pub reach : IsTileInReach c.0
  pub own : IsContentOf pr c.0 c.1
  pub new : ¬ Contains (names (segments_in c.1)) s.name
  pub few : length (segments_in c.1) < 65536

-- the segment of the name may be taken out of the tile, which has it
pub record MayShrink (pr : Sizes) (name : Label) (c : TileId × Option TileContent) : Type 0 where
  pub reach : IsTileInReach c.0
  pub own : IsContentOf pr c.0 c.1
  pub here : Contains (names (segments_in c.1)) name
