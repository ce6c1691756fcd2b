-- The new contents of a change's tiles, prepared for a version's map.
use Rattle.std.specs.Prelude.{◌≡◌, ◌↔◌, ℕ, ℤ, pos, ◌-ℤ◌, List, map, filter_map, take, drop, Contains}
use Rattle.std.specs.Prelude.{Option, Some, None, option_map}
use Rattle.std.specs.Arc.{arc_value}
use Rattle.std.specs.declared.sync.Arc.{Arc}
use Rattle.std.specs.List.{AllByRecursion}
use Rattle.grid_core.specs.declared.tile.TileId.{TileId}
use Rattle.grid_core.specs.Profile.{Sizes}
use Rattle.grid_core.specs.Segment.{Segment}
use Rattle.tile_law.specs.Parts.{passes_of}
use Rattle.hot_tile.specs.Tile.{TileContent}
use Rattle.version_core.specs.declared.entry.Entry.{Entry}
use Rattle.version_core.specs.declared.entry.Entry.TheVariants.{Live, Touched}
use Rattle.version_core.specs.declared.change.Edit.{Edit}
use Rattle.version_core.specs.Edits.{Changes, after_edits, tiles_of_edits}
use Rattle.version_core.specs.Entries.{IsKeyed, put_name}
use Rattle.version_core.specs.Stands.{content_of, spans_of}

-- a map edit by its key and its entry, whatever pointer leads to the entry
abbrev pub plain_edit : {Z : Type 0} → ℕ × Option (Arc Entry Z) → ℕ × Option Entry
plain_edit e = (e.0, option_map arc_value e.1)

-- the content that an edit puts under a tile's key, none for an edit of a name
abbrev pub content_put : Option Entry → Option (TileId × Option TileContent)
content_put None = None
content_put (Some (Live s)) = None
content_put (Some (Touched x)) = Some (x.id, x.tile)

-- the contents that map edits put under tiles' keys
abbrev pub contents_put : List (ℕ × Option Entry) → List (TileId × Option TileContent)
contents_put edits = filter_map (λ e. content_put e.1) edits

-- the edit puts a tile under its key, and the tile is in reach
abbrev pub PutsTile : ℕ → Option Entry → Type 0
PutsTile k None = ⊥
PutsTile k (Some (Live s)) = ⊥
PutsTile k (Some (Touched x)) = IsKeyed k (Touched x)

-- the first n edits put tiles, and the others are those of the change's names
pub record AreMapEdits (n : ℕ) (es : List Edit) (edits : List (ℕ × Option Entry)) : Type 0 where
  pub tiles : AllByRecursion (λ e. PutsTile e.0 e.1) (take n edits)
  pub names : drop n edits ≡ map put_name es

-- the new contents of a change's tiles, and how many passes and spans the change gains
pub record Renewed : Type 0 where
  pub change : Changes
  pub contents : List (TileId × Option TileContent)
  pub gain : ℤ
  pub span_gain : ℤ

-- what the change makes of a live list: the contents are those of its tiles, in any order, and the
-- gains are exact
pub record Renews (pr : Sizes) (ss : List Segment) (x : Renewed) : Type 0 where
  pub tiles : (t : TileId)
      → Contains (map (λ c. c.0) x.contents) t ↔ Contains (tiles_of_edits pr x.change.edits) t
  pub contents : AllByRecursion (λ c. c.1 ≡ content_of pr c.0 (after_edits ss x.change.edits)) x.contents
  pub gain : x.gain ≡ pos (passes_of (after_edits ss x.change.edits)) -ℤ pos (passes_of ss)
  pub span_gain : x.span_gain
      ≡ pos (spans_of pr (after_edits ss x.change.edits)) -ℤ pos (spans_of pr ss)
