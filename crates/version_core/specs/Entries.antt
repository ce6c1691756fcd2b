-- What stands in a version's map: live segments under the keys of their names, and tiles that some
-- change touched under their own keys, each with its stamp and its part.
use Rattle.std.specs.Prelude.{◌≡◌, ℕ, List, map, ◌++◌, fold, filter_map, Option, Some, None}
use Rattle.grid_core.specs.declared.tile.TileId.{TileId}
use Rattle.grid_core.specs.Name.{IsLabel}
use Rattle.grid_core.specs.Segment.{Segment}
use Rattle.tile_law.specs.Laws.{IsTileInReach}
use Rattle.hot_tile.specs.Tile.{TileContent}
use Rattle.radix_map.specs.Entries.{value_at, edited}
use Rattle.version_core.specs.declared.entry.Entry.{Entry}
use Rattle.version_core.specs.declared.entry.Entry.TheVariants.{Live, Touched}
use Rattle.version_core.specs.declared.entry.TouchedTile.{TouchedTile}
use Rattle.version_core.specs.declared.change.Edit.{Edit}
use Rattle.version_core.specs.declared.change.Edit.TheVariants.{Insert, Delete}
use Rattle.tile_keys.specs.Keys.{tile_key, name_key}

-- the live segment of an entry, none of a tile's
abbrev pub segment_in : Entry → Option Segment
segment_in (Live s) = Some s
segment_in (Touched x) = None

-- the tile of an entry and its stamp, none of a segment's
abbrev pub stamp_in : Entry → Option (TileId × ℕ)
stamp_in (Live s) = None
stamp_in (Touched x) = Some (x.id, x.stamp)

-- what a tile's entry has of the rounding, none where no segment meets the tile
abbrev pub content_in : Entry → Option TileContent
content_in (Live s) = None
content_in (Touched x) = x.tile

-- the live list that entries have
abbrev pub live_in : List (ℕ × Entry) → List Segment
live_in es = filter_map (λ e. segment_in e.1) es

-- the stamps that entries have, by the tiles' keys
abbrev pub stamps_in : List (ℕ × Entry) → List (TileId × ℕ)
stamps_in es = filter_map (λ e. stamp_in e.1) es

-- the entry stands under the key of its name or its tile
abbrev pub IsKeyed : ℕ → Entry → Type 0
IsKeyed k (Live s) = (k ≡ name_key s.name) × IsLabel s.name
IsKeyed k (Touched x) = (k ≡ tile_key x.id) × IsTileInReach x.id

-- the tile that a lookup found: none where there is no entry, or a segment's
abbrev pub touched_found : Option Entry → Option TouchedTile
touched_found None = None
touched_found (Some (Live s)) = None
touched_found (Some (Touched x)) = Some x

-- the live segment that a lookup found: none where there is no entry, or a tile's
abbrev pub live_found : Option Entry → Option Segment
live_found None = None
live_found (Some e) = segment_in e

-- the content that a lookup found: none where there is no entry
abbrev pub content_found : Option Entry → Option TileContent
content_found None = None
content_found (Some e) = content_in e

-- what entries have of the rounding in tile t
abbrev pub content_at : List (ℕ × Entry) → TileId → Option TileContent
content_at es t = content_found (value_at (tile_key t) es)

-- a tile's new content under its key, with the number of the change as its stamp
abbrev pub put_tile : ℕ → TileId × Option TileContent → ℕ × Option Entry
put_tile n c = (tile_key c.0, Some (Touched (record { id = c.0; stamp = n; tile = c.1 })))

-- a segment put in, or taken out, under the key of its name
abbrev pub put_name : Edit → ℕ × Option Entry
put_name (Insert s) = (name_key s.name, Some (Live s))
put_name (Delete s) = (name_key s.name, None)

-- what change number n does to a map: it puts the new contents of its tiles, and edits the names
abbrev pub map_edits : ℕ → List (TileId × Option TileContent) → List Edit → List (ℕ × Option Entry)
map_edits n contents es = map (put_tile n) contents ++ map put_name es

-- the entries after edits of the map, one after the other
abbrev pub after_map_edits : List (ℕ × Entry) → List (ℕ × Option Entry) → List (ℕ × Entry)
after_map_edits es edits = fold (λ us e. edited us e.0 e.1) es edits
