-- Tiles looked up by key, many at once.
use Rattle.std.specs.Prelude.{ℕ, List, Option, option_copied}
use Rattle.std.specs.Borrow.{Bor}
use Rattle.grid_core.specs.declared.tile.TileId.{TileId}
use Rattle.hot_tile.specs.Tile.{TileContent}
use Rattle.radix_map.specs.Entries.{value_at}
use Rattle.version_core.specs.declared.entry.Entry.{Entry}
use Rattle.version_core.specs.Entries.{content_found}
use Rattle.tile_keys.specs.Keys.{tile_key}

-- a tile with its key
abbrev pub with_key : TileId → ℕ × TileId
with_key t = (tile_key t, t)

-- a tile with what entries have under its key
abbrev pub part_under : List (ℕ × Entry) → ℕ × TileId → TileId × Option TileContent
part_under es p = (p.1, content_found (value_at p.0 es))

-- a tile with what is shown of it, wherever that stands
abbrev pub copied_part : TileId × Option (Bor TileContent) → TileId × Option TileContent
copied_part e = (e.0, option_copied e.1)
