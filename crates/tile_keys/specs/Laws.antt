-- What holds of all keys.
use Rattle.std.specs.Prelude.{◌≡◌, ◌<◌}
use Rattle.std.specs.declared.cmp.Ordering.TheVariants.{Less}
use Rattle.grid_core.specs.declared.tile.TileId.{TileId}
use Rattle.grid_core.specs.Name.{Label, IsLabel, label_cmp}
use Rattle.tile_law.specs.Laws.{IsTileInReach}
use Rattle.tile_keys.specs.Keys.{tile_key, name_key}

-- two tiles in reach that have one key are one tile
abbrev pub TilesAreToldApart : Type 0
TilesAreToldApart =
    (t u : TileId) → IsTileInReach t → IsTileInReach u → tile_key t ≡ tile_key u → t ≡ u

-- two names that have one key are one name
abbrev pub NamesAreToldApart : Type 0
NamesAreToldApart = (m n : Label) → IsLabel m → IsLabel n → name_key m ≡ name_key n → m ≡ n

-- of two names that with the lesser key comes first
abbrev pub NamesGoByKey : Type 0
NamesGoByKey =
    (m n : Label) → IsLabel m → IsLabel n → name_key m < name_key n → label_cmp m n ≡ Less

-- each tile in reach has a key before that of each name
abbrev pub TilesComeFirst : Type 0
TilesComeFirst = (t : TileId) (n : Label) → IsTileInReach t → tile_key t < name_key n
