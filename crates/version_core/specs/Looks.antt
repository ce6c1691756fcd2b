-- What was read of a version.
use Rattle.std.specs.Prelude.{ℕ, ◌-◌, ◌^◌, List, ◌++◌}
use Rattle.grid_core.specs.declared.tile.TileId.{TileId}
use Rattle.grid_core.specs.Name.{Label}
use Rattle.version_core.specs.declared.looked.Look.{Look}
use Rattle.version_core.specs.declared.looked.Look.TheVariants.{Tile, Name}

-- what was read, as contracts see it: the looks in their order; how often they were cleared or
-- split; and the brand of the versions that were read
pub record Looks : Type 0 where
  pub looks : List Look
  pub epoch : ℕ
  pub brand : ℕ

-- the last epoch: nothing can be cleared or split after it
abbrev pub last_epoch : ℕ
last_epoch = 2 ^ 64 - 1

-- the look at what a tile has
abbrev pub tile_look : TileId → Look
tile_look t = Tile t

-- the look at the segment of a name
abbrev pub name_look : Label → Look
name_look n = Name n

-- these looks more, behind those before
abbrev pub with_looks : Looks → List Look → Looks
with_looks l more = record l { looks = l.looks ++ more }
