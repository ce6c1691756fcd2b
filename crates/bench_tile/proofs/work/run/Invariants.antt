use Rattle.std.proofs.Common.{◌≡◌, pos}
use Rattle.grid_core.specs.Profile.{Sizes}
use Rattle.hot_tile.specs.Tile.{TileContent}
use Rattle.bench_tile.proofs.work.run.Given as goal

-- the tile is tile (0, 0) of a drawing whose tiles are 256 pixels wide
abbrev pub IsFirst : Sizes → TileContent → Type 0
IsFirst sizes tile = (sizes.side ≡ 256) × (tile.profile ≡ sizes) × (tile.id ≡ record { i = pos 0; j = pos 0 })

abbrev pub invariant-loop-number : goal.invariant-loop-number
invariant-loop-number l = IsFirst l.profile l.tile

abbrev pub invariant-loop-round : goal.invariant-loop-round
invariant-loop-round l = IsFirst l.profile l.tile
