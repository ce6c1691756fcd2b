use Rattle.std.proofs.Common.{◌≡◌, map, take}
use Rattle.version_core.specs.Replaced.{plain_tile}
use Rattle.version_core.proofs.replace.copied.Given as goal

-- the tiles so far have been copied
abbrev pub invariant-loop-tile : goal.invariant-loop-tile
invariant-loop-tile l = l.contents ≡ map plain_tile (take l.tile-index l.tiles)
