use Rattle.std.proofs.Common.{◌≡◌, ◌++◌, take}
use Rattle.std.specs.Prelude.{flat_map}
use Rattle.script_read.specs.Reply.{spaced_tile}
use Rattle.script_read.proofs.write.push_tiles.Given as goal

-- the tiles so far have been appended
abbrev pub invariant-loop-tile : goal.invariant-loop-tile
invariant-loop-tile l = l.out.items ≡ l.fn.out.items ++ flat_map spaced_tile (take l.tile-index l.tiles)
