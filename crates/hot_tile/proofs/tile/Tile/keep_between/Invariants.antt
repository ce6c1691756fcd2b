use Rattle.std.proofs.Common.{◌≡◌, ◌-◌, ◌++◌, map, take, drop}
use Rattle.hot_tile.specs.Tile.{path_in}
use Rattle.hot_tile.proofs.tile.Tile.keep_between.Given as goal

abbrev pub invariant-loop : goal.invariant-loop
invariant-loop l =
    l.rows ≡ l.fn.rows ++ map (path_in l.self) (take (l.counter - l.from) (drop l.from l.self.segments))
