use Rattle.hot_tile.specs.Paths.{grown_path}
use Rattle.hot_tile.specs.Tile.{path_in}
use Rattle.hot_tile.proofs.PathLaws.{IsKeeping}
use Rattle.hot_tile.proofs.tile.Tile.grow_between.Given as goal

abbrev pub invariant-loop-i : goal.invariant-loop-i
invariant-loop-i l =
    IsKeeping (grown_path l.self l.fresh) (path_in l.self) l.self.segments l.from l.kept l.i l.fn.rows l.rows
