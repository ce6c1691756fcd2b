use Rattle.hot_tile.specs.Paths.{thinned_path}
use Rattle.hot_tile.specs.Tile.{path_in}
use Rattle.hot_tile.proofs.PathLaws.{IsKeeping}
use Rattle.hot_tile.proofs.tile.Tile.thin_between.Given as goal

abbrev pub invariant-loop-i : goal.invariant-loop-i
invariant-loop-i l =
    IsKeeping (thinned_path l.self l.cold) (path_in l.self) l.self.segments l.from l.kept l.i l.fn.rows l.rows
