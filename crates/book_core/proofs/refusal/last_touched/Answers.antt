use Rattle.version_core.specs.Version.{stamp_of}
use Rattle.book_core.proofs.Clashes.{next_greater, next_lower}
use Rattle.book_core.proofs.refusal.last_touched.Goals as goal
use Rattle.book_core.proofs.refusal.last_touched.Goals.{then-stamp-last, else-stamp-last}

-- src/refusal.rt
pub loop-tile-preserved : goal.loop-tile-preserved
loop-tile-preserved c =
    elim c.if-stamp-last.branch [
      | then-stamp-last w ↦ next_greater (stamp_of c.args.version.now.stamps) c.args.base c.args.tiles.now c.loop-tile.tile-index
          c.loop-tile.last c.loop-tile.found _ c.loop-tile-test.true c.loop-tile.invariant c.stamp-stamp.result
          c.stamp-stamp.ensures w.if-stamp-last.true c.if-stamp-last.last w.last-is c.if-stamp-last.found w.found-is
      | else-stamp-last w ↦ next_lower (stamp_of c.args.version.now.stamps) c.args.base c.args.tiles.now c.loop-tile.tile-index
          c.loop-tile.last c.loop-tile.found _ c.loop-tile-test.true c.loop-tile.invariant c.stamp-stamp.result
          c.stamp-stamp.ensures w.if-stamp-last.false c.if-stamp-last.last w.last-is c.if-stamp-last.found w.found-is
    ]
