use Rattle.version_core.proofs.EditCounts.{one_inserted, none_inserted}
use Rattle.version_core.proofs.renew.insertions.Goals as goal
use Rattle.version_core.proofs.renew.insertions.Goals.{in-Insert, in-Delete}

-- src/renew.rt
pub loop-edit-preserved : goal.loop-edit-preserved
loop-edit-preserved c =
    elim c.match-edit.branch [
      | in-Insert w ↦ one_inserted c.args.edits.now c.edit-item.result c.loop-edit-test.true c.edit-item.is
          c.loop-edit.invariant w.in-Insert.field-0 w.in-Insert.is c.match-edit.found w.found-is
      | in-Delete w ↦ none_inserted c.args.edits.now c.edit-item.result c.loop-edit-test.true c.edit-item.is
          c.loop-edit.invariant w.in-Delete.field-0 w.in-Delete.is c.match-edit.found w.found-is
    ]
