use Rattle.version_core.proofs.EditCounts.{AreInserted}
use Rattle.version_core.proofs.renew.insertions.Given as goal

abbrev pub invariant-loop-edit : goal.invariant-loop-edit
invariant-loop-edit l = AreInserted l.found l.edit-index l.edits
