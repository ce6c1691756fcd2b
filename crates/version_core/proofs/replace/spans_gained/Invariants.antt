use Rattle.version_core.proofs.Replacing.{SpansGained}
use Rattle.version_core.proofs.replace.spans_gained.Given as goal

abbrev pub invariant-loop-edit : goal.invariant-loop-edit
invariant-loop-edit l = SpansGained l.profile l.gain l.edit-index l.edits
