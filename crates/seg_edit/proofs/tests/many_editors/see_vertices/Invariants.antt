use Rattle.std.proofs.Common.{◌≡◌}
use Rattle.seg_edit.proofs.tests.many_editors.see_vertices.Given as goal

abbrev pub invariant-loop-v : goal.invariant-loop-v
invariant-loop-v g l = l.looked.brand ≡ l.fn.looked.brand
