use Rattle.std.proofs.Common.{◌≡◌}
use Rattle.seg_edit.proofs.tests.many_editors.see_routes.Given as goal

abbrev pub invariant-loop-routed : goal.invariant-loop-routed
invariant-loop-routed g l = l.looked.brand ≡ l.fn.looked.brand
