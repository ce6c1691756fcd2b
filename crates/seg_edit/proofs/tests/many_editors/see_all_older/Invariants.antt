use Rattle.std.proofs.Common.{◌≡◌}
use Rattle.seg_edit.proofs.tests.many_editors.see_all_older.Given as goal

abbrev pub invariant-loop-each : goal.invariant-loop-each
invariant-loop-each g l = l.looked.brand ≡ l.fn.looked.brand
