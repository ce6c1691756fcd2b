use Rattle.book_core.specs.Waiting.{AreWaiting}
use Rattle.book_core.proofs.tests.taken_out.Given as goal

abbrev pub invariant-loop-i : goal.invariant-loop-i
invariant-loop-i l = AreWaiting l.book l.waiting.items
