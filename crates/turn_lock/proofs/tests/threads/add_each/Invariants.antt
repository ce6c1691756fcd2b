use Rattle.turn_lock.specs.Pass.{IsIdle, IsStill}
use Rattle.turn_lock.proofs.tests.threads.add_each.Given as goal

abbrev pub invariant-loop-value : goal.invariant-loop-value
invariant-loop-value g l = record {
  idle : IsIdle l.pass.seat;
  still : IsStill l.fn.pass.seat l.pass.seat;
}
