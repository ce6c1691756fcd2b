use Rattle.turn_lock.specs.Pass.{IsReady}
use Rattle.turn_lock.specs.Turn.{turn_id}
use Rattle.bench_lock.proofs.take_turns.Given as goal

abbrev pub invariant-loop-round : goal.invariant-loop-round
invariant-loop-round g l = IsReady l.pass.seat (turn_id l.turn)
