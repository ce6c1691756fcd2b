-- The lines before `from` were answered, and nothing else was written.
use Rattle.std.proofs.Common.{◌≡◌, ◌-◌, false, length}
use Rattle.snapround.proofs.Runs.{IsAnswered}
use Rattle.snapround.proofs.answer.answer_all.Given as goal

abbrev pub invariant-loop-end : goal.invariant-loop-end
invariant-loop-end g l = record {
  answered : IsAnswered l.input l.world l.number l.from l.some_bad (g.K.Sink.written l.fn.sink) (g.K.Sink.written l.sink);
  no_fault : g.K.Sink.faults l.sink ≡ g.K.Sink.faults l.fn.sink;
  left_open : g.K.Sink.shut l.fn.sink ≡ false → g.K.Sink.shut l.sink ≡ false;
}

abbrev pub decreases-loop-end : goal.decreases-loop-end
decreases-loop-end g l = length l.input - l.from
