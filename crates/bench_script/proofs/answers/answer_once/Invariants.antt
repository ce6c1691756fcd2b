use Rattle.std.proofs.Common.{◌≤◌, ◌-◌, length}
use Rattle.bench_script.proofs.answers.answer_once.Given as goal

abbrev pub invariant-loop-end : goal.invariant-loop-end
invariant-loop-end l = l.from ≤ length l.script

abbrev pub decreases-loop-end : goal.decreases-loop-end
decreases-loop-end l = length l.script - l.from
