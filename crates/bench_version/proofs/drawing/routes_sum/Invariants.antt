use Rattle.std.proofs.Common.{◌≡◌}
use Rattle.bench_version.proofs.drawing.routes_sum.Given as goal

abbrev pub invariant-loop-serial : goal.invariant-loop-serial
invariant-loop-serial l = l.looked.brand ≡ l.fn.looked.brand
