use Rattle.std.proofs.Common.{sym, arith}
use Rattle.std.proofs.lemmas.Bool.Decides.{nat_tests}
use Rattle.face_trace.proofs.HalfEdgeLists.{twin_of_even, twin_of_odd}
use Rattle.face_trace.proofs.spokes.twin.Goals as goal

pub returns-then-number-eq0 : goal.returns-then-number-eq0
returns-then-number-eq0 c = sym (twin_of_even c.args.number (omega arith))

pub returns-else-number-eq0 : goal.returns-else-number-eq0
returns-else-number-eq0 c = sym (twin_of_odd c.args.number (λ e. grind (arith, nat_tests, e)))
