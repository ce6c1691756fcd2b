use Rattle.std.proofs.Common.{take}
use Rattle.std.specs.Prelude.{All}
use Rattle.book_core.specs.Waiting.{ShareNoName}
use Rattle.book_core.proofs.tests.see_others.Given as goal

abbrev pub invariant-loop-x : goal.invariant-loop-x
invariant-loop-x g l = All (λ x. ShareNoName x.change l.done.change) (take l.x-index l.waiting)
