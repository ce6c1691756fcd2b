use Rattle.std.proofs.Common.{subst}
use Rattle.std.specs.Prelude.{All}
use Rattle.std.proofs.lemmas.List.{take_all}
use Rattle.std.proofs.lemmas.List.Elements.{All-more}
use Rattle.version_core.specs.Stands.{PreparedChange}
use Rattle.book_core.specs.Waiting.{ShareNoName}
use Rattle.book_core.proofs.tests.see_others.Goals as goal

pub loop-x-preserved : goal.loop-x-preserved
loop-x-preserved g c =
    All-more (λ x. ShareNoName x.change c.args.done.now.change) c.args.waiting.now c.loop-x.x-index c.x-item.result
    c.loop-x-test.true c.loop-x.invariant
    (subst (λ (x : PreparedChange). ShareNoName x.change c.args.done.now.change) c.x-item.is c.see_other.ensures)

pub returns : goal.returns
returns g c =
    subst (All (λ x. ShareNoName x.change c.args.done.now.change))
    (take_all c.loop-x.x-index c.args.waiting.now c.loop-x-test.false) c.loop-x.invariant
