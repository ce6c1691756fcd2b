use Rattle.std.proofs.Common.{subst, Contains, IsTrue, not}
use Rattle.std.specs.Prelude.{All}
use Rattle.std.proofs.lemmas.List.{take_all}
use Rattle.version_core.specs.Edits.{Changes, inserted_names}
use Rattle.book_core.proofs.Waiting.{none_given, none_more}
use Rattle.book_core.proofs.tests.is_given.Goals as goal

pub loop-change-preserved : goal.loop-change-preserved
loop-change-preserved c =
    none_more c.args.history.now c.args.name c.loop-change.change-index c.change-item.result c.loop-change-test.true
    c.loop-change.invariant c.gives.result
    (subst (λ (x : Changes). IsTrue (not c.gives.result) → ¬ Contains (inserted_names x.edits) c.args.name) c.change-item.is
    c.gives.ensures) c.if-gives.false

pub returns : goal.returns
returns c = λ t. none_given c.args.history.now c.args.name
    (subst (All (λ x. ¬ Contains (inserted_names x.edits) c.args.name))
    (take_all c.loop-change.change-index c.args.history.now c.loop-change-test.false) c.loop-change.invariant)
