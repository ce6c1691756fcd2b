use Rattle.std.proofs.Common.{sym, ap, ◌∙◌}
use Rattle.book_core.proofs.Waiting.{names_of_others}
use Rattle.book_core.proofs.tests.is_other.Goals as goal

pub returns : goal.returns
returns c = λ t. names_of_others c.args.x.now.change c.args.done.now.change c.change-2.ensures.own c.change.ensures.own
    (λ same. c.if-editor.false (c.editor.ensures ∙ ap (λ x. x.editor) c.change-2.ensures.value ∙ same ∙ c.requires))
