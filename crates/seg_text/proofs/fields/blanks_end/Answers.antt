use Rattle.std.proofs.Common.{sym, ◌∙◌, arith}
use Rattle.seg_text.proofs.FieldLaws.{blank_step}
use Rattle.seg_text.proofs.fields.blanks_end.Goals as goal

pub loop-end-preserved : goal.loop-end-preserved
loop-end-preserved c =
    (omega arith, omega arith, c.loop-end.invariant.2 ∙ blank_step _ _ c.loop-end-test.true (sym c.is_blank.ensures ∙ c.if-is_blank.true))
