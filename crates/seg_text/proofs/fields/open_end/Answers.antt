use Rattle.std.proofs.Common.{sym, ◌∙◌, arith}
use Rattle.seg_text.proofs.FieldLaws.{run_goes, blank_closes, start_closes, fields_left}
use Rattle.seg_text.proofs.fields.open_end.Goals as goal
use Rattle.seg_text.proofs.fields.open_end.Goals.{else-from-gt0-via-then-from-gt0+else-not-is_blank, else-from-gt0-via-else-from-gt0}

pub returns-then-not-is_blank-clause-fields : goal.returns-then-not-is_blank-clause-fields
returns-then-not-is_blank-clause-fields c =
    run_goes _ _ _ c.run_end.ensures.run c.if-from-gt0.true (sym c.is_blank.ensures ∙ c.if-not-is_blank.true)

pub returns-else-from-gt0-clause-fields : goal.returns-else-from-gt0-clause-fields
returns-else-from-gt0-clause-fields c =
    fields_left c.args.line.now c.args.from (
    elim c.else-from-gt0.branch [
      | else-from-gt0-via-then-from-gt0+else-not-is_blank w ↦
          blank_closes c.args.line.now c.args.from (sym w.is_blank.ensures ∙ w.if-not-is_blank.false)
      | else-from-gt0-via-else-from-gt0 w ↦ start_closes c.args.line.now c.args.from (omega arith)
    ])
