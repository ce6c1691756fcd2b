use Rattle.std.proofs.Common.{◌≡◌, ◌+◌, length, ◌∙◌, rules, slice_range}
use Rattle.std.proofs.lemmas.Result.{err_from_is_err_and}
use Rattle.script_read.specs.Lines.{line_of}
use Rattle.session_core.specs.Output.{line_text}
use Rattle.snapround.proofs.Runs.{open_after, still_none, goes_on, fails, stops, ends}
use Rattle.snapround.proofs.answer.answer_all.Goals as goal

pub returns-in_default-answer-clause-part : goal.returns-in_default-answer-clause-part
returns-in_default-answer-clause-part g c = stops c.loop-end.invariant.answered

pub returns-in_err-write_whole-clause-part : goal.returns-in_err-write_whole-clause-part
returns-in_err-write_whole-clause-part g c =
    let w = c.loop-end.world in
    let line = slice_range c.args.input.now c.loop-end.from c.in-Some.end in
    let text : c.deref.result.now ≡ line_text w.profile w.state (c.loop-end.number + 1) (line_of line) =
    c.deref.ensures.value ∙ rw c.clear.ensures.items at c.in-Ok-answer.ensures.reply in
    let returned = err_from_is_err_and c.from_residual.result c.from_residual.ensures.1 in
    rw returned.1 (fails _ _ _ _ c.loop-end.invariant.answered c.in-Some.ensures.line text c.in_err-write_whole.ensures.part)

pub loop-end-preserved : goal.loop-end-preserved
loop-end-preserved g c =
    let w = c.loop-end.world in
    let line = slice_range c.args.input.now c.loop-end.from c.in-Some.end in
    let text : c.deref.result.now ≡ line_text w.profile w.state (c.loop-end.number + 1) (line_of line) =
    c.deref.ensures.value ∙ rw c.clear.ensures.items at c.in-Ok-answer.ensures.reply in
    record {
      answered = goes_on _ _ _ _ _ _ c.loop-end.invariant.answered c.in-Some.ensures.line c.in-Some.ensures.within c.in-Ok-answer.ensures.profile c.in-Ok-answer.ensures.state text c.in-Ok-answer.ensures.bad c.in_ok-write_whole.ensures.whole;
      no_fault = still_none _ _ _ (λ failed. cc) c.in_ok-write_whole.ensures.no_fault c.loop-end.invariant.no_fault;
      left_open = λ was. open_after g.K.Sink.shut _ _ _ c.write_whole.ensures.open (λ none. (c.write_whole.ensures.untouched none).1) (c.loop-end.invariant.left_open was);
    }

pub returns-clause-whole : goal.returns-clause-whole
returns-clause-whole g c =
    let none : c.loop-end.from ≡ length c.args.input.now = search rules in
    (ends c.loop-end.invariant.answered none).0

pub returns-clause-bad : goal.returns-clause-bad
returns-clause-bad g c =
    let none : c.loop-end.from ≡ length c.args.input.now = search rules in
    (ends c.loop-end.invariant.answered none).1
