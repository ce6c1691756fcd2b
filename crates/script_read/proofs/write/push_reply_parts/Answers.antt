use Rattle.std.proofs.Common.{◌++◌, sym, ap, ◌∙◌}
use Rattle.std.proofs.lemmas.Result.{on_ok_weaker}
use Rattle.script_read.proofs.Appended.{shown}
use Rattle.script_read.proofs.write.push_reply_parts.Goals as goal

pub returns-in-Show-clause-text : goal.returns-in-Show-clause-text
returns-in-Show-clause-text c =
    let text = c.as_slice.ensures ∙ sym (shown c.args.reply.now _ c.in-Show.is) in
    on_ok_weaker c.push_bytes.result (λ e. e ∙ ap (λ t. c.args.out.now.items ++ t) text) c.push_bytes.ensures.text
