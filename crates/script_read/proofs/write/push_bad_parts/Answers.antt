use Rattle.std.proofs.Common.{rules, append_assoc}
use Rattle.std.proofs.lemmas.Result.{IfOk-equal}
use Rattle.script_read.specs.Reply.{bad_text}
use Rattle.script_read.proofs.write.push_bad_parts.Goals as goal

pub returns-clause-text : goal.returns-clause-text
unfolding bad_text
returns-clause-text c = search (rules, IfOk-equal, append_assoc)
