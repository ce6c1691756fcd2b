use Rattle.std.proofs.Common.{rules, append_assoc}
use Rattle.std.proofs.lemmas.Result.{IfOk-equal, on_err_weaker}
use Rattle.seg_text.proofs.Buffers.{begins_less}
use Rattle.script_read.specs.Reply.{said_text}
use Rattle.script_read.proofs.write.push_between.Goals as goal

pub returns-clause-text : goal.returns-clause-text
unfolding said_text
returns-clause-text c = search (rules, IfOk-equal, append_assoc)

pub returns-clause-memory : goal.returns-clause-memory
returns-clause-memory c = search (rules, on_err_weaker, begins_less)
