use Rattle.std.proofs.Common.{rules, append_assoc}
use Rattle.std.proofs.lemmas.Result.{IfOk-equal}
use Rattle.script_read.specs.Reply.{spaced_tile}
use Rattle.script_read.proofs.write.push_spaced_tile.Goals as goal

pub returns-clause-text : goal.returns-clause-text
unfolding spaced_tile
returns-clause-text c = search (rules, IfOk-equal, append_assoc)
