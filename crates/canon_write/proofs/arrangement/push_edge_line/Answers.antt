use Rattle.std.proofs.Common.{rules, append_assoc}
use Rattle.std.proofs.lemmas.Result.{IfOk-equal}
use Rattle.canon_write.specs.Text.{edge_line}
use Rattle.canon_write.proofs.arrangement.push_edge_line.Goals as goal

pub returns-clause-text : goal.returns-clause-text
unfolding edge_line
returns-clause-text c = search (rules, IfOk-equal, append_assoc)
