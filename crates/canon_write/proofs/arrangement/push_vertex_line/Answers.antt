use Rattle.std.proofs.Common.{rules, append_assoc}
use Rattle.std.proofs.lemmas.Result.{IfOk-equal}
use Rattle.canon_write.specs.Text.{vertex_line}
use Rattle.canon_write.proofs.arrangement.push_vertex_line.Goals as goal

pub returns-clause-text : goal.returns-clause-text
unfolding vertex_line
returns-clause-text c = search (rules, IfOk-equal, append_assoc)
