use Rattle.std.proofs.Common.{rules, append_assoc}
use Rattle.std.proofs.lemmas.Result.{IfOk-equal}
use Rattle.canon_write.specs.Text.{vertices_part}
use Rattle.canon_write.proofs.arrangement.push_vertices.Goals as goal

pub returns-clause-text : goal.returns-clause-text
unfolding vertices_part
returns-clause-text c = search (rules, IfOk-equal, append_assoc)
