use Rattle.std.proofs.Common.{rules, append_assoc}
use Rattle.std.proofs.lemmas.Result.{IfOk-equal}
use Rattle.seg_text.specs.Text.{point_text}
use Rattle.seg_text.proofs.text.push_point.Goals as goal

pub returns-clause-text : goal.returns-clause-text
unfolding point_text
returns-clause-text c = search (rules, IfOk-equal, append_assoc)
