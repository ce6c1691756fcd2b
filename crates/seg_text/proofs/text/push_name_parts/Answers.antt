use Rattle.std.proofs.Common.{rules, append_assoc}
use Rattle.std.proofs.lemmas.Result.{IfOk-equal}
use Rattle.seg_text.specs.Text.{name_text}
use Rattle.seg_text.proofs.text.push_name_parts.Goals as goal

pub returns-clause-text : goal.returns-clause-text
unfolding name_text
returns-clause-text c = search (rules, IfOk-equal, append_assoc)
