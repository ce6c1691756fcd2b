use Rattle.std.proofs.Common.{rules, append_assoc}
use Rattle.std.proofs.lemmas.Result.{IfOk-equal}
use Rattle.seg_text.specs.Text.{spaced_name}
use Rattle.seg_text.proofs.text.push_spaced_name.Goals as goal

pub returns-clause-text : goal.returns-clause-text
unfolding spaced_name
returns-clause-text c = search (rules, IfOk-equal, append_assoc)
