use Rattle.version_core.proofs.Histories.{changes_are_rebased}
use Rattle.version_core.proofs.laws.changes_are_rebased.Goals as goal

pub returns : goal.returns
returns c = changes_are_rebased c.args.profile.now c.side.ensures.kept.some_side
