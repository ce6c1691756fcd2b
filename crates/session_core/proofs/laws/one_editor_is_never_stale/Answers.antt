use Rattle.session_core.proofs.OneEditor.{one_editor_is_never_stale}
use Rattle.session_core.proofs.laws.one_editor_is_never_stale.Goals as goal

pub returns : goal.returns
returns c = one_editor_is_never_stale c.args.profile.now
