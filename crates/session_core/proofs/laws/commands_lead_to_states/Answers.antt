use Rattle.session_core.proofs.States.{commands_lead_to_states}
use Rattle.session_core.proofs.laws.commands_lead_to_states.Goals as goal

pub returns : goal.returns
returns c = commands_lead_to_states c.args.profile.now
