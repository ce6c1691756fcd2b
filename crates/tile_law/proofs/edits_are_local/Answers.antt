use Rattle.tile_law.proofs.Edits.{edits_are_local}
use Rattle.tile_law.proofs.edits_are_local.Goals as goal

pub returns : goal.returns
returns c =
    edits_are_local c.args.profile.now c.args.segments.now
