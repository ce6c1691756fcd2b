use Rattle.tile_law.proofs.Edits.{parts_after_edits}
use Rattle.tile_law.proofs.parts_after_edits.Goals as goal

pub returns : goal.returns
returns c = parts_after_edits c.args.profile.now c.side.ensures.kept.some_side c.args.segments.now
