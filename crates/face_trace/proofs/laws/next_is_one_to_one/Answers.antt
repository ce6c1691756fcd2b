use Rattle.face_trace.proofs.NextAround.{next_is_one_to_one}
use Rattle.face_trace.proofs.laws.next_is_one_to_one.Goals as goal

pub returns : goal.returns
returns c = next_is_one_to_one c.args.edges.now
