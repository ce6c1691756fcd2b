use Rattle.face_trace.proofs.Walks.{comes_back}
use Rattle.face_trace.proofs.laws.walks_come_back.Goals as goal

pub returns : goal.returns
returns c = comes_back c.args.edges.now
