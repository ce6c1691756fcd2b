use Rattle.std.proofs.Common.{◌∙◌}
use Rattle.place_test.proofs.Scans.{around_vertex}
use Rattle.place_test.proofs.nearest.Nearest.add_vertex.Goals as goal

pub returns : goal.returns
returns c = λ vs es e. around_vertex vs es c.args.at c.args.h c.keep_first_at.ensures (c.self.view_is ∙ e)
