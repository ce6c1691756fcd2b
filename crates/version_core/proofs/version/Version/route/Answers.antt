use Rattle.std.proofs.Common.{◌∙◌, ap, subst, sym, option_copied, Contains}
use Rattle.grid_core.specs.LiveList.{names}
use Rattle.version_core.proofs.Found.{segment_listed, name_listed}
use Rattle.version_core.proofs.version.Version.route.Goals as goal

-- src/read.rt
pub joined-requires : goal.joined-requires
joined-requires c =
    (segment_listed c.args.self.now.live c.args.name c.in-Some.s.now
    (sym c.live_segment.ensures.value ∙ ap option_copied c.in-Some.is)).0

pub returns-clause-known : goal.returns-clause-known
returns-clause-known c =
    let live = c.args.self.now.live in
    let listed = segment_listed live c.args.name c.in-Some.s.now (sym c.live_segment.ensures.value ∙ ap option_copied c.in-Some.is) in
    subst (Contains (names live)) listed.1 (name_listed live c.in-Some.s.now listed.0)
