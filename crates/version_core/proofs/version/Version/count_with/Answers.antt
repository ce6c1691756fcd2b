use Rattle.std.proofs.Common.{ap, subst, ◌∙◌, length, arith}
use Rattle.grid_core.specs.LiveList.{IsLiveList}
use Rattle.version_core.proofs.EditCounts.{counted_after}
use Rattle.version_core.proofs.version.Version.count_with.Goals as goal

-- src/renew.rt
pub count_after-requires-clause-some : goal.count_after-requires-clause-some
count_after-requires-clause-some c =
    let h = counted_after c.args.self.now.profile.bound c.args.change.now.editor c.args.self.now.live c.args.change.now.edits
    c.edits.result.now c.self.inside.count (subst (λ v. IsLiveList v.profile.bound v.live) c.self.view_is c.self.invariant.live)
    c.requires.within c.requires.fits (c.self.invariant.counted ∙ ap (λ v. length v.live) c.self.view_is) c.edits.ensures in
    omega (arith, h)

pub returns : goal.returns
returns c =
    let h = counted_after c.args.self.now.profile.bound c.args.change.now.editor c.args.self.now.live c.args.change.now.edits
    c.edits.result.now c.self.inside.count (subst (λ v. IsLiveList v.profile.bound v.live) c.self.view_is c.self.invariant.live)
    c.requires.within c.requires.fits (c.self.invariant.counted ∙ ap (λ v. length v.live) c.self.view_is) c.edits.ensures in
    omega (arith, h, c.count_after.ensures)
