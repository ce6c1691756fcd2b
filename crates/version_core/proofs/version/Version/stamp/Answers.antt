use Rattle.std.proofs.Common.{◌≡◌, ◌∙◌, ap, subst, sym, option_copied}
use Rattle.version_core.specs.Version.{stamp_of}
use Rattle.version_core.proofs.Found.{stamp_there, stamp_from}
use Rattle.version_core.proofs.version.Version.stamp.Goals as goal
use Rattle.version_core.proofs.version.Version.stamp.Goals.{After-touched_of}

found : (c : After-touched_of) → stamp_from (option_copied c.touched_of.result) ≡ stamp_of c.args.self.now.stamps c.args.id
found c =
    subst (λ v. stamp_from (option_copied c.touched_of.result) ≡ stamp_of v.stamps c.args.id) c.self.view_is
    (stamp_there _ c.self.invariant.keyed c.args.id (option_copied c.touched_of.result)
    c.touched_of.ensures.within c.touched_of.ensures.beyond)

-- src/read.rt
pub returns-in-Some : goal.returns-in-Some
returns-in-Some c =
    sym (ap (λ o. stamp_from (option_copied o)) c.in-Some.is) ∙ found (goal.at.returns-in-Some c).After-touched_of

pub returns-in-None : goal.returns-in-None
returns-in-None c =
    sym (ap (λ o. stamp_from (option_copied o)) c.in-None.is) ∙ found (goal.at.returns-in-None c).After-touched_of
