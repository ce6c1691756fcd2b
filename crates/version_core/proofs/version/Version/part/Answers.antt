use Rattle.std.proofs.Common.{◌≡◌, ◌∙◌, ap, subst, sym, option_copied}
use Rattle.version_core.specs.Stands.{content_of}
use Rattle.version_core.proofs.Found.{content_there, content_touched}
use Rattle.version_core.proofs.version.Version.part.Goals as goal
use Rattle.version_core.proofs.version.Version.part.Goals.{After-touched_of}

found : (c : After-touched_of) → content_touched (option_copied c.touched_of.result)
    ≡ content_of c.args.self.now.profile c.args.id c.args.self.now.live
found c =
    subst (λ v. content_touched (option_copied c.touched_of.result) ≡ content_of v.profile c.args.id v.live) c.self.view_is
    (content_there _ _ _ _ _ c.self.invariant c.args.id (option_copied c.touched_of.result)
    c.touched_of.ensures.within c.touched_of.ensures.beyond)

-- src/read.rt
pub returns-in_err-touched_of-clause-value : goal.returns-in_err-touched_of-clause-value
returns-in_err-touched_of-clause-value c =
    ap option_copied c.from_residual.ensures
    ∙ sym (ap (λ o. content_touched (option_copied o)) c.in_err-touched_of.was)
    ∙ found (goal.at.returns-in_err-touched_of-clause-value c).After-touched_of

pub returns-clause-value : goal.returns-clause-value
returns-clause-value c =
    c.as_ref.ensures.value
    ∙ sym (ap (λ o. content_touched (option_copied o)) c.in_ok-touched_of.was)
    ∙ found (goal.at.returns-clause-value c).After-touched_of
