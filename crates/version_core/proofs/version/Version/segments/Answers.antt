use Rattle.std.proofs.Common.{◌∙◌, ap}
use Rattle.version_core.proofs.Found.{live_from}
use Rattle.version_core.proofs.version.Version.segments.Goals as goal

-- src/read.rt
pub returns-clause-value : goal.returns-clause-value
returns-clause-value c = c.in_ok-live.ensures ∙ live_from _ c.self.invariant.keyed ∙ ap (λ v. v.live) c.self.view_is
