use Rattle.version_core.proofs.Opened.{nothing_live}
use Rattle.version_core.proofs.version.Version.open.Goals as goal

-- src/version.rt
pub invariant_of-version : goal.invariant_of-version
invariant_of-version c = nothing_live _ _ c.side.ensures.kept c.open.ensures
