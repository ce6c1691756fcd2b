use Rattle.std.proofs.Common.{ap, ◌∙◌, length}
use Rattle.version_core.proofs.AlongCounts.{along_length}
use Rattle.version_core.proofs.replace.spans.Goals as goal

-- src/replace.rt
pub returns : goal.returns
returns c =
    c.len.ensures ∙ c.in_ok-tiles.field-0.ok.0 ∙ ap length c.in_ok-tiles.ensures
    ∙ along_length c.args.s.now c.args.profile.now.bound c.args.profile.now c.side-side.ensures.kept.some_side c.requires
