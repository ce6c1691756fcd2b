use mir.Syntax.{w128}
use Rattle.std.proofs.Common.{rules, ap, ◌∙◌, SFits, to_z, of_z, to_z-of_z}
use Rattle.std.specs.Prelude.{◌+ℤ◌}
use Rattle.version_core.proofs.Replacing.{spans_more}
use Rattle.version_core.proofs.replace.spans_gained.Goals as goal

-- src/replace.rt
pub loop-edit-preserved : goal.loop-edit-preserved
loop-edit-preserved c =
    let own : SFits w128 c.in_ok-gain.field-0 = search rules in
    let sum : SFits w128 (to_z w128 c.loop-edit.gain-bits +ℤ to_z w128 (of_z w128 c.in_ok-gain.field-0)) = search rules in
    spans_more c.args.profile.now c.args.edits.now c.edit-item.result c.loop-edit-test.true c.edit-item.is c.loop-edit.invariant
    c.in_ok-gain.field-0 c.in_ok-gain.ensures.value c.in_ok-gain.ensures.small _
    (to_z-of_z sum ∙ ap (λ x. to_z w128 c.loop-edit.gain-bits +ℤ x) (to_z-of_z own))
