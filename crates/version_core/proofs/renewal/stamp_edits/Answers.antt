use Rattle.std.proofs.Common.{◌∙◌, ap, map}
use Rattle.std.proofs.Math.Seq.{map-set_same}
use Rattle.version_core.specs.Renewal.{plain_edit}
use Rattle.version_core.specs.Stamps.{stamped_edit}
use Rattle.version_core.proofs.MapEdits.{partly_stamped, next_stamped}
use Rattle.version_core.proofs.renewal.stamp_edits.Goals as goal

pub loop-i-preserved : goal.loop-i-preserved
loop-i-preserved c =
    next_stamped plain_edit (stamped_edit c.args.number) c.loop-i.i (map plain_edit c.args.edits.now.items) c.loop-i.edits.items
    c.index_mut.result.now c.stamp_edit.new.edit c.loop-i.invariant c.index_mut.ensures.value c.in_ok-stamp_edit.ensures.ok

pub returns-in_err-stamp_edit-clause-always : goal.returns-in_err-stamp_edit-clause-always
returns-in_err-stamp_edit-clause-always c =
    ap (map (stamped_edit 0))
    (map-set_same plain_edit c.loop-i.edits.items c.loop-i.i c.stamp_edit.new.edit c.index_mut.result.now
    (c.in_err-stamp_edit.ensures.err ∙ ap plain_edit c.index_mut.ensures.value)
    ∙ c.loop-i.invariant)
    ∙ partly_stamped c.args.number c.loop-i.i (map plain_edit c.args.edits.now.items)

pub returns-clause-always : goal.returns-clause-always
returns-clause-always c =
    ap (map (stamped_edit 0)) c.loop-i.invariant ∙ partly_stamped c.args.number c.loop-i.i (map plain_edit c.args.edits.now.items)
