use Rattle.std.proofs.Common.{rules, subst, []}
use Rattle.version_core.specs.Laws.{AreSegments}
use Rattle.version_core.proofs.EditCounts.{count_after, inserted_few}
use Rattle.seg_edit.proofs.tests.see_room.Goals as goal

pub returns-clause-few : goal.returns-clause-few
returns-clause-few g c =
    let v = c.args.current.now in
    let x = c.args.prepared.now in
    let within = subst (λ pr. AreSegments pr.bound x.change.edits) c.requires.profile c.change.ensures.within in
    let grown = count_after v.profile.bound x.change.editor [] v.live x.change.edits c.count.ensures.kept within c.requires.stands.fits in
    let few = inserted_few x.change.edits in
    search (rules, grown, few)
