use Rattle.std.proofs.Common.{refl}
use Rattle.seg_edit.proofs.Waiting.{still_waiting, if_new}
use Rattle.seg_edit.proofs.tests.many_editors.still_waits.Goals as goal

pub returns-clause-waiting : goal.returns-clause-waiting
returns-clause-waiting c =
    if_new c.is_new.result _ _ c.is_new.ensures.new
    (still_waiting c.args.before.now c.args.next.now c.args.waiting.now c.args.done.now c.profile.ensures.kept c.count.ensures.kept
    c.change-2.ensures.within c.change.ensures.within c.requires.next
    (record { profile = c.requires.done.profile; stands = c.requires.done.stands })
    (record { profile = c.requires.waiting.profile; stands = c.requires.waiting.stands })
    (c.if-not-is_untouched.ensures.based refl) (c.if-not-is_untouched.ensures.stamps refl))
