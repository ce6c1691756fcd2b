use Rattle.seg_edit.proofs.Waiting.{waits_alike}
use Rattle.seg_edit.proofs.tests.many_editors.commit.Goals as goal

pub returns-clause-waiting : goal.returns-clause-waiting
returns-clause-waiting g c =
    waits_alike c.args.current.now c.in_ok-next.next c.apply_in_place.new.current c.args.done.now.change
    c.in_ok-next.ensures c.in_ok-apply_in_place.ensures.ok c.in_ok-still.still.items c.in_ok-still.ensures.waiting
