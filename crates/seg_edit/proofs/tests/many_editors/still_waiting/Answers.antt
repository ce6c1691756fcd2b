use Rattle.std.proofs.Common.{◌∙◌}
use Rattle.std.proofs.lemmas.List.Elements.{All-same, All-push}
use Rattle.seg_edit.specs.Waiting.{IsWaiting}
use Rattle.seg_edit.proofs.tests.many_editors.still_waiting.Goals as goal

pub changes-preserved-in-Continue-branch-2 : goal.changes-preserved-in-Continue-branch-2
changes-preserved-in-Continue-branch-2 c = record {
  brand = c.in_ok-still_waits.ensures.brand ∙ c.changes.invariant.brand;
  coming = c.oldest-change.ensures.others;
  still =
      All-same (IsWaiting c.args.next.now) c.push.new.self.items _ c.in_ok-push.ensures.items
      (All-push (IsWaiting c.args.next.now) c.changes.still.items c.oldest-change.result c.changes.invariant.still
      (c.in_ok-still_waits.ensures.waiting c.if-branch.true));
}
