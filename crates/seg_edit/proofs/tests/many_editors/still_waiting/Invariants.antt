use Rattle.std.proofs.Common.{◌≡◌, length}
use Rattle.seg_edit.specs.Waiting.{AreWaiting}
use Rattle.seg_edit.proofs.tests.many_editors.still_waiting.Given as goal

abbrev pub decreases-changes : goal.decreases-changes
decreases-changes l = length l.waiting.items

abbrev pub invariant-changes : goal.invariant-changes
invariant-changes l = record {
  brand : l.looked.brand ≡ l.fn.looked.brand;
  coming : AreWaiting l.before l.waiting.items;
  still : AreWaiting l.next l.still.items;
}
