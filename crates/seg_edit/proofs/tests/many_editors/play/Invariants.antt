use Rattle.std.proofs.Common.{◌≡◌}
use Rattle.std.specs.Prelude.{All}
use Rattle.seg_edit.specs.Waiting.{AreWaiting}
use Rattle.seg_edit.proofs.tests.many_editors.play.Given as goal

abbrev pub invariant-loop-round : goal.invariant-loop-round
invariant-loop-round g l = record {
  waiting : AreWaiting l.current l.waiting.items;
  older : All (λ o. o.version.brand ≡ l.current.brand) l.older.items;
  brand : l.current.brand ≡ l.looked.brand;
}
