use Rattle.std.proofs.Common.{ap}
use Rattle.seg_edit.specs.Prepared.{renewal_of}
use Rattle.seg_edit.proofs.Standing.{stands_renews}
use Rattle.seg_edit.proofs.next.apply_beside.Goals as goal

pub renewed-requires-clause-renews : goal.renewed-requires-clause-renews
renewed-requires-clause-renews c =
    stands_renews c.args.prepared.now _ _ _ c.requires.profile (ap renewal_of c.prepared.view_is) c.requires.stands
