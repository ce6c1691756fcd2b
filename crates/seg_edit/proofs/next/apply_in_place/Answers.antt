use Rattle.std.proofs.Common.{ap}
use Rattle.seg_edit.specs.Prepared.{renewal_of}
use Rattle.seg_edit.proofs.Standing.{stands_renews}
use Rattle.seg_edit.proofs.next.apply_in_place.Goals as goal

pub renew-requires-clause-renews : goal.renew-requires-clause-renews
renew-requires-clause-renews c =
    stands_renews c.args.prepared.now _ _ _ c.requires.profile (ap renewal_of c.prepared.view_is) c.requires.stands
