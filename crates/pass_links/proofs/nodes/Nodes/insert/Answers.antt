use Rattle.std.proofs.Common.{Some, refl, ap, arith, subst, length-set}
use Rattle.pass_links.specs.Nodes.{Changes}
use Rattle.pass_links.proofs.StoredLaws.{none_seen, changes_seen}
use Rattle.pass_links.proofs.nodes.Nodes.insert.Goals as goal

pub returns-clause-was_vacant : goal.returns-clause-was_vacant
returns-clause-was_vacant c = none_seen _ _ _ c.self.invariant c.self.view_is c.insert_reserved-key.result c.insert_reserved-key.ensures.was_vacant

pub returns-clause-changes : goal.returns-clause-changes
returns-clause-changes c =
    subst (Changes c.args.self.now.slots _ c.insert_reserved-key.result) (ap Some c.of.ensures)
    (changes_seen _ _ _ c.self.invariant c.self.view_is c.insert_reserved-key.new.self _ c.insert_reserved-key.result (Some c.of.result) c.args.node.pixel
    c.insert_reserved-key.ensures.updates refl (omega arith) (rw length-set (omega arith)))
