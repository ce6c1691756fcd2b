use Rattle.std.proofs.Common.{arith}
use Rattle.std.proofs.lemmas.List.{length-set}
use Rattle.slab.proofs.SlabLemmas.{ContainsKey-within}
use Rattle.pass_links.proofs.StoredLaws.{has_links, goes_seen}
use Rattle.pass_links.proofs.nodes.Nodes.remove.Goals as goal

pub remove-requires : goal.remove-requires
remove-requires c = has_links _ _ _ c.self.invariant c.self.view_is c.args.key c.requires

pub returns-clause-changes : goal.returns-clause-changes
returns-clause-changes c =
    let within = ContainsKey-within c.self.inside.links c.args.key (has_links _ _ _ c.self.invariant c.self.view_is c.args.key c.requires) in
    goes_seen _ _ _ c.self.invariant c.self.view_is c.remove.new.self c.args.key c.remove.ensures.updates (omega (arith, within, c.self.invariant.slot_count))
    (rw c.remove.ensures.slots (rw length-set c.self.invariant.slot_count))
