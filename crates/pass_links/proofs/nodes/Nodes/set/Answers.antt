use Rattle.std.proofs.Common.{Some, ap, arith, subst}
use Rattle.std.proofs.lemmas.List.{length-set}
use Rattle.slab.specs.Slab.{with_value}
use Rattle.slab.proofs.SlabLemmas.{ContainsKey-within, Updates-with_value}
use Rattle.pass_links.specs.Nodes.{Changes}
use Rattle.pass_links.proofs.StoredLaws.{has_links, links_seen}
use Rattle.pass_links.proofs.nodes.Nodes.set.Goals as goal

pub index_mut-requires : goal.index_mut-requires
index_mut-requires c = has_links _ _ _ c.self.invariant c.self.view_is c.args.key c.requires.stored

pub returns-clause-changes : goal.returns-clause-changes
returns-clause-changes c =
    let links = c.self.inside.links in
    let stands = has_links _ _ _ c.self.invariant c.self.view_is c.args.key c.requires.stored in
    let within = ContainsKey-within links c.args.key stands in
    subst (Changes c.args.self.now.slots _ c.args.key) (ap Some c.of.ensures)
    (links_seen _ _ _ c.self.invariant c.self.view_is (with_value links c.args.key c.of.result) c.args.key c.of.result c.args.node.pixel
    (Updates-with_value links c.args.key c.of.result stands)
    c.requires.same_pixel (omega (arith, within, c.self.invariant.slot_count)) (rw length-set c.self.invariant.slot_count))
