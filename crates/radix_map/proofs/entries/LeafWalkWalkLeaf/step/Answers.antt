use Rattle.radix_map.specs.Entries.{single}
use Rattle.radix_map.proofs.Walks.{behind_none, leaf_next}
use Rattle.radix_map.proofs.entries.LeafWalkWalkLeaf.step.Goals as goal

pub returns-in-None-clause-first : goal.returns-in-None-clause-first
returns-in-None-clause-first g c =
    let w = c.args.self.now in
    let e = behind_none single 1 w.base w.at w.leaf.now.slots c.in-None.ensures.none in
    (e, e)

pub returns-in-Some-clause-first : goal.returns-in-Some-clause-first
returns-in-Some-clause-first g c =
    let w = c.args.self.now in
    leaf_next w.base w.at c.in-Some.n c.in-Some.value.now w.leaf.now.slots c.next.ensures.wide c.in-Some.ensures.some
