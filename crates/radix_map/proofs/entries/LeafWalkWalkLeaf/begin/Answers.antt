use Rattle.std.proofs.Common.{ap, ◌∙◌}
use Rattle.std.proofs.lemmas.Nat.{and_mask}
use Rattle.radix_map.specs.Entries.{entries_behind, single}
use Rattle.radix_map.proofs.Walks.{leaf_from}
use Rattle.radix_map.proofs.entries.LeafWalkWalkLeaf.begin.Goals as goal

pub returns-clause-left : goal.returns-clause-left
returns-clause-left g c =
    let xs = c.args.node.now.slots in
    ap (λ n. entries_behind single 1 c.args.base n xs) (and_mask c.args.from 4) ∙ leaf_from c.args.base c.args.from xs
