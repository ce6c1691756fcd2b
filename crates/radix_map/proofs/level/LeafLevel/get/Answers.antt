use Rattle.std.proofs.Common.{ap, sym, ◌∙◌}
use Rattle.std.proofs.lemmas.Nat.{and_mask}
use Rattle.radix_map.specs.Slots.{item_at}
use Rattle.radix_map.proofs.Trees.{leaf_value}
use Rattle.radix_map.proofs.level.LeafLevel.get.Goals as goal

pub returns : goal.returns
returns g c = c.get.ensures.value ∙ ap (item_at c.args.self.now.slots) (and_mask c.args.key 4) ∙ sym (leaf_value c.args.self.now.slots c.args.key)
