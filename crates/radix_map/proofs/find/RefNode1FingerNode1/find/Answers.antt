use Rattle.std.proofs.Common.{option_copied}
use Rattle.radix_map.proofs.Leaves.{end_leaf}
use Rattle.radix_map.proofs.find.RefNode1FingerNode1.find.Goals as goal

pub returns-clause-leaf : goal.returns-clause-leaf
returns-clause-leaf g c =
    end_leaf c.args.self.now.now.slots c.args.key c.args.shift c.slot.result (option_copied c.get.result) c.requires.level c.slot.ensures.value c.get.ensures.value
