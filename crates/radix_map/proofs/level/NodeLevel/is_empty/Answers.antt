use Rattle.std.proofs.Common.{◌+◌, ◌^◌, ap, ◌∙◌}
use Rattle.radix_map.specs.Entries.{entries_of}
use Rattle.radix_map.proofs.Trees.{of_none}
use Rattle.radix_map.proofs.level.NodeLevel.is_empty.Goals as goal

pub returns : goal.returns
returns g c = λ t. ap (entries_of g.L.Level.entries (2 ^ (g.L.Level.bits + 4))) (c.is_empty.ensures t) ∙ of_none g.L.Level.entries (2 ^ (g.L.Level.bits + 4))
