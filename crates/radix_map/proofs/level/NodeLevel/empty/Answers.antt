use Rattle.std.proofs.Common.{◌+◌, ◌^◌, ap, ◌∙◌}
use Rattle.radix_map.specs.Entries.{entries_of}
use Rattle.radix_map.proofs.Trees.{of_none}
use Rattle.radix_map.proofs.level.NodeLevel.empty.Goals as goal

pub returns : goal.returns
returns g c = ap (entries_of g.L.Level.entries (2 ^ (g.L.Level.bits + 4))) c.empty.ensures ∙ of_none g.L.Level.entries (2 ^ (g.L.Level.bits + 4))
