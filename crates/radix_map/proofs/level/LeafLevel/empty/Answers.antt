use Rattle.std.proofs.Common.{ap, ◌∙◌}
use Rattle.radix_map.specs.Entries.{entries_of, single}
use Rattle.radix_map.proofs.Trees.{of_none}
use Rattle.radix_map.proofs.level.LeafLevel.empty.Goals as goal

pub returns : goal.returns
returns g c = ap (entries_of single 1) c.empty.ensures ∙ of_none single 1
