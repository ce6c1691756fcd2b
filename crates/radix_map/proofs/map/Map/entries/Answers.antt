use Rattle.std.proofs.Common.{◌∙◌}
use Rattle.radix_map.proofs.Cuts.{from_zero}
use Rattle.radix_map.proofs.map.Map.entries.Goals as goal

pub returns-clause-value : goal.returns-clause-value
returns-clause-value g c = c.entries_from.ensures.value ∙ from_zero c.args.self.now
