use Rattle.radix_map.specs.Entries.{edited_all}
use Rattle.radix_map.proofs.map.Map.with.Goals as goal

pub returns-clause-value : goal.returns-clause-value
unfolding edited_all
returns-clause-value g c = c.with_all.ensures.value
