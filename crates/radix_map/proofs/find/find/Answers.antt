use Rattle.std.proofs.Common.{option_copied}
use Rattle.radix_map.proofs.Roots.{found_set, found_below}
use Rattle.radix_map.proofs.find.find.Goals as goal

pub returns-in-Some-clause-value : goal.returns-in-Some-clause-value
returns-in-Some-clause-value g c = found_set c.args.tree.now c.args.key c.args.pending.now c.in-Some.value.now (option_copied c.set_value.result) c.requires.tree c.requires.edits c.in-Some.ensures c.set_value.ensures

pub returns-in-None-clause-value : goal.returns-in-None-clause-value
returns-in-None-clause-value g c = found_below c.args.tree.now c.args.key c.args.pending.now (option_copied c.find.result) c.requires.tree c.requires.edits c.in-None.ensures c.find.ensures.value
