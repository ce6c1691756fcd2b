use Rattle.std.proofs.Common.{◌∙◌, rules}
use Rattle.std.specs.Bool.{nat_lt}
use Rattle.std.proofs.lemmas.List.Sorted.{IsPartitionPoint-from_clause}
use Rattle.grid_core.proofs.ListSteps.{drop_whole}
use Rattle.radix_map.specs.Entries.{keys_end}
use Rattle.radix_map.proofs.Cuts.{from_part}
use Rattle.radix_map.proofs.Noted.{rising_parted}
use Rattle.radix_map.proofs.pending.edits_from.Goals as goal

pub returns : goal.returns
returns g c =
    let edits = c.args.edits.now in
    let key = c.args.from in
    let i = c.partition_point.result in
    drop_whole i edits
    ∙ from_part key i edits
    (IsPartitionPoint-from_clause (λ (e : _). nat_lt e.0 key) edits i c.partition_point.ensures.partitioned
    (rising_parted 0 keys_end key edits c.requires) (λ a r f k. search rules))
