use Rattle.std.proofs.Common.{rules, is_lt, nat_cmp, ◌≡◌, true, false}
use Rattle.std.specs.List.Sorted.{IsPartitionPoint}
use Rattle.std.proofs.lemmas.Cmp.{nat_cmp_total}
use Rattle.std.proofs.lemmas.List.Sorted.{IsPartitionPoint-from_clause}
use Rattle.hot_tile.specs.declared.spots.Spot.{Spot}
use Rattle.hot_tile.proofs.Parted.{parted_by, parts}
use Rattle.hot_tile.proofs.spots.index_of_key.Goals as goal
use Rattle.hot_tile.proofs.spots.index_of_key.Goals.{After-partition_point}

divided : (c : After-partition_point)
    → IsPartitionPoint (λ (x : Spot). is_lt (nat_cmp x.key c.args.key) ≡ true) (λ (x : Spot). is_lt (nat_cmp x.key c.args.key) ≡ false)
    c.args.spots.now c.partition_point.result
divided c =
    IsPartitionPoint-from_clause (λ (x : Spot). is_lt (nat_cmp x.key c.args.key)) c.args.spots.now c.partition_point.result
    c.partition_point.ensures.partitioned (parted_by nat_cmp_total (λ (x : Spot). x.key) c.args.key c.args.spots.now c.requires)
    (λ a r f' k. search rules)

pub returns-clause-lesser : goal.returns-clause-lesser
returns-clause-lesser c = (parts (λ (x : Spot). is_lt (nat_cmp x.key c.args.key)) c.args.spots.now c.partition_point.result (divided c)).0

pub returns-clause-others : goal.returns-clause-others
returns-clause-others c = (parts (λ (x : Spot). is_lt (nat_cmp x.key c.args.key)) c.args.spots.now c.partition_point.result (divided c)).1
