use Rattle.std.proofs.Common.{rules, is_lt}
use Rattle.std.specs.List.Sorted.{IsPartitionPoint}
use Rattle.std.proofs.Common.{◌≡◌, true, false}
use Rattle.std.proofs.lemmas.List.Sorted.{IsPartitionPoint-from_clause}
use Rattle.grid_core.specs.Name.{label_cmp}
use Rattle.grid_core.specs.Segment.{Segment}
use Rattle.grid_core.proofs.Order.{label_total}
use Rattle.hot_tile.proofs.Parted.{parted_by, parts}
use Rattle.hot_tile.proofs.listed.index_of.Goals as goal
use Rattle.hot_tile.proofs.listed.index_of.Goals.{After-partition_point}

divided : (c : After-partition_point)
    → IsPartitionPoint (λ (t : Segment). is_lt (label_cmp t.name c.args.name) ≡ true) (λ (t : Segment). is_lt (label_cmp t.name c.args.name) ≡ false)
    c.args.segments.now c.partition_point.result
divided c =
    IsPartitionPoint-from_clause (λ (t : Segment). is_lt (label_cmp t.name c.args.name)) c.args.segments.now c.partition_point.result
    c.partition_point.ensures.partitioned (parted_by label_total (λ (t : Segment). t.name) c.args.name c.args.segments.now c.requires)
    (λ a r f' k. search rules)

pub returns-clause-lesser : goal.returns-clause-lesser
returns-clause-lesser c = (parts (λ (t : Segment). is_lt (label_cmp t.name c.args.name)) c.args.segments.now c.partition_point.result (divided c)).0

pub returns-clause-others : goal.returns-clause-others
returns-clause-others c = (parts (λ (t : Segment). is_lt (label_cmp t.name c.args.name)) c.args.segments.now c.partition_point.result (divided c)).1
