use Rattle.std.proofs.Common.{rules, is_lt}
use Rattle.std.proofs.lemmas.List.Sorted.{IsPartitionPoint-from_clause}
use Rattle.grid_core.specs.declared.point.Point.{Point}
use Rattle.grid_core.specs.Vector.{point_cmp}
use Rattle.cell_map.proofs.ColumnOrder.{parted_before}
use Rattle.cell_map.proofs.columns.count_before.Goals as goal

pub returns : goal.returns
returns c =
    IsPartitionPoint-from_clause (λ (h : Point). is_lt (point_cmp h c.args.p)) c.args.vertices.now c.partition_point.result
    c.partition_point.ensures.partitioned (parted_before c.args.p c.args.vertices.now c.requires)
    (λ a r f' k. search rules)
