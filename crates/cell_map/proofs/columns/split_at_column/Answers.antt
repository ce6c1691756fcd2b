use Rattle.std.proofs.Common.{◌≡◌, ap, sym, subst, rules, true, false, All, pos}
use Rattle.std.specs.Prelude.{int_le, ◌*ℤ◌, ◌<ℤ◌, ◌≤ℤ◌}
use Rattle.std.specs.List.Sorted.{IsPartitionPoint}
use Rattle.std.proofs.lemmas.List.Sorted.{IsPartitionPoint-from_clause}
use Rattle.grid_core.specs.declared.point.Point.{Point}
use Rattle.cell_map.proofs.ColumnOrder.{columns_parted, not_right, right_of}
use Rattle.cell_map.proofs.CellBounds.{all_taken, all_dropped}
use Rattle.cell_map.proofs.columns.split_at_column.Goals as goal
use Rattle.cell_map.proofs.columns.split_at_column.Goals.{After-split_at}

divided : (c : After-split_at)
    → IsPartitionPoint (λ (h : Point). int_le h.x c.floor_of-column.result.x ≡ true)
    (λ (h : Point). int_le h.x c.floor_of-column.result.x ≡ false) c.args.vertices.now c.partition_point.result
divided c =
    IsPartitionPoint-from_clause (λ (h : Point). int_le h.x c.floor_of-column.result.x) c.args.vertices.now
    c.partition_point.result c.partition_point.ensures.partitioned
    (columns_parted c.floor_of-column.result.x c.args.vertices.now c.requires.order)
    (λ a r f' k. search rules)

pub returns-clause-left : goal.returns-clause-left
returns-clause-left c =
    let q = c.args.at in
    let column = ap (λ (p : Point). p.x) c.floor_of-column.ensures.value in
    subst (All (λ (h : Point). (pos 256 *ℤ h.x) ≤ℤ q.x)) (sym c.split_at.ensures.front)
    (all_taken (λ (h : Point). (pos 256 *ℤ h.x) ≤ℤ q.x) c.args.vertices.now c.partition_point.result
    c.partition_point.ensures.bound
    (λ k d from to. not_right q.x _ c.floor_of-column.result.x column ((divided c).0 k d from to)))

pub returns-clause-right : goal.returns-clause-right
returns-clause-right c =
    let q = c.args.at in
    let column = ap (λ (p : Point). p.x) c.floor_of-column.ensures.value in
    subst (All (λ (h : Point). q.x <ℤ (pos 256 *ℤ h.x))) (sym c.split_at.ensures.back)
    (all_dropped (λ (h : Point). q.x <ℤ (pos 256 *ℤ h.x)) c.args.vertices.now c.partition_point.result
    (λ k d from to. right_of q.x _ c.floor_of-column.result.x column ((divided c).1 k d from to)))
