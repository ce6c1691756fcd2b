use Rattle.std.proofs.Common.{◌≡◌, subst, rules, ◌^◌, ◌++◌, All, length, fold, pos, w64, SFits, to_z-of_z}
use Rattle.std.specs.Prelude.{◌+ℤ◌, ◌*ℤ◌}
use Rattle.std.specs.Int.{int_min, int_max}
use Rattle.std.specs.List.Sorted.{IsStrictlySortedBy}
use Rattle.std.proofs.Math.Seq.{take-append_seam, drop-append_seam}
use Rattle.std.proofs.lemmas.List.Elements.{All-take, All-drop}
use Rattle.grid_core.specs.Vector.{IsWithin, point_cmp}
use Rattle.grid_core.specs.Places.{columns_between}
use Rattle.cell_map.proofs.ColumnOrder.{sorted_left, sorted_right}
use Rattle.cell_map.proofs.CellBounds.{cell_of_ends}
use Rattle.cell_map.proofs.columns.cell_in_order.Goals as goal

pub last_bound-left-requires-clause-vertices_within : goal.last_bound-left-requires-clause-vertices_within
last_bound-left-requires-clause-vertices_within c =
    let us = c.split_at_column.result.0.now in
    let hs = c.split_at_column.result.1.now in
    subst (All (IsWithin (2 ^ 30))) (take-append_seam us hs)
    (All-take (IsWithin (2 ^ 30)) (length us) (us ++ hs)
    (subst (All (IsWithin (2 ^ 30))) c.split_at_column.ensures.joined c.requires.vertices_within))

pub last_bound-left-requires-clause-order : goal.last_bound-left-requires-clause-order
last_bound-left-requires-clause-order c =
    sorted_left point_cmp c.split_at_column.result.0.now c.split_at_column.result.1.now
    (subst (IsStrictlySortedBy point_cmp) c.split_at_column.ensures.joined c.requires.order)

pub first_bound-right-requires-clause-vertices_within : goal.first_bound-right-requires-clause-vertices_within
first_bound-right-requires-clause-vertices_within c =
    let us = c.split_at_column.result.0.now in
    let hs = c.split_at_column.result.1.now in
    subst (All (IsWithin (2 ^ 30))) (drop-append_seam us hs)
    (All-drop (IsWithin (2 ^ 30)) (length us) (us ++ hs)
    (subst (All (IsWithin (2 ^ 30))) c.split_at_column.ensures.joined c.requires.vertices_within))

pub first_bound-right-requires-clause-order : goal.first_bound-right-requires-clause-order
first_bound-right-requires-clause-order c =
    sorted_right point_cmp c.split_at_column.result.0.now c.split_at_column.result.1.now
    (subst (IsStrictlySortedBy point_cmp) c.split_at_column.ensures.joined c.requires.order)

pub returns : goal.returns
returns c =
    let us = c.split_at_column.result.0.now in
    let hs = c.split_at_column.result.1.now in
    let fits_number : SFits w64 c.strip_of-number.result = search rules in
    let fits_from : SFits w64 c.left_wall.result = search rules in
    let fits_to : SFits w64 c.right_wall.result = search rules in
    let fits_left : SFits w64 c.last_bound-left.result = search rules in
    let fits_right : SFits w64 c.first_bound-right.result = search rules in
    let from : c.left_wall.result ≡ pos 256 *ℤ c.strip_of-number.result = simp to_z-of_z at c.left_wall.ensures in
    let to : c.right_wall.result ≡ pos 256 *ℤ (c.strip_of-number.result +ℤ pos 1) = simp to_z-of_z at c.right_wall.ensures in
    let left : c.last_bound-left.result ≡ fold int_max c.left_wall.result (columns_between us c.args.above c.args.below) =
    simp to_z-of_z at c.last_bound-left.ensures in
    let right : c.first_bound-right.result ≡ fold int_min c.right_wall.result (columns_between hs c.args.above c.args.below) =
    simp to_z-of_z at c.first_bound-right.ensures in
    let all = cell_of_ends c.args.at c.args.above c.args.below c.args.vertices.now us hs c.split_at_column.ensures.joined
    c.split_at_column.ensures.left c.split_at_column.ensures.right _ _ _ _ _ c.strip_of-number.ensures.value from to left right in
    simp to_z-of_z all
