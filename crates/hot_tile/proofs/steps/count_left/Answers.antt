use Rattle.std.proofs.Common.{rules, ◌≡◌, ◌/◌, refl, sym, subst, Bool, true, false, take, drop, w64, SFits, to_z-of_z}
use Rattle.std.specs.Prelude.{pos, ◌-ℤ◌, ◌<ℤ◌, ◌≤ℤ◌, int_lt, not}
use Rattle.std.specs.List.{AllByRecursion}
use Rattle.std.specs.List.Sorted.{IsPartitionPoint}
use Rattle.std.proofs.lemmas.List.Elements.{All-from_recursion}
use Rattle.std.proofs.lemmas.List.Sorted.{IsPartitionPoint-from_clause}
use Rattle.grid_core.proofs.Filters.{all_kept}
use Rattle.hot_tile.specs.declared.spots.Spot.{Spot}
use Rattle.hot_tile.specs.Frame.{lowest, pixel_at}
use Rattle.hot_tile.proofs.Parted.{parts}
use Rattle.hot_tile.proofs.ColumnLaws.{columns_parted, left_of, not_left_of}
use Rattle.hot_tile.proofs.steps.count_left.Goals as goal
use Rattle.hot_tile.proofs.steps.count_left.Goals.{After-partition_point}

divided : (c : After-partition_point)
    → IsPartitionPoint (λ (y : Spot). int_lt (pos (y.key / 65536)) c.column_of-column.result ≡ true)
    (λ (y : Spot). int_lt (pos (y.key / 65536)) c.column_of-column.result ≡ false) c.args.spots.now c.partition_point.result
divided c =
    IsPartitionPoint-from_clause (λ (y : Spot). int_lt (pos (y.key / 65536)) c.column_of-column.result) c.args.spots.now c.partition_point.result
    c.partition_point.ensures.partitioned (columns_parted (λ (y : Spot). y.key) c.column_of-column.result c.args.spots.now c.requires.rising)
    (λ a r f' k. search rules)

turned : (b : Bool) → not b ≡ true → b ≡ false
turned false h = refl
turned true h = cc

pub returns-clause-left : goal.returns-clause-left
returns-clause-left c =
    let fits : SFits w64 c.args.x = search rules in
    let column : c.column_of-column.result ≡ c.args.x -ℤ (lowest c.args.frame.now).x = simp to_z-of_z at c.column_of-column.ensures in
    let p = λ (y : Spot). int_lt (pos (y.key / 65536)) c.column_of-column.result in
    let P = λ (y : Spot). (pixel_at c.args.frame.now y.key).x <ℤ c.args.x in
    All-from_recursion P (take c.partition_point.result c.args.spots.now)
    (subst (AllByRecursion P) (sym (parts p c.args.spots.now c.partition_point.result (divided c)).0)
    (all_kept P p (λ y h. left_of c.args.frame.now y.key c.args.x c.column_of-column.result column h) c.args.spots.now))

pub returns-clause-others : goal.returns-clause-others
returns-clause-others c =
    let fits : SFits w64 c.args.x = search rules in
    let column : c.column_of-column.result ≡ c.args.x -ℤ (lowest c.args.frame.now).x = simp to_z-of_z at c.column_of-column.ensures in
    let p = λ (y : Spot). int_lt (pos (y.key / 65536)) c.column_of-column.result in
    let P = λ (y : Spot). c.args.x ≤ℤ (pixel_at c.args.frame.now y.key).x in
    All-from_recursion P (drop c.partition_point.result c.args.spots.now)
    (subst (AllByRecursion P) (sym (parts p c.args.spots.now c.partition_point.result (divided c)).1)
    (all_kept P (λ y. not (p y)) (λ y h. not_left_of c.args.frame.now y.key c.args.x c.column_of-column.result column (turned (p y) h)) c.args.spots.now))
