use Rattle.std.proofs.Common.{rules, w64, SFits, to_z-of_z, sym, subst, ◌-◌, List, length, take, drop}
use Rattle.std.specs.Prelude.{pos, ◌<ℤ◌, ◌≤ℤ◌, ◌+ℤ◌}
use Rattle.std.specs.List.{AllByRecursion}
use Rattle.std.specs.List.Sorted.{IsStrictlySortedBy}
use Rattle.std.specs.Ordering.{nat_cmp}
use Rattle.std.proofs.lemmas.List.Elements.{recursion_from_All}
use Rattle.grid_core.specs.declared.point.Point.{Point}
use Rattle.hot_tile.specs.declared.spots.Spot.{Spot}
use Rattle.hot_tile.specs.Frame.{pixel_at}
use Rattle.hot_tile.specs.Spots.{keys}
use Rattle.hot_tile.proofs.SpotLaws.{in_order_from, left_is}
use Rattle.hot_tile.proofs.ColumnLaws.{met_in_columns}
use Rattle.hot_tile.proofs.steps.in_columns.Goals as goal

pub count_left-requires-2-clause-rising : goal.count_left-requires-2-clause-rising
count_left-requires-2-clause-rising c =
    subst (λ (xs : List Spot). IsStrictlySortedBy nat_cmp (keys xs)) (sym (left_is c.args.spots.now c.count_left.result))
    (in_order_from (λ (x : Spot). x.key) c.args.spots.now c.count_left.result c.requires.rising)

pub returns : goal.returns
returns c =
    let f = c.args.frame.now in
    let u = c.args.u.now in
    let rest = take (length c.args.spots.now - c.count_left.result) (drop c.count_left.result c.args.spots.now) in
    let fits : SFits w64 c.p.result.x = search rules in
    let fits2 : SFits w64 c.q.result.x = search rules in
    let fits3 : SFits w64 (c.q.result.x +ℤ pos 1) = search rules in
    let first = simp to_z-of_z at c.count_left.ensures.left in
    let last = simp to_z-of_z at c.count_left-2.ensures.others in
    let left : AllByRecursion (λ (y : Spot). (pixel_at f y.key).x <ℤ u.p.x) (take c.count_left.result c.args.spots.now) =
    subst (λ (p : Point). AllByRecursion (λ (y : Spot). (pixel_at f y.key).x <ℤ p.x) (take c.count_left.result c.args.spots.now)) c.p.ensures.value
    (recursion_from_All (λ (y : Spot). (pixel_at f y.key).x <ℤ c.p.result.x) (take c.count_left.result c.args.spots.now) first) in
    let right : AllByRecursion (λ (y : Spot). (u.q.x +ℤ pos 1) ≤ℤ (pixel_at f y.key).x) (drop c.count_left-2.result rest) =
    subst (λ (q : Point). AllByRecursion (λ (y : Spot). (q.x +ℤ pos 1) ≤ℤ (pixel_at f y.key).x) (drop c.count_left-2.result rest)) c.q.ensures.value
    (recursion_from_All (λ (y : Spot). (c.q.result.x +ℤ pos 1) ≤ℤ (pixel_at f y.key).x) (drop c.count_left-2.result rest) last) in
    met_in_columns (λ (y : Spot). y.key) f u c.p.ensures.kept.ordered c.count_left.result c.count_left-2.result c.args.spots.now rest
    (left_is c.args.spots.now c.count_left.result) left right
