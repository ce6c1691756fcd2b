use Rattle.std.proofs.Common.{◌≡◌, refl, ◌∙◌, sym, subst, rules, fold, w64, SFits, to_z-of_z}
use Rattle.std.specs.Int.{int_min}
use Rattle.grid_core.specs.Places.{columns_between}
use Rattle.cell_map.proofs.CellBounds.{Tells, first_passed, first_found}
use Rattle.cell_map.proofs.columns.first_bound.Goals as goal

pub loop-first-init : goal.loop-first-init
loop-first-init c = record { within = c.requires.vertices_within; order = c.requires.order; same = refl }

pub returns-then-count-eq0 : goal.returns-then-count-eq0
returns-then-count-eq0 c =
    let vs = c.args.vertices.now in
    let above = c.args.above.now in
    let below = c.args.below.now in
    let first = c.in-Some.first.now in
    let fits_wall : SFits w64 c.args.wall = search rules in
    let fits_first : SFits w64 first.x = search rules in
    let fits : SFits w64 c.min.result = search rules in
    let nearer : c.min.result ≡ int_min c.args.wall first.x = simp to_z-of_z at c.min.ensures.value in
    let is : Tells int_min c.args.wall above below vs c.loop-first.rest.now = simp to_z-of_z at c.loop-first.invariant in
    let all : c.min.result ≡ fold int_min c.args.wall (columns_between vs above below) =
    nearer ∙ first_found is first c.in-Some.ensures.value (c.count_first_outside-count.ensures.none c.if-count-eq0.true) in
    simp to_z-of_z all

pub loop-first-preserved : goal.loop-first-preserved
loop-first-preserved c =
    subst (Tells int_min _ c.args.above.now c.args.below.now c.args.vertices.now) (sym c.split_at.ensures.back)
    (first_passed c.loop-first.invariant c.count_first_outside-count.result c.count_first_outside-count.ensures.within
    c.count_first_outside-count.ensures.outside)
