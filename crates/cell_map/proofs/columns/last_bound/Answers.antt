use Rattle.std.proofs.Common.{◌≡◌, refl, ◌∙◌, sym, subst, rules, length, ◌-◌, fold, w64, SFits, to_z-of_z}
use Rattle.std.specs.Int.{int_max}
use Rattle.grid_core.specs.Places.{columns_between}
use Rattle.cell_map.proofs.CellBounds.{Tells, last_passed, last_found}
use Rattle.cell_map.proofs.columns.last_bound.Goals as goal

pub loop-last-init : goal.loop-last-init
loop-last-init c = record { within = c.requires.vertices_within; order = c.requires.order; same = refl }

pub returns-then-count-eq0 : goal.returns-then-count-eq0
returns-then-count-eq0 c =
    let vs = c.args.vertices.now in
    let above = c.args.above.now in
    let below = c.args.below.now in
    let last = c.in-Some.last.now in
    let fits_wall : SFits w64 c.args.wall = search rules in
    let fits_last : SFits w64 last.x = search rules in
    let fits : SFits w64 c.max.result = search rules in
    let nearer : c.max.result ≡ int_max c.args.wall last.x = simp to_z-of_z at c.max.ensures.value in
    let is : Tells int_max c.args.wall above below vs c.loop-last.rest.now = simp to_z-of_z at c.loop-last.invariant in
    let all : c.max.result ≡ fold int_max c.args.wall (columns_between vs above below) =
    nearer ∙ last_found is last c.in-Some.ensures.value (c.count_last_outside-count.ensures.none c.if-count-eq0.true) in
    simp to_z-of_z all

pub loop-last-preserved : goal.loop-last-preserved
loop-last-preserved c =
    subst (Tells int_max _ c.args.above.now c.args.below.now c.args.vertices.now) (sym c.split_at.ensures.front)
    (last_passed c.loop-last.invariant (length c.loop-last.rest.now - c.count_last_outside-count.result)
    c.count_last_outside-count.ensures.outside)
