use Rattle.std.proofs.Common.{◌≤◌, ◌^◌, ◌*◌, rules, sym, subst, arith, w64, SFits, to_z-of_z}
use mir.Syntax.{w128}
use Rattle.std.specs.Prelude.{pos, ◌<ℤ◌, unsigned_abs}
use Rattle.grid_core.specs.declared.point.Point.{Point}
use Rattle.grid_core.specs.Places.{height_at}
use Rattle.grid_core.proofs.Signed.{signed}
use Rattle.edge_search.proofs.EdgeOrder.{width}
use Rattle.edge_search.proofs.Ranks.{height_within}
use Rattle.edge_search.proofs.rank.rank.Goals as goal

pub scaled_ratio-requires-clause-small : goal.scaled_ratio-requires-clause-small
scaled_ratio-requires-clause-small c =
    let high : SFits w128 c.height.result = search rules in
    let wide : SFits w64 c.direction.result.x = search rules in
    let at = c.args.at in
    let e = c.args.e.now in
    let small : unsigned_abs c.height.result ≤ 2 ^ 40 * unsigned_abs c.direction.result.x =
    subst (λ h. unsigned_abs h ≤ 2 ^ 40 * unsigned_abs c.direction.result.x) (sym c.height.ensures)
    (subst (λ (d : Point). unsigned_abs (height_at at e) ≤ 2 ^ 40 * unsigned_abs d.x) (sym c.direction.ensures.value)
    (height_within e at c.requires.edge_within c.requires.inside)) in
    simp to_z-of_z small

pub scaled_ratio-requires-clause-positive : goal.scaled_ratio-requires-clause-positive
scaled_ratio-requires-clause-positive c =
    let wide : SFits w64 c.direction.result.x = search rules in
    let some : pos 0 <ℤ width c.args.e.now = omega (arith, signed, c.requires.inside.from, c.requires.inside.to) in
    let there : pos 0 <ℤ c.direction.result.x = subst (λ (d : Point). pos 0 <ℤ d.x) (sym c.direction.ensures.value) some in
    simp to_z-of_z there
