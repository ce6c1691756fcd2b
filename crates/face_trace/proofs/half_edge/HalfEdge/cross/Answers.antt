use Rattle.std.proofs.Common.{◌^◌, ◌≤◌, sym, subst, rules, SFits, to_z-of_z}
use Rattle.std.specs.Prelude.{unsigned_abs}
use mir.Syntax.{w128}
use Rattle.grid_core.proofs.Sizes.{cross_within}
use Rattle.face_trace.proofs.half_edge.HalfEdge.cross.Goals as goal

pub returns-clause-small : goal.returns-clause-small
returns-clause-small c =
    let fits : SFits w128 c.cross.result = search rules in
    let small = cross_within (2 ^ 30) (2 ^ 30) _ _ c.self.invariant.origin c.self.invariant.target in
    simp to_z-of_z (subst (λ z. unsigned_abs z ≤ 2 ^ 61) (sym c.cross.ensures) small)
