use Rattle.std.proofs.Common.{sym, subst, rules, SFits, to_z-of_z}
use Rattle.std.specs.Prelude.{pos}
use mir.Syntax.{w128}
use Rattle.face_trace.proofs.Tracing.{IsTraced, linked_as, within_as, trace_begun, traced_more, traced_whole, contour_whole}
use Rattle.face_trace.proofs.half_edges.HalfEdges.contour_from.Goals as goal

pub loop-points-init : goal.loop-points-init
loop-points-init c =
    let linked = linked_as _ _ _ _ _ c.self.view_is c.as_slice-halves.ensures.keys c.self.invariant in
    subst (λ ps. IsTraced c.args.self.now c.as_slice-halves.result.now c.args.start c.args.start ps (pos 0))
    (sym c.new-points.ensures.items) (trace_begun linked c.args.start (within_as linked c.args.start c.requires))

pub loop-points-preserved : goal.loop-points-preserved
loop-points-preserved c =
    let linked = linked_as _ _ _ _ _ c.self.view_is c.as_slice-halves.ensures.keys c.self.invariant in
    let fits_cross : SFits w128 c.cross-cross.result = search rules in
    let fits_sum : SFits w128 c.sum-area2.result = search rules in
    let sum = simp to_z-of_z at c.sum-area2.ensures in
    simp to_z-of_z (traced_more linked c.args.start (within_as linked c.args.start c.requires) c.loop-points.invariant
    c.index-halves-at.result c.index-halves-at.is
    c.index-at.result.now c.index-at.ensures c.origin.result c.origin.ensures c.cross-cross.result c.cross-cross.ensures.value
    c.cross-cross.ensures.small c.push.new.self.items c.in_ok-push.ensures.items c.sum-area2.result sum c.if-at-start.false)

pub returns-clause-value : goal.returns-clause-value
returns-clause-value c = λ h e.
    let linked = linked_as _ _ _ _ _ c.self.view_is c.as_slice-halves.ensures.keys c.self.invariant in
    let first = within_as linked c.args.start c.requires in
    let fits_cross : SFits w128 c.cross-cross.result = search rules in
    let fits_sum : SFits w128 c.sum-area2.result = search rules in
    let sum = simp to_z-of_z at c.sum-area2.ensures in
    let whole =
    traced_whole linked c.args.start first c.loop-points.invariant
    c.index-halves-at.result c.index-halves-at.is
    c.index-at.result.now c.index-at.ensures c.origin.result c.origin.ensures c.cross-cross.result c.cross-cross.ensures.value
    c.cross-cross.ensures.small c.push.new.self.items c.in_ok-push.ensures.items c.sum-area2.result sum c.if-at-start.true in
    simp to_z-of_z (contour_whole linked c.args.start first c.push.new.self.items c.sum-area2.result whole h e)
