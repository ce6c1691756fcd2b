use Rattle.std.proofs.lemmas.Option.{slice_get_within}
use Rattle.grid_core.specs.Contours.{HalfEdge, half_edges}
use Rattle.face_trace.proofs.LookUps.{contour_found}
use Rattle.face_trace.proofs.half_edges.HalfEdges.contour.Goals as goal

pub contour_from-requires : goal.contour_from-requires
contour_from-requires c =
    slice_get_within (half_edges c.args.self.now) c.least_from.result _ (c.least_from.ensures _ c.in-Some.ensures)

pub returns-in_ok-contour_from-in-Some-clause-value :
    goal.returns-in_ok-contour_from-in-Some-clause-value
returns-in_ok-contour_from-in-Some-clause-value c =
    let h : HalfEdge = record { origin = c.args.from; target = c.args.to } in
    contour_found c.args.self.now c.args.from c.args.to c.in-Some.start c.in_ok-contour_from-in-Some.field-0
    c.in-Some.ensures (c.in_ok-contour_from-in-Some.ensures.value _ (c.least_from.ensures h c.in-Some.ensures))
