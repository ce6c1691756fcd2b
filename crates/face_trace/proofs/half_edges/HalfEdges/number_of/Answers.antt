use Rattle.std.proofs.Common.{refl}
use Rattle.face_trace.proofs.HalfEdgeLists.{half_test}
use Rattle.face_trace.proofs.Tracing.{linked_as}
use Rattle.face_trace.proofs.LookUps.{number_found, far_away}
use Rattle.face_trace.proofs.half_edges.HalfEdges.number_of.Goals as goal
use Rattle.face_trace.proofs.half_edges.HalfEdges.number_of.Goals.{else-is_within-via-then-is_within+else-is_within-2, else-is_within-via-else-is_within}

pub returns-then-is_within-2 : goal.returns-then-is_within-2
returns-then-is_within-2 c =
    number_found (linked_as _ _ _ _ _ c.self.view_is refl c.self.invariant) _ half_test c.between.result _ c.between.ensures
    c.get_index_of.result c.get_index_of.ensures.index

pub returns-else-is_within : goal.returns-else-is_within
returns-else-is_within c =
    far_away (linked_as _ _ _ _ _ c.self.view_is refl c.self.invariant) (record { origin = c.args.from; target = c.args.to })
    (λ within. elim c.else-is_within.branch [
      | else-is_within-via-then-is_within+else-is_within-2 w ↦
          let t = w.is_within-then-is_within.ensures.1 within.target in cc
      | else-is_within-via-else-is_within w ↦ let t = c.is_within.ensures.1 within.origin in cc
    ])
