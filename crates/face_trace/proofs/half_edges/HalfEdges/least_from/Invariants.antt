use Rattle.face_trace.proofs.Tracing.{IsSearched, left}
use Rattle.face_trace.proofs.half_edges.HalfEdges.least_from.Given as goal

-- the least half-edge so far
abbrev pub invariant-loop-at : goal.invariant-loop-at
invariant-loop-at l = IsSearched l.self l.halves l.start l.at l.least

-- the half-edges that are left
abbrev pub decreases-loop-at : goal.decreases-loop-at
decreases-loop-at l = left l.self l.halves l.start l.at
