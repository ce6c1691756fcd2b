use Rattle.std.proofs.Common.{ℕ, ◌<◌}
use Rattle.face_trace.specs.Links.{IsPlaced}
use Rattle.face_trace.proofs.half_edges.HalfEdges.takes.Given as goal

-- the edges so far are in their places
abbrev pub invariant-loop-i : goal.invariant-loop-i
invariant-loop-i l = (k : ℕ) → k < l.i → IsPlaced l.edges k
