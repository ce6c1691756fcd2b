use Rattle.std.proofs.Common.{◌-◌, length}
use Rattle.grid_core.specs.Contours.{walk}
use Rattle.face_trace.proofs.Tracing.{half, IsTraced}
use Rattle.face_trace.proofs.half_edges.HalfEdges.contour_from.Given as goal

-- the start points so far
abbrev pub invariant-loop-points : goal.invariant-loop-points
invariant-loop-points l = IsTraced l.self l.halves l.start l.at l.points.items l.area2

-- the half-edges that are left
abbrev pub decreases-loop-points : goal.decreases-loop-points
decreases-loop-points l = length (walk l.self (half l.halves l.start)) - length l.points.items
