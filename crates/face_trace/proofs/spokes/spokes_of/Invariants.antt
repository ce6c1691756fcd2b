use Rattle.face_trace.proofs.SpokeLists.{SpokesSoFar}
use Rattle.face_trace.proofs.spokes.spokes_of.Given as goal

-- the spokes of the half-edges so far
abbrev pub invariant-loop-number : goal.invariant-loop-number
invariant-loop-number l = SpokesSoFar l.halves l.spokes.items l.number
