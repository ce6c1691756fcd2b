use Rattle.face_trace.proofs.LinksSoFar.{LinkedSoFar}
use Rattle.face_trace.proofs.spokes.nexts_of.Given as goal

-- the entries of the twins of the spokes so far
abbrev pub invariant-loop-i : goal.invariant-loop-i
invariant-loop-i l = LinkedSoFar l.spokes l.nexts.items l.first l.i
