use Rattle.std.proofs.Common.{◌≡◌, [], take}
use Rattle.place_test.specs.Nearest.{around}
use Rattle.cell_map.proofs.strip.scan.Given as goal

-- what is nearest among the vertices so far
abbrev pub invariant-loop-h : goal.invariant-loop-h
invariant-loop-h l = l.nearest ≡ around (take l.h-index l.vertices) [] l.at

-- what is nearest among all vertices and the edges so far
abbrev pub invariant-loop-e : goal.invariant-loop-e
invariant-loop-e l = l.nearest ≡ around l.vertices (take l.e-index l.edges) l.at
