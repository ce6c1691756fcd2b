use Rattle.std.proofs.Common.{◌≡◌, take}
use Rattle.std.specs.Prelude.{All}
use Rattle.grid_core.specs.Edge.{IsEdge}
use Rattle.grid_core.specs.Contours.{half_edges}
use Rattle.face_trace.proofs.half_edges.numbered.Given as goal

-- the half-edges of the edges so far
abbrev pub invariant-loop-edge : goal.invariant-loop-edge
invariant-loop-edge l = record {
  keys : l.halves.keys ≡ half_edges (take l.edge-index l.edges);
  edges : All IsEdge (take l.edge-index l.edges);
}
