use Rattle.std.proofs.Common.{◌≡◌, [], map, take}
use Rattle.place_test.specs.Nearest.{around}
use Rattle.edge_bundle.specs.Drawn.{vertices_of}
use Rattle.edge_bundle.proofs.scan.locate.Given as goal

-- what is nearest among the vertices so far
abbrev pub invariant-loop-vertex : goal.invariant-loop-vertex
invariant-loop-vertex l = l.nearest ≡ around (map (λ v. v.at) (take l.vertex-index l.vertex-items)) [] l.at

-- what is nearest among all vertices and the edges so far
abbrev pub invariant-loop-bundled : goal.invariant-loop-bundled
invariant-loop-bundled l =
    l.nearest ≡ around (vertices_of l.picture) (map (λ b. b.edge) (take l.bundled-index l.bundled-items)) l.at
