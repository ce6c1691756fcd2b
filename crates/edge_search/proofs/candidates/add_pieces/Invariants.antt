use Rattle.std.proofs.Common.{◌≡◌, [], ◌++◌, List, take}
use Rattle.grid_core.specs.Edge.{EdgeEnds}
use Rattle.place_test.specs.Nearest.{around}
use Rattle.edge_search.specs.Candidates.{edges_of}
use Rattle.edge_search.proofs.candidates.add_pieces.Given as goal

-- what is nearest among what was there and the edges of the pieces so far
abbrev pub invariant-loop-p : goal.invariant-loop-p
invariant-loop-p l =
    (es : List EdgeEnds)
    → l.initial.nearest ≡ around [] es l.at
    → l.nearest ≡ around [] (es ++ edges_of (take l.p-index l.pieces)) l.at
