use Rattle.std.proofs.Common.{◌≡◌, map, take}
use Rattle.edge_search.specs.declared.rank.RankedPiece.{RankedPiece}
use Rattle.edge_search.proofs.order.without_ranks.Given as goal

-- the pieces so far
abbrev pub invariant-loop-r : goal.invariant-loop-r
invariant-loop-r l = l.pieces.items ≡ map (λ (r : RankedPiece). r.piece) (take l.r-index l.ranked)
