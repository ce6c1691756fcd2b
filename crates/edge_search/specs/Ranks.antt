-- Ranks of pieces: whole numbers by which the pieces over one node stand in order from below.
use Rattle.std.specs.Prelude.{◌≡◌, ◌^◌, ℤ, pos, ◌+ℤ◌, ◌*ℤ◌, ◌≤ℤ◌, ◌<ℤ◌, List, Contains}
use Rattle.std.specs.Int.{int_div_euclid}
use Rattle.std.specs.declared.cmp.Ordering.{Ordering}
use Rattle.std.specs.Ordering.{int_cmp, ordering_then}
use Rattle.grid_core.specs.declared.point.Point.{Point}
use Rattle.grid_core.specs.Edge.{EdgeEnds}
use Rattle.grid_core.specs.Places.{edge_direction, height_at}
use Rattle.edge_search.specs.Pieces.{column, HasColumn, IsPiece, IsPieceAt}
use Rattle.edge_search.specs.declared.rank.RankedPiece.{RankedPiece}

-- how high an edge is at q's column, times 2^62 and rounded down. Widths are at most 2^31, so that two heights that
-- differ are 2^-62 apart at least, and the higher edge has the greater rank
abbrev pub rank_at : Point → EdgeEnds → ℤ
rank_at q e = int_div_euclid (height_at q e *ℤ pos (2 ^ 62)) (edge_direction e).x

-- a query point inside the first column of node n, which has w columns of strip k
abbrev pub point_inside : (k n w : ℤ) → Point
point_inside k n w = record { x = pos 256 *ℤ column k (n *ℤ w) +ℤ pos 1; y = pos 0 }

-- the piece of an edge over node n, which has w columns of strip k, with its rank there
abbrev pub ranked_piece : (k : ℤ) → EdgeEnds → (n w : ℤ) → RankedPiece
ranked_piece k e n w =
    record { piece = record { node = n; edge = e }; rank = rank_at (point_inside k n w) e }

-- a piece of one of the edges, over a node of w columns of strip k, with its rank there
pub record IsRanked (k : ℤ) (es : List EdgeEnds) (w : ℤ) (r : RankedPiece) : Type 0 where
  pub piece : IsPiece k es w r.piece
  pub rank : r.rank ≡ rank_at (point_inside k r.piece.node w) r.piece.edge

-- by node, and over one node by rank
abbrev pub ranked_cmp : RankedPiece → RankedPiece → Ordering
ranked_cmp r s = ordering_then (int_cmp r.piece.node s.piece.node) (int_cmp r.rank s.rank)

-- the pieces of some edges over strip k with their ranks: at each column that an edge has there is a piece of it
pub record AreRanked (k : ℤ) (es : List EdgeEnds) (rs : List RankedPiece) : Type 0 where
  pub each : (r : RankedPiece) → Contains rs r → (w : ℤ) × IsRanked k es w r
  pub all : (e : EdgeEnds) (leaf : ℤ) → Contains es e
      → pos 256 ≤ℤ leaf
      → leaf <ℤ pos 512
      → HasColumn e (column k leaf)
      → (r : RankedPiece) × Contains rs r × IsPieceAt k es e leaf r.piece
