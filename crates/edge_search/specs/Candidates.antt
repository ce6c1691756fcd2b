-- Which of the pieces over a node are nearest to a query point.
use Rattle.std.specs.Prelude.{◌≡◌, ℕ, ℤ, pos, ◌-◌, ◌<◌, ◌≤◌, false, ◌&&◌, ◌||◌, int_lt, IsTrue, Bool}
use Rattle.std.specs.Prelude.{List, All, Contains, map, length, slice_index_or}
use Rattle.std.specs.Ordering.{int_eq}
use Rattle.grid_core.specs.declared.point.Point.{Point}
use Rattle.grid_core.specs.Edge.{EdgeEnds}
use Rattle.grid_core.specs.Places.{spans, side_of_edge}
use Rattle.place_test.specs.Reach.{IsEdgeWithin}
use Rattle.edge_search.specs.Near.{HasNear}
use Rattle.edge_search.specs.Pieces.{StandsBefore}
use Rattle.edge_search.specs.declared.piece.Piece.{Piece}

-- the edges of pieces
abbrev pub edges_of : List Piece → List EdgeEnds
edges_of ps = map (λ p. p.edge) ps

-- the edges of pieces have no coordinate greater than n in size
abbrev pub ArePiecesWithin : ℕ → List Piece → Type 0
ArePiecesWithin n ps = All (λ p. IsEdgeWithin n p.edge) ps

-- pieces stand in order
abbrev pub AreInOrder : List Piece → Type 0
AreInOrder ps = (i j : ℕ) (d : Piece) → i < j → j < length ps → StandsBefore (slice_index_or ps i d) (slice_index_or ps j d)

-- each piece over node n has q's column
abbrev pub HaveColumn : ℤ → Point → List Piece → Type 0
HaveColumn n q ps = (p : Piece) → Contains ps p → p.node ≡ n → IsTrue (spans q p.edge)

-- the piece's node comes before node n, or it is node n and q is above the piece
abbrev pub is_passed : ℤ → Point → Piece → Bool
is_passed n q p = int_lt p.node n || (int_eq p.node n && int_lt (pos 0) (side_of_edge p.edge q))

-- the piece before index i is passed, and the one at index i is not
pub record IsDivision (n : ℤ) (q : Point) (ps : List Piece) (i : ℕ) : Type 0 where
  pub within : i ≤ length ps
  pub before : (d : Piece) → 0 < i → IsTrue (is_passed n q (slice_index_or ps (i - 1) d))
  pub after : (d : Piece) → i < length ps → is_passed n q (slice_index_or ps i d) ≡ false

-- some of the pieces have, for each piece over node n, one near q
pub record AreNear (n : ℤ) (q : Point) (ps some : List Piece) : Type 0 where
  pub members : (p : Piece) → Contains some p → Contains ps p
  pub near : (p : Piece) → Contains ps p → p.node ≡ n → HasNear (edges_of some) q p.edge
