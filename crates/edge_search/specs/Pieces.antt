-- Pieces of edges over the columns of a strip. The 256 columns are the leaves of a binary tree: node 1 has all
-- of them, node n those of nodes 2 n and 2 n + 1, and node 256 + c column c alone. So a node n of w columns has
-- the leaves from n w to n w + w - 1.
use Rattle.std.specs.Prelude.{◌≡◌, ◌⊎◌, ℕ, ℤ, pos, ◌+ℤ◌, ◌-ℤ◌, ◌*ℤ◌, ◌≤ℤ◌, ◌<ℤ◌, ◌≤◌, ◌<◌, ◌^◌, IsTrue}
use Rattle.std.specs.Prelude.{List, All, Contains, length, slice_index_or}
use Rattle.std.specs.List.Sorted.{IsSorted}
use Rattle.grid_core.specs.declared.point.Point.{Point}
use Rattle.grid_core.specs.Edge.{EdgeEnds, edge_cmp}
use Rattle.grid_core.specs.Places.{spans}
use Rattle.place_test.specs.Reach.{IsEdgeWithin}
use Rattle.edge_search.specs.EdgeOrder.{ComesBefore}
use Rattle.edge_search.specs.Search.{DontCross}
use Rattle.edge_search.specs.declared.piece.Piece.{Piece}

-- the column of strip k that is a leaf
abbrev pub column : ℤ → ℤ → ℤ
column k leaf = pos 256 *ℤ k +ℤ (leaf -ℤ pos 256)

-- node n has w columns
pub record IsNode (n w : ℤ) : Type 0 where
  pub power : (l : ℕ) × (l ≤ 8) × (w ≡ pos (2 ^ l))
  pub from : pos 256 ≤ℤ (n *ℤ w)
  pub to : (n *ℤ w +ℤ w) ≤ℤ pos 512

-- a leaf is one of node n, which has w columns
pub record IsUnder (n w leaf : ℤ) : Type 0 where
  pub from : (n *ℤ w) ≤ℤ leaf
  pub to : leaf <ℤ (n *ℤ w +ℤ w)

-- the edge has the column, as it has a query point in it: that of its greater end is not its own
pub record HasColumn (e : EdgeEnds) (x : ℤ) : Type 0 where
  pub from : e.a.x ≤ℤ x
  pub to : x <ℤ e.b.x

-- a piece of one of the edges, over a node of w columns of strip k: the edge has all of these columns
pub record IsPiece (k : ℤ) (es : List EdgeEnds) (w : ℤ) (p : Piece) : Type 0 where
  pub edge : Contains es p.edge
  pub node : IsNode p.node w
  pub from : p.edge.a.x ≤ℤ column k (p.node *ℤ w)
  pub to : column k (p.node *ℤ w +ℤ w) ≤ℤ p.edge.b.x

-- a piece of an edge at a leaf, over a node that has the leaf
pub record IsPieceAt (k : ℤ) (es : List EdgeEnds) (e : EdgeEnds) (leaf : ℤ) (p : Piece) : Type 0 where
  pub edge : p.edge ≡ e
  pub over : (w : ℤ) × IsPiece k es w p × IsUnder p.node w leaf

-- going up over each column that both have, one edge comes before the other
abbrev pub AlwaysBefore : EdgeEnds → EdgeEnds → Type 0
AlwaysBefore e f = (q : Point) → IsTrue (spans q e) → IsTrue (spans q f) → ComesBefore q e f

-- a piece stands before another: by its node, and over one node from below
abbrev pub StandsBefore : Piece → Piece → Type 0
StandsBefore p r = (p.node <ℤ r.node) ⊎ ((p.node ≡ r.node) × ((p.edge ≡ r.edge) ⊎ AlwaysBefore p.edge r.edge))

-- the pieces of some edges over strip k: at each column that an edge has there is a piece of it, and pieces stand
-- in order
pub record ArePieces (k : ℤ) (es : List EdgeEnds) (ps : List Piece) : Type 0 where
  pub each : (p : Piece) → Contains ps p → (w : ℤ) × IsPiece k es w p
  pub all : (e : EdgeEnds) (leaf : ℤ) → Contains es e
      → pos 256 ≤ℤ leaf
      → leaf <ℤ pos 512
      → HasColumn e (column k leaf)
      → (p : Piece) × Contains ps p × IsPieceAt k es e leaf p
  pub order : (i j : ℕ) (d : Piece) → i < j → j < length ps
      → StandsBefore (slice_index_or ps i d) (slice_index_or ps j d)

-- the vertical ones of some edges, in order
pub record AreVerticals (es vs : List EdgeEnds) : Type 0 where
  pub each : (e : EdgeEnds) → Contains vs e → Contains es e × (e.a.x ≡ e.b.x)
  pub all : (e : EdgeEnds) → Contains es e → e.a.x ≡ e.b.x → Contains vs e
  pub order : IsSorted edge_cmp vs

-- a search among edges that don't cross and have no coordinate greater than n in size, by their pieces over a
-- strip and the vertical ones
pub record IsSearch (n : ℕ) (k : ℤ) (es : List EdgeEnds) (ps : List Piece) (vs : List EdgeEnds) : Type 0 where
  pub within : All (IsEdgeWithin n) es
  pub apart : DontCross es
  pub pieces : ArePieces k es ps
  pub verticals : AreVerticals es vs
