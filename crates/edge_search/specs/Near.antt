-- Some of the edges of a graph that tell where a query point lies among all of them.
use Rattle.std.specs.Prelude.{◌≡◌, ◌⊎◌, pos, int_lt, false, IsTrue, List, Contains}
use Rattle.grid_core.specs.declared.point.Point.{Point}
use Rattle.grid_core.specs.Edge.{EdgeEnds}
use Rattle.grid_core.specs.Places.{spans, lies_on, side_of_edge, place_among}
use Rattle.planar_law.specs.PlanarEdges.{Graph}
use Rattle.edge_search.specs.EdgeOrder.{ComesBefore}

-- for an edge that has q's column: among some edges there is one on the same side of q that is no further from q.
-- An edge on which q lies counts as above it
pub record HasNear (some : List EdgeEnds) (q : Point) (e : EdgeEnds) : Type 0 where
  pub below : IsTrue (int_lt (pos 0) (side_of_edge e q))
      → (c : EdgeEnds)
      × Contains some c
      × IsTrue (spans q c)
      × IsTrue (int_lt (pos 0) (side_of_edge c q))
      × ((c ≡ e) ⊎ ComesBefore q e c)
  pub above : int_lt (pos 0) (side_of_edge e q) ≡ false
      → (c : EdgeEnds)
      × Contains some c
      × IsTrue (spans q c)
      × (int_lt (pos 0) (side_of_edge c q) ≡ false)
      × ((c ≡ e) ⊎ ComesBefore q c e)

-- some of the edges, with one near q for each that has q's column, and each vertical one on which q lies
pub record AreEnough (all some : List EdgeEnds) (q : Point) : Type 0 where
  pub members : (e : EdgeEnds) → Contains some e → Contains all e
  pub near : (e : EdgeEnds) → Contains all e → IsTrue (spans q e) → HasNear some q e
  pub vertical : (e : EdgeEnds) → Contains all e → e.a.x ≡ e.b.x → IsTrue (lies_on q e) → Contains some e

-- where some of the edges are enough for q, the place of q among them is its place among all
abbrev pub EnoughTellThePlace : Graph → Type 0
EnoughTellThePlace g = (some : List EdgeEnds) (q : Point)
    → AreEnough g.edges some q
    → place_among g.vertices some q ≡ place_among g.vertices g.edges q
