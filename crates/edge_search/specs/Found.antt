-- What a search has found around a query point.
use Rattle.std.specs.Prelude.{◌≡◌, IsTrue, List, [], Contains}
use Rattle.grid_core.specs.declared.point.Point.{Point}
use Rattle.grid_core.specs.Edge.{EdgeEnds}
use Rattle.grid_core.specs.Places.{lies_on}
use Rattle.place_test.specs.Nearest.{Around, around}
use Rattle.edge_search.specs.Near.{AreEnough}

-- what is nearest to q among some of the edges, with each vertical one that has q
pub record IsNearestVertical (all : List EdgeEnds) (q : Point) (w : Around) : Type 0 where
  pub some : List EdgeEnds
  pub is : w ≡ around [] some q
  pub members : (e : EdgeEnds) → Contains some e → Contains all e
  pub vertical : (e : EdgeEnds) → Contains all e → e.a.x ≡ e.b.x → IsTrue (lies_on q e) → Contains some e

-- what is nearest to q among some of the edges that tell its place among all
pub record IsNearest (all : List EdgeEnds) (q : Point) (w : Around) : Type 0 where
  pub some : List EdgeEnds
  pub is : w ≡ around [] some q
  pub enough : AreEnough all some q
