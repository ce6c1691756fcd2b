-- Edges that don't cross, in which places are searched for over the columns of one strip.
use Rattle.std.specs.Prelude.{◌≡◌, ℕ, ℤ, List, All, Contains, Option, IfSome}
use Rattle.grid_core.specs.declared.point.Point.{Point}
use Rattle.grid_core.specs.declared.place.Place.{Place}
use Rattle.grid_core.specs.declared.place.Place.TheVariants.{Between}
use Rattle.grid_core.specs.Edge.{EdgeEnds, IsEdge}
use Rattle.grid_core.specs.Planar.{IsEnd}
use Rattle.grid_core.specs.Places.{query_point}
use Rattle.place_test.specs.Reach.{IsEdgeWithin}
use Rattle.edge_search.specs.EdgeOrder.{LowerInsideComesBefore, OneEdgeHas}

-- the edges of a search, and the number of the strip in which it finds places
pub record Searched : Type 0 where
  pub strip : ℤ
  pub edges : List EdgeEnds

-- each joins its lesser end to its greater, and any two keep the order of the edges of a planar graph. What holds of
-- such a graph's edges holds of some of them
pub record DontCross (es : List EdgeEnds) : Type 0 where
  pub ordered : All IsEdge es
  pub inside : LowerInsideComesBefore es
  pub one : OneEdgeHas es

-- none of the edges ends at q
abbrev pub NoneEndsAt : List EdgeEnds → Point → Type 0
NoneEndsAt es q = (e : EdgeEnds) (h : Point) → Contains es e → IsEnd e h → query_point h ≡ q → ⊥

-- the edges of a pair have no coordinate greater than n in size
abbrev pub IsPairWithin : ℕ → Place → Type 0
IsPairWithin n place = (above below : Option EdgeEnds) → place ≡ Between above below
    → IfSome above (IsEdgeWithin n) × IfSome below (IsEdgeWithin n)
