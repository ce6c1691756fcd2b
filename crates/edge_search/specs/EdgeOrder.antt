-- The order of the edges of a graph over its columns.
use Rattle.std.specs.Prelude.{◌≡◌, ◌⊎◌, pos, ◌≤ℤ◌, ◌<ℤ◌, int_lt, IsTrue, List, Contains}
use Rattle.std.specs.declared.cmp.Ordering.TheVariants.{Less, Greater}
use Rattle.std.specs.Ordering.{ordering_then}
use Rattle.grid_core.specs.declared.point.Point.{Point}
use Rattle.grid_core.specs.Edge.{EdgeEnds}
use Rattle.grid_core.specs.Planar.{IsEnd}
use Rattle.grid_core.specs.Places.{query_point, spans, lies_on, height_cmp, slope_cmp, side_of_edge}

-- of two edges that both have the columns of q and of r, r's the same or further right, the one that is
-- lower over q's column is lower over r's
abbrev pub LowerStaysLower : List EdgeEnds → Type 0
LowerStaysLower es = (e f : EdgeEnds) (q r : Point)
    → Contains es e
    → Contains es f
    → IsTrue (spans q e)
    → IsTrue (spans q f)
    → IsTrue (spans r e)
    → IsTrue (spans r f)
    → q.x ≤ℤ r.x
    → height_cmp q e f ≡ Less
    → height_cmp r e f ≡ Less

-- going up over q's column e comes before f: it is lower, or as high and of less slope
abbrev pub ComesBefore : Point → EdgeEnds → EdgeEnds → Type 0
ComesBefore q e f = ordering_then (height_cmp q e f) (slope_cmp e f) ≡ Less

-- of two edges that both have the columns of q and of r, r's the same or further right, of which one comes
-- before the other over q's column: where r is above the other, it is above the one
abbrev pub AboveIsAboveThoseBefore : List EdgeEnds → Type 0
AboveIsAboveThoseBefore es = (e f : EdgeEnds) (q r : Point)
    → Contains es e
    → Contains es f
    → IsTrue (spans q e)
    → IsTrue (spans q f)
    → IsTrue (spans r e)
    → IsTrue (spans r f)
    → q.x ≤ℤ r.x
    → ComesBefore q e f
    → IsTrue (int_lt (pos 0) (side_of_edge f r))
    → IsTrue (int_lt (pos 0) (side_of_edge e r))

-- q's column lies between those of the edge's ends, and is neither of the two
pub record IsInside (q : Point) (e : EdgeEnds) : Type 0 where
  pub from : (query_point e.a).x <ℤ q.x
  pub to : q.x <ℤ (query_point e.b).x

-- of two edges that aren't one, that which isn't the higher over a column inside both comes before the
-- other over each column that both have
abbrev pub LowerInsideComesBefore : List EdgeEnds → Type 0
LowerInsideComesBefore es = (e f : EdgeEnds) (q r : Point)
    → Contains es e
    → Contains es f
    → IsInside q e
    → IsInside q f
    → IsTrue (spans r e)
    → IsTrue (spans r f)
    → (height_cmp q e f ≡ Greater → ⊥)
    → (e ≡ f) ⊎ ComesBefore r e f

-- two edges that have one query point are one edge, or the point is an end of both
abbrev pub OneEdgeHas : List EdgeEnds → Type 0
OneEdgeHas es = (e f : EdgeEnds) (q : Point)
    → Contains es e
    → Contains es f
    → IsTrue (lies_on q e)
    → IsTrue (lies_on q f)
    → (e ≡ f) ⊎ ((h : Point) × IsEnd e h × IsEnd f h × (query_point h ≡ q))
