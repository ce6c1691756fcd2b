-- Planarity and closeness: edges meet at common ends alone, and stay within half a pixel of the
-- segments whose routes have them. A point is a pair of fractions of one denominator.
use Rattle.std.specs.Prelude.{◌≡◌, ℕ, ◌*◌, ◌≤◌, ◌<◌, ◌⊎◌, ℤ, pos, ◌+ℤ◌, ◌-ℤ◌, ◌*ℤ◌, ◌<ℤ◌}
use Rattle.std.specs.Prelude.{unsigned_abs, List, Contains}
use Rattle.grid_core.specs.declared.point.Point.{Point}
use Rattle.grid_core.specs.Segment.{Segment}
use Rattle.grid_core.specs.Edge.{EdgeEnds}
use Rattle.grid_core.specs.Crossing.{RationalPoint, point_along}

-- a grid point as a pair of fractions
abbrev pub whole_point : Point → RationalPoint
whole_point h = record { num_x = h.x; num_y = h.y; den = pos 1 }

-- the point of the edge that is u / den of the way from its lesser to its greater end
abbrev pub point_of_edge : EdgeEnds → ℤ → ℤ → RationalPoint
point_of_edge e u den =
    record {
      num_x = e.a.x *ℤ den +ℤ u *ℤ (e.b.x -ℤ e.a.x);
      num_y = e.a.y *ℤ den +ℤ u *ℤ (e.b.y -ℤ e.a.y);
      den = den;
    }

-- the fractions of c are those of d
pub record IsOnePoint (c d : RationalPoint) : Type 0 where
  pub x : c.num_x *ℤ d.den ≡ d.num_x *ℤ c.den
  pub y : c.num_y *ℤ d.den ≡ d.num_y *ℤ c.den

-- c is a point of the edge, ends included: the one that is a / b of the way along it
pub record IsOnEdge (e : EdgeEnds) (c : RationalPoint) : Type 0 where
  pub a : ℕ
  pub b : ℕ
  pub part : a ≤ b
  pub whole : 0 < b
  pub is : IsOnePoint c (point_of_edge e (pos a) (pos b))

-- h is an end of the edge
abbrev pub IsEnd : EdgeEnds → Point → Type 0
IsEnd e h = (h ≡ e.a) ⊎ (h ≡ e.b)

-- c is an end of both edges
pub record IsCommonEnd (e f : EdgeEnds) (c : RationalPoint) : Type 0 where
  pub at : Point
  pub of_first : IsEnd e at
  pub of_second : IsEnd f at
  pub is : IsOnePoint c (whole_point at)

-- two different edges have no point in common but a common end, and no vertex lies inside an edge
pub record IsPlanar (es : List EdgeEnds) (vs : List Point) : Type 0 where
  pub apart : (e f : EdgeEnds) (c : RationalPoint)
      → Contains es e
      → Contains es f
      → pos 0 <ℤ c.den
      → IsOnEdge e c
      → IsOnEdge f c
      → (e ≡ f) ⊎ IsCommonEnd e f c
  pub ended : (e : EdgeEnds) (h : Point)
      → Contains es e
      → Contains vs h
      → IsOnEdge e (whole_point h)
      → IsEnd e h

-- c and d differ by at most 1/2 in each coordinate; each side is multiplied by both denominators
-- and doubled
pub record IsWithinHalf (c d : RationalPoint) : Type 0 where
  pub x : 2 * unsigned_abs (c.num_x *ℤ d.den -ℤ d.num_x *ℤ c.den) ≤ unsigned_abs (c.den *ℤ d.den)
  pub y : 2 * unsigned_abs (c.num_y *ℤ d.den -ℤ d.num_y *ℤ c.den) ≤ unsigned_abs (c.den *ℤ d.den)

-- some point of s, the one that is a / b of the way from p to q, is within 1/2 of c
pub record HasPointNear (s : Segment) (c : RationalPoint) : Type 0 where
  pub a : ℕ
  pub b : ℕ
  pub part : a ≤ b
  pub whole : 0 < b
  pub near : IsWithinHalf c (point_along s (pos a) (pos b))

-- each point of the edge is within 1/2 of a point of s
abbrev pub IsNear : Segment → EdgeEnds → Type 0
IsNear s e = (c : RationalPoint) → pos 0 <ℤ c.den → IsOnEdge e c → HasPointNear s c
