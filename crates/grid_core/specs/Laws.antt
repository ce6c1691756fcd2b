-- What follows from the definitions, for every segment, box and list of segments.
use Rattle.std.specs.Prelude.{◌≡◌, ℕ, ◌+◌, ◌-◌, ◌≤◌, ◌<◌, ℤ, pos, ◌+ℤ◌, ◌-ℤ◌, ◌*ℤ◌, ◌≤ℤ◌, ◌<ℤ◌}
use Rattle.std.specs.Prelude.{IsTrue, ◌↔◌, List, length, slice_get, Some, Contains, Any}
use Rattle.std.specs.List.Sorted.{IsStrictlySortedBy}
use Rattle.grid_core.specs.declared.point.Point.{Point}
use Rattle.grid_core.specs.declared.pixel_box.PixelBox.{PixelBox}
use Rattle.grid_core.specs.Vector.{dot_of, point_cmp}
use Rattle.grid_core.specs.Name.{Label, label_cmp}
use Rattle.grid_core.specs.Segment.{Segment, direction}
use Rattle.grid_core.specs.Edge.{EdgeEnds, edge_cmp}
use Rattle.grid_core.specs.LiveList.{names}
use Rattle.grid_core.specs.Meets.{meets_of, meets_pixel_of}
use Rattle.grid_core.specs.Crossing.{RationalPoint, point_along}
use Rattle.grid_core.specs.Rounding.{ends_at, crossings_at, hot, along_cmp, route, route_edges, edges, bundle}

-- num / den is from lo - 1/2 to below hi + 1/2; each side is multiplied by 2 den
pub record IsFromTo (lo hi num den : ℤ) : Type 0 where
  pub low : ((pos 2 *ℤ lo -ℤ pos 1) *ℤ den) ≤ℤ (pos 2 *ℤ num)
  pub high : (pos 2 *ℤ num) <ℤ ((pos 2 *ℤ hi +ℤ pos 1) *ℤ den)

-- the point lies in the box, whose left and lower sides belong to it and whose right and upper
-- ones don't
pub record IsInBox (area : PixelBox) (c : RationalPoint) : Type 0 where
  pub x : IsFromTo area.lo.x area.hi.x c.num_x c.den
  pub y : IsFromTo area.lo.y area.hi.y c.num_y c.den

-- the point of s that is a / b of the way from p to q lies in the box
pub record HasPointIn (s : Segment) (area : PixelBox) : Type 0 where
  pub a : ℕ
  pub b : ℕ
  pub part : a ≤ b
  pub whole : 0 < b
  pub inside : IsInBox area (point_along s (pos a) (pos b))

-- s meets the box exactly where some point of s lies in it
abbrev pub MeetsWhereAPointLies : Segment → PixelBox → Type 0
MeetsWhereAPointLies s area = IsTrue (meets_of s area) ↔ HasPointIn s area

-- two pixels that s meets and that have one product with its direction are one pixel
abbrev pub ProductsTellPixelsApart : Segment → Type 0
ProductsTellPixelsApart s =
    (g h : Point)
    → IsTrue (meets_pixel_of s g)
    → IsTrue (meets_pixel_of s h)
    → dot_of g (direction s) ≡ dot_of h (direction s)
    → g ≡ h

-- a pixel is hot exactly where the sum of its two counts is above 0;
-- hot pixels stand in order, each once
pub record HotIsCounted (ss : List Segment) : Type 0 where
  pub counted : (h : Point) → Contains (hot ss) h ↔ (0 < ends_at ss h + crossings_at ss h)
  pub in_order : IsStrictlySortedBy point_cmp (hot ss)

-- the route of s has exactly the hot pixels that s meets; they stand in order along s, each once
pub record RouteIsMet (ss : List Segment) (s : Segment) : Type 0 where
  pub met : (h : Point)
      → Contains (route ss s) h ↔ (Contains (hot ss) h × IsTrue (meets_pixel_of s h))
  pub in_order : IsStrictlySortedBy (along_cmp s) (route ss s)

-- the route of s begins with p and ends with q
pub record RouteRunsFromPToQ (ss : List Segment) (s : Segment) : Type 0 where
  pub first : slice_get (route ss s) 0 ≡ Some s.p
  pub last : slice_get (route ss s) (length (route ss s) - 1) ≡ Some s.q

-- the edges are exactly those of the segments' routes; they stand in order, each once
pub record EdgesAreOfRoutes (ss : List Segment) : Type 0 where
  pub of_routes : (e : EdgeEnds)
      → Contains (edges ss) e ↔ Any (λ s. Contains (route_edges ss s) e) ss
  pub in_order : IsStrictlySortedBy edge_cmp (edges ss)

-- a bundle has exactly the names of the segments whose routes have e;
-- where the names rise in ss, they rise in it
pub record BundleIsOfRoutes (ss : List Segment) (e : EdgeEnds) : Type 0 where
  pub of_routes : (name : Label)
      → Contains (bundle ss e) name
      ↔ Any (λ s. (s.name ≡ name) × Contains (route_edges ss s) e) ss
  pub in_order : IsStrictlySortedBy label_cmp (names ss)
      → IsStrictlySortedBy label_cmp (bundle ss e)
