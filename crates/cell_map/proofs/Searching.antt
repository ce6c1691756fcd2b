-- A query point that is at no vertex of its strip is at no end of an edge, since each end in the strip is a vertex
-- of it. So its place is that among the edges alone; and where that is a pair of edges, its cell is the one between
-- them.
use Rattle.std.proofs.Common.{◌≡◌, ◌∙◌, ap, sym, List, [], ◌∷◌, filter, Contains, Option, None, Some}
use Rattle.std.specs.Prelude.{slice_get}
use Rattle.grid_core.specs.declared.point.Point.{Point}
use Rattle.grid_core.specs.declared.place.Place.{Place}
use Rattle.grid_core.specs.declared.place.Place.TheVariants.{Between}
use Rattle.grid_core.specs.Edge.{EdgeEnds}
use Rattle.grid_core.specs.Places.{strip_of, query_point, place_off_vertices, place_or_vertex, place_among}
use Rattle.grid_core.specs.Places.{cell_among, cell_between, edge_above, edge_below}
use Rattle.grid_core.specs.Vector.{point_eq}
use Rattle.grid_core.proofs.Comparisons.{point_decides}
use Rattle.grid_core.proofs.ListMembers.{contains_filter}
use Rattle.place_test.specs.Nearest.{vertex_among, edge_on}
use Rattle.edge_search.proofs.Least.{none_in}
use Rattle.edge_search.specs.Search.{NoneEndsAt}
use Rattle.cell_map.specs.declared.found.Found.TheVariants.{Inside}
use Rattle.cell_map.specs.Found.{found_at, found_among}
use Rattle.cell_map.specs.Arranged.{EndsAreVertices}
use Rattle.cell_map.proofs.StripOfPoint.{vertex_lies}

-- a list whose first element isn't there has no member
none_first : {X : Type 0} (xs : List X) (x : X) → Contains xs x → slice_get xs 0 ≡ None → ⊥
none_first [] x h e = none_in h
none_first (y ∷ xs) x h e = cc e

module _ (vs : List Point) (q : Point) (off : vertex_among vs q ≡ None) where
  -- none of the vertices is at the point
  not_at : (h : Point) → Contains vs h → query_point h ≡ q → ⊥
  not_at h c e =
      none_first (filter (λ h. point_eq (query_point h) q) vs) h
      ((contains_filter (λ h. point_eq (query_point h) q) vs h).1 (c, (point_decides (query_point h) q).1 e)) off

  pub none_ends : (es : List EdgeEnds) → EndsAreVertices (strip_of 256 q) (record { edges = es; vertices = vs })
      → NoneEndsAt es q
  none_ends es ends e h c end at =
      not_at h (ends e h c end (vertex_lies q h ((point_decides (query_point h) q).1 at))) at

  -- the place among edges alone
  pub place_of_edges : (es : List EdgeEnds) → place_among [] es q ≡ place_among vs es q
  place_of_edges es = ap (place_or_vertex es q) (sym off)

  off_pair : (es : List EdgeEnds) (o above below : Option EdgeEnds) → Between above below ≡ place_off_vertices es q o
      → (above ≡ edge_above es q) × (below ≡ edge_below es q)
  off_pair es None above below e = (cc e, cc e)
  off_pair es (Some f) above below e = absurd (cc e)

  pub found_as_place : (es : List EdgeEnds) (p : Place) → p ≡ place_among [] es q
      → found_at p (cell_among 256 vs es q) ≡ found_among vs es q
  found_as_place es p e = ap (λ (p : Place). found_at p (cell_among 256 vs es q)) (e ∙ place_of_edges es)

  -- between a pair of edges
  pub found_inside : (es : List EdgeEnds) (above below : Option EdgeEnds) → Between above below ≡ place_among [] es q
      → Inside (cell_between 256 vs q above below) ≡ found_among vs es q
  found_inside es above below e =
      let pair = off_pair es (edge_on es q) above below e in
      ap Inside (λ i. cell_between 256 vs q (pair.0 i) (pair.1 i))
      ∙ found_as_place es (Between above below) e
