-- Locality: the part of a rounding in a tile is made by the segments that meet the tile. What lies
-- in a tile lies in a pixel of it, and who has an end or a crossing in a pixel meets the pixel, so
-- the tile. So those ends and those crossings in the tile are one list for all segments and for
-- those that meet it; by these two lists go the counts, the hot pixels, and the routes among them.

use Rattle.std.proofs.Common.{◌≡◌, refl, ap, sym, subst, ◌∙◌, IsTrue, Bool, true, false, cond, true≢false}
use Rattle.std.proofs.Common.{List, [], ◌∷◌, ◌++◌, map, filter, count_by}
use Rattle.std.specs.Prelude.{◌<◌, filter_map}
use Rattle.std.proofs.lemmas.Bool.{false_from_ne_true}
use Rattle.std.proofs.lemmas.List.Elements.{filter-append}
use Rattle.grid_core.specs.declared.point.Point.{Point}
use Rattle.grid_core.specs.declared.tile.TileId.{TileId}
use Rattle.grid_core.specs.Vector.{point_cmp, point_eq}
use Rattle.grid_core.specs.Profile.{Sizes}
use Rattle.grid_core.specs.Segment.{Segment}
use Rattle.grid_core.specs.Meets.{meets_pixel_of}
use Rattle.grid_core.specs.RisingSet.{rising}
use Rattle.grid_core.specs.Rounding.{RoutedSegment, end_points, crossing_pixel, crossing_pixels, ends_at, crossings_at}
use Rattle.grid_core.specs.Rounding.{hot, vertex_at, route}
use Rattle.grid_core.specs.Tiles.{in_tile, meets_tile, near, part_of}
use Rattle.grid_core.proofs.AlongSegments.{meets_p, meets_q}
use Rattle.grid_core.proofs.Comparisons.{point_decides}
use Rattle.grid_core.proofs.Crossings.{crossing_met}
use Rattle.grid_core.proofs.Filters.{filter_swapped, none_kept}
use Rattle.grid_core.proofs.Order.{point_total, point_exact}
use Rattle.grid_core.proofs.RisingSets.{filter_rising}
use Rattle.grid_core.proofs.RouteOrder.{along_and_pixel_cmp, along_and_pixel_total, along_and_pixel_exact, rising_by_product}
use Rattle.tile_law.specs.Parts.{hot_in, route_among}
use Rattle.tile_law.specs.Laws.{PartsAreLocal}
use Rattle.tile_law.proofs.Kept.{filter_twice, count_kept, map_kept, kept_of_joined, none_of_found, kept_of_found}
use Rattle.tile_law.proofs.TileBoxes.{met_tile}

-- ---- routes

-- the pixels of a route that lie in a tile are the hot pixels of the tile that the segment meets
pub route_here : (pr : Sizes) (t : TileId) (ss : List Segment) (s : Segment)
    → filter (in_tile pr t) (route ss s) ≡ route_among (hot_in pr t ss) s
route_here pr t ss s =
    ap (filter (in_tile pr t)) (sym (rising_by_product s (hot ss)))
    ∙ filter_rising (along_and_pixel_total s) (in_tile pr t)
    (λ g h e. ap (in_tile pr t) (along_and_pixel_exact s g h e)) (filter (meets_pixel_of s) (hot ss))
    ∙ ap (rising (along_and_pixel_cmp s)) (filter_swapped (meets_pixel_of s) (in_tile pr t) (hot ss))
    ∙ rising_by_product s (hot_in pr t ss)

module _ (pr : Sizes) (some : 0 < pr.side) (t : TileId) where
  -- a pixel that is met by a segment that doesn't meet the tile lies outside
  pub outside : (s : Segment) (h : Point) → meets_tile pr t s ≡ false → IsTrue (meets_pixel_of s h) → in_tile pr t h ≡ false
  outside s h e m = false_from_ne_true (in_tile pr t h) (λ i. true≢false (sym (met_tile pr some s t h i m) ∙ e))

  -- ---- ends and crossings

  -- the ends that lie in the tile are those of the segments that meet it
  pub ends_near : (ss : List Segment)
      → filter (in_tile pr t) (end_points ss) ≡ filter (in_tile pr t) (end_points (near pr t ss))
  ends_near ss =
      kept_of_joined (in_tile pr t) (λ (s : Segment). s.p ∷ s.q ∷ []) (meets_tile pr t)
      (λ s e. none_kept (in_tile pr t) (s.p ∷ s.q ∷ []) (outside s s.p e (meets_p s), (outside s s.q e (meets_q s), tt)))
      ss

  -- so are the crossings
  pub crossings_near : (ss : List Segment)
      → filter (in_tile pr t) (crossing_pixels ss) ≡ filter (in_tile pr t) (crossing_pixels (near pr t ss))
  unfolding crossing_pixels
  crossings_near [] = refl
  crossings_near (s ∷ ss) = by (crossings_near ss) (meets_tile pr t s) refl
    where
      here : Point → Bool
      here = in_tile pr t

      by : filter here (crossing_pixels ss) ≡ filter here (crossing_pixels (near pr t ss))
          → (b : Bool) → meets_tile pr t s ≡ b
          → filter here (filter_map (crossing_pixel s) ss ++ crossing_pixels ss)
          ≡ filter here (crossing_pixels (cond b (s ∷ near pr t ss) (near pr t ss)))
      by rest true e =
          filter-append here (filter_map (crossing_pixel s) ss) (crossing_pixels ss)
          ∙ (λ i. kept_of_found here (crossing_pixel s) (meets_tile pr t)
          (λ u h f g. outside u h f (crossing_met s u h g).1) ss i ++ rest i)
          ∙ sym (filter-append here (filter_map (crossing_pixel s) (near pr t ss)) (crossing_pixels (near pr t ss)))
      by rest false e =
          filter-append here (filter_map (crossing_pixel s) ss) (crossing_pixels ss)
          ∙ ap (λ hs. hs ++ filter here (crossing_pixels ss))
          (none_of_found here (crossing_pixel s) (λ u h g. outside s h e (crossing_met s u h g).0) ss)
          ∙ rest

  -- ---- counts and hot pixels

  -- what is one with a pixel of the tile lies in the tile
  at_pixel : (h : Point) → IsTrue (in_tile pr t h) → (g : Point) → point_eq h g ≡ true → in_tile pr t g ≡ true
  at_pixel h i g e = subst (λ k. in_tile pr t k ≡ true) ((point_decides h g).0 e) i

  -- the two counts of a pixel of the tile
  pub ends_at_near : (ss : List Segment) (h : Point) → IsTrue (in_tile pr t h) → ends_at ss h ≡ ends_at (near pr t ss) h
  ends_at_near ss h i =
      sym (count_kept (in_tile pr t) (point_eq h) (at_pixel h i) (end_points ss))
      ∙ ap (count_by (point_eq h)) (ends_near ss)
      ∙ count_kept (in_tile pr t) (point_eq h) (at_pixel h i) (end_points (near pr t ss))

  pub crossings_at_near : (ss : List Segment) (h : Point) → IsTrue (in_tile pr t h)
      → crossings_at ss h ≡ crossings_at (near pr t ss) h
  crossings_at_near ss h i =
      sym (count_kept (in_tile pr t) (point_eq h) (at_pixel h i) (crossing_pixels ss))
      ∙ ap (count_by (point_eq h)) (crossings_near ss)
      ∙ count_kept (in_tile pr t) (point_eq h) (at_pixel h i) (crossing_pixels (near pr t ss))

  pub vertex_near : (ss : List Segment) (h : Point) → IsTrue (in_tile pr t h) → vertex_at ss h ≡ vertex_at (near pr t ss) h
  vertex_near ss h i =
      let ends = ends_at_near ss h i in
      let crossings = crossings_at_near ss h i in
      λ k. record { at = h; ends = ends k; crossings = crossings k }

  -- the hot pixels of the tile are the set of the ends and the crossings that lie in it
  pub hot_is_of_tile : (ss : List Segment)
      → hot_in pr t ss
      ≡ rising point_cmp (filter (in_tile pr t) (end_points ss) ++ filter (in_tile pr t) (crossing_pixels ss))
  hot_is_of_tile ss =
      filter_rising point_total (in_tile pr t) (λ g h e. ap (in_tile pr t) (point_exact g h e))
      (end_points ss ++ crossing_pixels ss)
      ∙ ap (rising point_cmp) (filter-append (in_tile pr t) (end_points ss) (crossing_pixels ss))

  pub hot_near : (ss : List Segment) → hot_in pr t ss ≡ hot_in pr t (near pr t ss)
  hot_near ss =
      hot_is_of_tile ss
      ∙ (λ i. rising point_cmp (ends_near ss i ++ crossings_near ss i))
      ∙ sym (hot_is_of_tile (near pr t ss))

  -- ---- the part

  pub near_twice : (ss : List Segment) → near pr t (near pr t ss) ≡ near pr t ss
  near_twice ss = filter_twice (meets_tile pr t) ss

  -- the pixels of a route that lie in the tile are made by the segments that meet the tile
  pub route_near : (ss : List Segment) (s : Segment)
      → filter (in_tile pr t) (route ss s) ≡ filter (in_tile pr t) (route (near pr t ss) s)
  route_near ss s =
      route_here pr t ss s ∙ ap (λ hs. route_among hs s) (hot_near ss) ∙ sym (route_here pr t (near pr t ss) s)

  -- a segment with those pixels of its route that lie in the tile
  abbrev pub routed_here : List Segment → Segment → RoutedSegment
  routed_here ss s = record { ur = s; points = filter (in_tile pr t) (route ss s) }

  routes_near : (us ss : List Segment) → map (routed_here ss) us ≡ map (routed_here (near pr t ss)) us
  routes_near us ss = λ i. map (λ (s : Segment). with_points s (route_near ss s i)) us
    where
      with_points : Segment → List Point → RoutedSegment
      with_points s hs = record { ur = s; points = hs }

  -- the law of locality
  pub part_is_local : (ss : List Segment) → part_of pr t ss ≡ part_of pr t (near pr t ss)
  part_is_local ss =
      let routes =
      routes_near (near pr t ss) ss
      ∙ ap (map (routed_here (near pr t ss))) (sym (near_twice ss)) in
      let vertices =
      map_kept (vertex_at ss) (vertex_at (near pr t ss)) (in_tile pr t) (vertex_near ss) (hot ss)
      ∙ ap (map (vertex_at (near pr t ss))) (hot_near ss) in
      λ i. record { routes = routes i; vertices = vertices i }

  -- two live lists of which the same segments meet the tile have one part in it
  pub part_by_near : (ss us : List Segment) → near pr t ss ≡ near pr t us → part_of pr t ss ≡ part_of pr t us
  part_by_near ss us e = part_is_local ss ∙ ap (part_of pr t) e ∙ sym (part_is_local us)

pub parts_are_local : (pr : Sizes) → 0 < pr.side → (ss : List Segment) → PartsAreLocal pr ss
parts_are_local pr some ss =
    record { by_near = λ t. part_is_local pr some t ss; same = λ us t e. part_by_near pr some t ss us e }
