-- What a tile tells, from the keys and steps that it keeps: the hot pixel at a point, and the pixels of a route.
use Rattle.std.proofs.Common.{◌≡◌, refl, ap, sym, ◌∙◌, Bool, true, false, is_eq, List, [], ◌∷◌, ◌++◌, map, Some, None}
use Rattle.std.specs.Prelude.{IsTrue, slice_get}
use Rattle.std.specs.List.{filter, flat_map, AllByRecursion}
use Rattle.std.specs.Ordering.{nat_cmp}
use Rattle.grid_core.specs.declared.point.Point.{Point}
use Rattle.grid_core.specs.declared.point.Vertex.{Vertex}
use Rattle.grid_core.specs.Vector.{point_eq}
use Rattle.grid_core.specs.Name.{Label, label_eq}
use Rattle.grid_core.specs.Profile.{IsProfile}
use Rattle.grid_core.specs.Segment.{Segment}
use Rattle.grid_core.specs.Rounding.{RoutedSegment, route, hot, vertex_at}
use Rattle.grid_core.specs.Tiles.{in_tile, near}
use Rattle.grid_core.proofs.Comparisons.{point_decides}
use Rattle.grid_core.proofs.Filters.{all_kept, none_kept, same_kept, map-filter}
use Rattle.hot_tile.specs.declared.spots.Spot.{Spot}
use Rattle.hot_tile.specs.Frame.{TileFrame, key_of, pixel_at, step_of}
use Rattle.tile_law.specs.Parts.{route_in}
use Rattle.hot_tile.specs.Tile.{TileContent, part_in, vertex_in, frame_of, spot_of, spots_in, path_in}
use Rattle.hot_tile.proofs.FrameLaws.{key_cmp, pixel_back, step_back}

module _ (t : TileContent) (sizes : IsProfile t.profile) where
  abbrev f : TileFrame
  f = frame_of t

  abbrev vs : List Vertex
  vs = (part_in t).vertices

  all_mapped : (hs : List Point) → AllByRecursion (λ h. IsTrue (in_tile t.profile t.id h)) hs
      → AllByRecursion (λ (v : Vertex). IsTrue (in_tile t.profile t.id v.at)) (map (vertex_at t.segments) hs)
  all_mapped [] h = tt
  all_mapped (p ∷ hs) h = (h.0, all_mapped hs h.1)

  -- the hot pixels of the part lie in the tile
  here : AllByRecursion (λ (v : Vertex). IsTrue (in_tile t.profile t.id v.at)) vs
  here =
      all_mapped (filter (in_tile t.profile t.id) (hot t.segments))
      (all_kept (λ h. IsTrue (in_tile t.profile t.id h)) (in_tile t.profile t.id) (λ h i. i) (hot t.segments))

  others : (h : Point) → in_tile t.profile t.id h ≡ false → (us : List Vertex)
      → AllByRecursion (λ (v : Vertex). IsTrue (in_tile t.profile t.id v.at)) us
      → AllByRecursion (λ (v : Vertex). point_eq v.at h ≡ false) us
  others h out [] a = tt
  others h out (v ∷ us) a = (by (point_eq v.at h) refl, others h out us a.1)
    where
      by : (b : Bool) → point_eq v.at h ≡ b → b ≡ false
      by false e = refl
      by true e =
          let same = (point_decides v.at h).0 e in
          let inside = a.0 in
          absurd (cc (inside, out, ap (in_tile t.profile t.id) same))

  -- no hot pixel lies where the tile doesn't
  pub none_outside : (h : Point) → in_tile t.profile t.id h ≡ false → vertex_in (part_in t) h ≡ None
  none_outside h out =
      ap (λ us. slice_get us 0) (none_kept (λ (v : Vertex). point_eq v.at h) vs (others h out vs here))

  module _ (h : Point) (inside : IsTrue (in_tile t.profile t.id h)) where
    tests_agree : (us : List Vertex) → AllByRecursion (λ (v : Vertex). IsTrue (in_tile t.profile t.id v.at)) us
        → AllByRecursion (λ (v : Vertex). is_eq (nat_cmp (key_of f v.at) (key_of f h)) ≡ point_eq v.at h) us
    tests_agree [] a = tt
    tests_agree (v ∷ us) a = (sym (ap is_eq (key_cmp f sizes v.at h a.0 inside)), tests_agree us a.1)

    -- the hot pixels at h as spots
    at_key : map (spot_of f) (filter (λ (v : Vertex). point_eq v.at h) vs)
        ≡ filter (λ (x : Spot). is_eq (nat_cmp x.key (key_of f h))) (spots_in t)
    at_key =
        ap (map (spot_of f)) (sym (same_kept (λ (v : Vertex). is_eq (nat_cmp (key_of f v.at) (key_of f h))) (λ v. point_eq v.at h) vs (tests_agree vs here)))
        ∙ map-filter (spot_of f) (λ (x : Spot). is_eq (nat_cmp x.key (key_of f h))) vs

    -- no spot of the key, no hot pixel
    pub none_at : filter (λ (x : Spot). is_eq (nat_cmp x.key (key_of f h))) (spots_in t) ≡ [] → vertex_in (part_in t) h ≡ None
    none_at none = by (filter (λ (v : Vertex). point_eq v.at h) vs) (at_key ∙ none)
      where
        by : (us : List Vertex) → map (spot_of f) us ≡ [] → slice_get us 0 ≡ None
        by [] e = refl
        by (u ∷ us) e = cc

    -- the spot of the key tells the hot pixel
    pub one_at : (x : Spot) → filter (λ (x : Spot). is_eq (nat_cmp x.key (key_of f h))) (spots_in t) ≡ x ∷ []
        → vertex_in (part_in t) h ≡ Some (record { at = h; ends = x.ends; crossings = x.crossings })
    one_at x one =
        by (filter (λ (v : Vertex). point_eq v.at h) vs)
        (all_kept (λ (v : Vertex). v.at ≡ h) (λ v. point_eq v.at h) (λ v e. (point_decides v.at h).0 e) vs) (at_key ∙ one)
      where
        by : (us : List Vertex) → AllByRecursion (λ (v : Vertex). v.at ≡ h) us → map (spot_of f) us ≡ x ∷ []
            → slice_get us 0 ≡ Some (record { at = h; ends = x.ends; crossings = x.crossings })
        by [] a e = absurd (cc e)
        by (u ∷ us) a e =
            let same : spot_of f u ≡ x = cc e in
            λ i. Some (record { at = a.0 i; ends = (same i).ends; crossings = (same i).crossings })

  -- ---- a route

  back : (u : Segment) (hs : List Point) → AllByRecursion (λ h. IsTrue (in_tile t.profile t.id h)) hs
      → map (λ k. pixel_at f (step_of u k)) (map (λ h. step_of u (key_of f h)) hs) ≡ hs
  back u [] a = refl
  back u (h ∷ hs) a =
      λ i. (ap (pixel_at f) (step_back u (key_of f h)) ∙ pixel_back f sizes h a.0) i ∷ back u hs a.1 i

  -- the steps of a segment give the pixels of its route in the tile
  pub steps_back : (u : Segment)
      → map (λ k. pixel_at f (step_of u k)) (path_in t u) ≡ filter (in_tile t.profile t.id) (route t.segments u)
  steps_back u =
      back u (filter (in_tile t.profile t.id) (route t.segments u))
      (all_kept (λ h. IsTrue (in_tile t.profile t.id h)) (in_tile t.profile t.id) (λ h i. i) (route t.segments u))

  abbrev routed_in : Segment → RoutedSegment
  routed_in s = record { ur = s; points = filter (in_tile t.profile t.id) (route t.segments s) }

  routes_of : near t.profile t.id t.segments ≡ t.segments → (name : Label)
      → filter (λ (r : RoutedSegment). label_eq r.ur.name name) (part_in t).routes
      ≡ map routed_in (filter (λ (s : Segment). label_eq s.name name) t.segments)
  routes_of meet name =
      ap (λ us. filter (λ (r : RoutedSegment). label_eq r.ur.name name) (map routed_in us)) meet
      ∙ sym (map-filter routed_in (λ (r : RoutedSegment). label_eq r.ur.name name) t.segments)

  -- a name that isn't there has no route
  pub no_route : near t.profile t.id t.segments ≡ t.segments → (name : Label)
      → filter (λ (s : Segment). label_eq s.name name) t.segments ≡ [] → route_in (part_in t) name ≡ []
  no_route meet name none = ap (flat_map (λ (r : RoutedSegment). r.points)) (routes_of meet name ∙ ap (map routed_in) none)

  -- the route of a name is that of its segment
  pub one_route : near t.profile t.id t.segments ≡ t.segments → (name : Label) (s : Segment)
      → filter (λ (s : Segment). label_eq s.name name) t.segments ≡ s ∷ []
      → map (λ k. pixel_at f (step_of s k)) (path_in t s) ≡ route_in (part_in t) name
  one_route meet name s one =
      steps_back s ∙ sym (append_none (filter (in_tile t.profile t.id) (route t.segments s)))
      ∙ sym (ap (flat_map (λ (r : RoutedSegment). r.points)) (routes_of meet name ∙ ap (map routed_in) one))
    where
      append_none : (hs : List Point) → hs ++ [] ≡ hs
      append_none [] = refl
      append_none (h ∷ hs) = ap (λ gs. h ∷ gs) (append_none hs)
