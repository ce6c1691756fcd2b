-- The rounding put together: routes through the hot pixels, and the bundles of their named edges.
-- A route has no edge twice, so each segment gives its name once to each edge of its route.
use Rattle.std.proofs.Common.{◌≡◌, refl, ap, sym, ◌∙◌, Bool, true, false, cond, ◌||◌, List, [], ◌∷◌, ◌++◌, map, filter, flat_map, slice_index_or}
use Rattle.std.specs.Ordering.{eq_by_cmp, is_eq}
use Rattle.std.specs.List.{All, AllByRecursion, IsDistinct, list_any}
use Rattle.std.proofs.lemmas.List.{map-append}
use Rattle.std.proofs.lemmas.List.Concat.{flat_map-cons}
use Rattle.std.proofs.lemmas.List.Elements.{All-map}
use Rattle.std.proofs.lemmas.Map.Keys.{IsDistinct-from_sorted}
use Rattle.std.proofs.lemmas.Map.Views.{tells_apart}
use Rattle.std.proofs.lemmas.Cmp.{tied_itself}
use Rattle.grid_core.specs.declared.point.Point.{Point}
use Rattle.grid_core.specs.declared.point.Vertex.{Vertex}
use Rattle.grid_core.specs.Vector.{point_eq}
use Rattle.grid_core.specs.Name.{Label}
use Rattle.grid_core.specs.Segment.{Segment}
use Rattle.grid_core.specs.Edge.{EdgeEnds, edge_cmp, edge_eq}
use Rattle.grid_core.specs.Rounding.{RoutedSegment, BundledEdge, SnapRounding, along_cmp, hot, vertex_at, route, edges_along, edges, bundle, rounding_of}
use Rattle.grid_core.specs.Meets.{meets_pixel_of}
use Rattle.grid_core.specs.RisingSet.{rising}
use Rattle.grid_core.proofs.Order.{point_exact, edge_exact}
use Rattle.grid_core.proofs.RisingMembers.{sorted_rising}
use Rattle.grid_core.proofs.RouteOrder.{along_total}
use Rattle.round_plain.specs.Routes.{pixels, route_among, routes_among}
use Rattle.round_plain.specs.Bundles.{named_edges, named_edges_of, names_at, bundles}
use Rattle.round_plain.proofs.RouteEdges.{edges_distinct}
use Rattle.round_plain.proofs.Gathered.{edges_of, names_at-append}

-- ---- no point stands in a route twice

same_point : (s : Segment) (g h : Point) → point_eq g h ≡ true → eq_by_cmp (along_cmp s) g h ≡ true
same_point s g h e =
    ap is_eq (ap (along_cmp s g) (sym (tells_apart point_exact g h e))
    ∙ tied_itself (along_total s) g)

apart_by_point : (s : Segment) (g : Point) (hs : List Point)
    → AllByRecursion (λ h. eq_by_cmp (along_cmp s) g h ≡ false) hs
    → AllByRecursion (λ h. point_eq g h ≡ false) hs
apart_by_point s g [] k = tt
apart_by_point s g (h ∷ hs) k = (by (point_eq g h) refl, apart_by_point s g hs k.1)
  where
    by : (b : Bool) → point_eq g h ≡ b → b ≡ false
    by true e = sym (same_point s g h e) ∙ k.0
    by false e = refl

distinct_by_point : (s : Segment) (hs : List Point) → IsDistinct (eq_by_cmp (along_cmp s)) hs
    → IsDistinct point_eq hs
unfolding IsDistinct
distinct_by_point s [] k = tt
distinct_by_point s (h ∷ hs) k = (apart_by_point s h hs k.0, distinct_by_point s hs k.1)

-- no point stands in a route twice
pub route_distinct : (hs : List Point) (s : Segment) → IsDistinct point_eq (route_among hs s)
route_distinct hs s =
    distinct_by_point s (route_among hs s)
    (IsDistinct-from_sorted (along_cmp s) (route_among hs s)
    (sorted_rising (along_total s) (filter (meets_pixel_of s) hs)))

-- no point stands in one of the routes twice
pub routes_distinct : (hs : List Point) (ss : List Segment)
    → All (λ r. IsDistinct point_eq r.points) (routes_among hs ss)
routes_distinct hs ss =
    All-map (λ (r : RoutedSegment). IsDistinct point_eq r.points)
    (λ s. record { ur = s; points = route_among hs s }) ss
    (λ k d lt. route_distinct hs (slice_index_or ss k d))

-- ---- the named edges of one route

none_named : (e f : EdgeEnds) (n : Label) (fs : List EdgeEnds) → e ≡ f
    → AllByRecursion (λ g. edge_eq f g ≡ false) fs → names_at (map (λ g. (g, n)) fs) e ≡ []
none_named e f n [] same h = refl
none_named e f n (g ∷ gs) same h =
    ap (λ (b : Bool). map (λ (p : EdgeEnds × Label). p.1)
    (cond b ((g, n) ∷ filter (λ (p : EdgeEnds × Label). edge_eq e p.0) (map (λ g. (g, n)) gs))
    (filter (λ (p : EdgeEnds × Label). edge_eq e p.0) (map (λ g. (g, n)) gs))))
    (ap (λ (x : EdgeEnds). edge_eq x g) same ∙ h.0)
    ∙ none_named e f n gs same h.1

one_name : (e : EdgeEnds) (n : Label) (es : List EdgeEnds) → IsDistinct edge_eq es
    → names_at (map (λ f. (f, n)) es) e ≡ cond (list_any (edge_eq e) es) (n ∷ []) []
unfolding IsDistinct
one_name e n [] h = refl
one_name e n (f ∷ fs) h = by (edge_eq e f) refl (one_name e n fs h.1)
  where
    by : (b : Bool) → edge_eq e f ≡ b → names_at (map (λ g. (g, n)) fs) e
        ≡ cond (list_any (edge_eq e) fs) (n ∷ []) []
        → map (λ (p : EdgeEnds × Label). p.1)
        (cond b ((f, n) ∷ filter (λ (p : EdgeEnds × Label). edge_eq e p.0)
        (map (λ g. (g, n)) fs)) (filter (λ (p : EdgeEnds × Label). edge_eq e p.0)
        (map (λ g. (g, n)) fs)))
        ≡ cond (b || list_any (edge_eq e) fs) (n ∷ []) []
    by true same ih = ap (λ (ns : List Label). n ∷ ns)
        (none_named e f n fs (tells_apart edge_exact e f same) h.0)
    by false same ih = ih

-- ---- the named edges of all routes

module _ (r : Segment → List Point) (distinct : (s : Segment) → IsDistinct point_eq (r s)) where
  abbrev routed : List Segment → List RoutedSegment
  routed us = map (λ s. record { ur = s; points = r s }) us

  names_all : (e : EdgeEnds) (us : List Segment)
      → names_at (named_edges (routed us)) e ≡ map (λ (s : Segment). s.name)
      (filter (λ s. list_any (edge_eq e) (edges_along (r s))) us)
  names_all e [] = refl
  names_all e (u ∷ us) =
      ap (λ (ps : List (EdgeEnds × Label)). names_at ps e)
      (flat_map-cons named_edges_of (record { ur = u; points = r u }) (routed us))
      ∙ names_at-append (named_edges_of (record { ur = u; points = r u })) (named_edges (routed us)) e
      ∙ (λ i. one_name e u.name (edges_along (r u)) (edges_distinct (r u) (distinct u)) i
      ++ names_all e us i)
      ∙ by (list_any (edge_eq e) (edges_along (r u)))
    where
      by : (b : Bool) → cond b (u.name ∷ []) [] ++ map (λ (s : Segment). s.name)
          (filter (λ s. list_any (edge_eq e) (edges_along (r s))) us)
          ≡ map (λ (s : Segment). s.name)
          (cond b (u ∷ filter (λ s. list_any (edge_eq e) (edges_along (r s))) us)
          (filter (λ s. list_any (edge_eq e) (edges_along (r s))) us))
      by true = refl
      by false = refl

  edges_of_one : (n : Label) (es : List EdgeEnds) → edges_of (map (λ e. (e, n)) es) ≡ es
  edges_of_one n [] = refl
  edges_of_one n (e ∷ es) = ap (λ (fs : List EdgeEnds). e ∷ fs) (edges_of_one n es)

  edges_of_all : (us : List Segment) → edges_of (named_edges (routed us))
      ≡ flat_map (λ s. edges_along (r s)) us
  edges_of_all [] = refl
  edges_of_all (u ∷ us) =
      ap edges_of (flat_map-cons named_edges_of (record { ur = u; points = r u }) (routed us))
      ∙ map-append (λ (p : EdgeEnds × Label). p.0) (named_edges_of (record { ur = u; points = r u }))
      (named_edges (routed us))
      ∙ (λ i. edges_of_one u.name (edges_along (r u)) i ++ edges_of_all us i)
      ∙ sym (flat_map-cons (λ (s : Segment). edges_along (r s)) u us)

bundles_are : (ss : List Segment) → bundles (named_edges (routes_among (hot ss) ss))
    ≡ map (λ e. record { edge = e; names = bundle ss e }) (edges ss)
bundles_are ss = λ i. map
    (λ e. record { edge = e; names = names_all (route ss) (route_distinct (hot ss)) e ss i })
    (rising edge_cmp (edges_of_all (route ss) (route_distinct (hot ss)) ss i))

pixels_at : (ss : List Segment) (hs : List Point) → pixels (map (vertex_at ss) hs) ≡ hs
pixels_at ss [] = refl
pixels_at ss (h ∷ hs) = ap (λ (gs : List Point). h ∷ gs) (pixels_at ss hs)

-- the parts are those of the rounding
pub rounded : (ss : List Segment) (vs : List Vertex) (rs : List RoutedSegment)
    (es : List BundledEdge) (whole : SnapRounding)
    → vs ≡ map (vertex_at ss) (hot ss) → rs ≡ routes_among (pixels vs) ss → es ≡ bundles (named_edges rs)
    → whole ≡ record { routes = rs; vertices = vs; edges = es } → whole ≡ rounding_of ss
rounded ss vs rs es whole hv hr he hw =
    let routes = hr ∙ ap (λ (hs : List Point). routes_among hs ss) (ap pixels hv
    ∙ pixels_at ss (hot ss)) in
    let edges = he ∙ ap (λ (rs : List RoutedSegment). bundles (named_edges rs)) routes
    ∙ bundles_are ss in
    hw ∙ (λ i. record { routes = routes i; vertices = hv i; edges = edges i })
