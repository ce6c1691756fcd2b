-- What the lists of a rounding have, each by the laws of rising lists over its order.
use Rattle.std.proofs.Common.{◌≡◌, refl, sym, ◌∙◌, ◌+◌, ◌<◌, arith, eq-zero-or-pos, Bool, true}
use Rattle.std.proofs.Common.{false, ◌||◌, true≢false, ◌↔◌, inl, inr, List, ◌++◌, filter, flat_map}
use Rattle.std.proofs.Common.{count_by, Contains, Any, IsTrue}
use Rattle.std.specs.List.{list_any}
use Rattle.std.proofs.lemmas.List.Folds.{list_any-append}
use Rattle.grid_core.specs.declared.point.Point.{Point}
use Rattle.grid_core.specs.Vector.{point_eq}
use Rattle.grid_core.specs.Segment.{Segment}
use Rattle.grid_core.specs.Name.{Label, label_cmp}
use Rattle.grid_core.specs.Edge.{EdgeEnds, edge_eq}
use Rattle.grid_core.specs.Meets.{meets_pixel_of}
use Rattle.grid_core.specs.Rounding.{end_points, crossing_pixels, ends_at, crossings_at, hot, route}
use Rattle.grid_core.specs.Rounding.{route_edges, edges, bundle}
use Rattle.grid_core.specs.Laws.{HotIsCounted, RouteIsMet, EdgesAreOfRoutes, BundleIsOfRoutes}
use Rattle.grid_core.proofs.ListMembers.{counted_iff, contains_filter, any_filter, any_then}
use Rattle.grid_core.proofs.ListMembers.{contains_map, sorted_filter, contains_flat_map}
use Rattle.grid_core.proofs.Order.{point_total, point_exact, edge_total, edge_exact}
use Rattle.grid_core.proofs.RouteOrder.{along_total, contains_by_product}
use Rattle.grid_core.proofs.RisingMembers.{sorted_rising, contains_rising, any_rising, any_iff}

-- ---- hot pixels

-- something of two lists is counted where one of the two counts is above 0
counted_in_both : (p : Point → Bool) (xs ys : List Point)
    → (list_any p (xs ++ ys) ≡ true) ↔ (0 < count_by p xs + count_by p ys)
counted_in_both p xs ys = (
  λ h. up (list_any p xs) refl (sym (list_any-append p xs ys) ∙ h),
  λ h. list_any-append p xs ys ∙ down (list_any p xs) refl h,
)
  where
    up : (b : Bool) → list_any p xs ≡ b → (b || list_any p ys) ≡ true → 0 < count_by p xs + count_by p ys
    up true e h = let first = (counted_iff p xs).0 e in omega (arith, first)
    up false e h = let second = (counted_iff p ys).0 h in omega (arith, second)

    down : (b : Bool) → list_any p xs ≡ b → 0 < count_by p xs + count_by p ys → (b || list_any p ys) ≡ true
    down true e h = refl
    down false e h =
        elim (eq-zero-or-pos (count_by p xs)) [
          | inl none ↦ (counted_iff p ys).1 (omega (arith, h, none))
          | inr some ↦ absurd (true≢false (sym ((counted_iff p xs).1 some) ∙ e))
        ]

pub hot_is_counted : (ss : List Segment) → HotIsCounted ss
hot_is_counted ss =
    record {
      counted = λ h. (
        λ k. (in_both h).0 (sym (any_hot h) ∙ (any_iff point_total point_exact h (hot ss)).1 k),
        λ k. (any_iff point_total point_exact h (hot ss)).0 (any_hot h ∙ (in_both h).1 k),
      );
      in_order = sorted_rising point_total (end_points ss ++ crossing_pixels ss);
    }
  where
    in_both : (h : Point)
        → (list_any (point_eq h) (end_points ss ++ crossing_pixels ss) ≡ true)
        ↔ (0 < ends_at ss h + crossings_at ss h)
    in_both h = counted_in_both (point_eq h) (end_points ss) (crossing_pixels ss)

    any_hot : (h : Point) → list_any (point_eq h) (hot ss) ≡ list_any (point_eq h) (end_points ss ++ crossing_pixels ss)
    any_hot h = any_rising point_total h (end_points ss ++ crossing_pixels ss)

-- ---- routes and edges

pub route_is_met : (ss : List Segment) (s : Segment) → RouteIsMet ss s
route_is_met ss s =
    record {
      met = λ h. (λ k. (kept h).0 ((same h).0 k), λ k. (same h).1 ((kept h).1 k));
      in_order = sorted_rising (along_total s) (filter (meets_pixel_of s) (hot ss));
    }
  where
    same : (h : Point) → Contains (route ss s) h ↔ Contains (filter (meets_pixel_of s) (hot ss)) h
    same h = contains_by_product s (hot ss) h

    kept : (h : Point)
        → Contains (filter (meets_pixel_of s) (hot ss)) h
        ↔ (Contains (hot ss) h × IsTrue (meets_pixel_of s h))
    kept h = contains_filter (meets_pixel_of s) (hot ss) h

pub edges_are_of_routes : (ss : List Segment) → EdgesAreOfRoutes ss
edges_are_of_routes ss =
    record {
      of_routes = λ e. (λ k. (joined e).0 ((same e).0 k), λ k. (same e).1 ((joined e).1 k));
      in_order = sorted_rising edge_total (flat_map (route_edges ss) ss);
    }
  where
    same : (e : EdgeEnds) → Contains (edges ss) e ↔ Contains (flat_map (route_edges ss) ss) e
    same e = contains_rising edge_total edge_exact (flat_map (route_edges ss) ss) e

    joined : (e : EdgeEnds) → Contains (flat_map (route_edges ss) ss) e ↔ Any (λ s. Contains (route_edges ss s) e) ss
    joined e = contains_flat_map (route_edges ss) e ss

-- ---- bundles

pub bundle_is_of_routes : (ss : List Segment) (e : EdgeEnds) → BundleIsOfRoutes ss e
bundle_is_of_routes ss e =
    record {
      of_routes = λ name. (
        λ k. any_then _ _ ss (λ s h. (h.1, (iff s).0 h.0)) ((kept name).0 ((named name).0 k)),
        λ k. (named name).1 ((kept name).1 (any_then _ _ ss (λ s h. ((iff s).1 h.1, h.0)) k)),
      );
      in_order = sorted_filter (λ s. s.name) label_cmp has ss;
    }
  where
    has : Segment → Bool
    has s = list_any (edge_eq e) (route_edges ss s)

    iff : (s : Segment) → IsTrue (has s) ↔ Contains (route_edges ss s) e
    iff s = any_iff edge_total edge_exact e (route_edges ss s)

    named : (name : Label) → Contains (bundle ss e) name ↔ Any (λ s. s.name ≡ name) (filter has ss)
    named name = contains_map (λ s. s.name) (filter has ss) name

    kept : (name : Label) → Any (λ s. s.name ≡ name) (filter has ss) ↔ Any (λ s. IsTrue (has s) × (s.name ≡ name)) ss
    kept name = any_filter (λ s. s.name ≡ name) has ss
