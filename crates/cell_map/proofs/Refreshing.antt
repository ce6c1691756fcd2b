-- Strips that are refreshed wherever two graphs differ. Elsewhere the strips of both have the same
-- members, and both are in order: so they are the same.
use Rattle.std.proofs.Common.{◌≡◌, refl, ◌∙◌, Bool, true, false, ◌↔◌, List, filter, Contains, IsTrue, Ordering, ℕ}
use Rattle.std.specs.Prelude.{ℤ, if◌then◌else◌}
use Rattle.std.specs.Cmp.{IsTotalOrder}
use Rattle.std.specs.List.{list_any}
use Rattle.std.specs.List.Sorted.{IsStrictlySortedBy}
use Rattle.std.specs.Ordering.{int_eq}
use Rattle.std.proofs.lemmas.Map.Lookups.{CmpEqualImpliesEq}
use Rattle.std.proofs.lemmas.List.Kept.{IsStrictlySortedBy-filter}
use Rattle.grid_core.proofs.Order.{point_total, point_exact, edge_total, edge_exact}
use Rattle.grid_core.proofs.ListMembers.{contains_filter}
use Rattle.grid_core.proofs.RisingMembers.{same_members}
use Rattle.planar_law.specs.PlanarEdges.{Graph, IsPlanarGraph}
use Rattle.cell_map.specs.Strips.{Strips, strip_in, strip_of_graph, meets_strip, lies_in_strip}
use Rattle.cell_map.specs.Strips.{DifferIn, AreStripsOf, AreRefreshed}

-- two rising lists have the same members among those that pass a test
same_kept : {K : Type 0} {R : K → K → Ordering} → IsTotalOrder R → CmpEqualImpliesEq R → (p : K → Bool) (xs ys : List K)
    → IsStrictlySortedBy R xs → IsStrictlySortedBy R ys → ((x : K) → IsTrue (p x) → Contains xs x ↔ Contains ys x)
    → filter p xs ≡ filter p ys
same_kept {K} {R} o exact p xs ys s t h =
    same_members o exact (filter p xs) (filter p ys)
    (IsStrictlySortedBy-filter R p xs s)
    (IsStrictlySortedBy-filter R p ys t)
    (λ x. (
      λ c. let m = (contains_filter p xs x).0 c in (contains_filter p ys x).1 ((h x m.1).0 m.0, m.1),
      λ c. let m = (contains_filter p ys x).0 c in (contains_filter p xs x).1 ((h x m.1).1 m.0, m.1),
    ))

module _ {n m : ℕ} {given : List ℤ} {g h : Graph} (of_g : IsPlanarGraph n g) (of_h : IsPlanarGraph m h)
    (differ : DifferIn given g h) where
  not_given : (k : ℤ) → list_any (λ j. int_eq j k) given ≡ false → strip_of_graph g k ≡ strip_of_graph h k
  not_given k e = λ i. record {
    edges = same_kept edge_total edge_exact (meets_strip k) g.edges h.edges of_g.edges_rise of_h.edges_rise
        (λ x t. differ.edges k x e t) i;
    vertices = same_kept point_total point_exact (lies_in_strip k) g.vertices h.vertices of_g.vertices_rise
        of_h.vertices_rise (λ x t. differ.vertices k x e t) i;
  }

  pub refreshed_are_built : (old new : Strips) → AreStripsOf g old → AreRefreshed h given old new → AreStripsOf h new
  refreshed_are_built old new was is = λ k. is k ∙ by k (list_any (λ j. int_eq j k) given) refl
    where
      by : (k : ℤ) (b : Bool) → list_any (λ j. int_eq j k) given ≡ b
          → (if b then strip_of_graph h k else strip_in old k) ≡ strip_of_graph h k
      by k true e = refl
      by k false e = was k ∙ not_given k e
