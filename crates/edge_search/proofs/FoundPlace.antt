-- The place that a search finds. Few edges tell it; and the edges above and below are among all, so that they are as small.
use Rattle.std.proofs.Common.{◌≡◌, sym, subst, ℕ, Bool, true, false, List, [], ◌∷◌, filter, fold}
use Rattle.std.proofs.Common.{Option, Some, None, Ordering, is_lt}
use Rattle.std.specs.Prelude.{if◌then◌else◌, All, IfSome}
use Rattle.std.specs.List.{AllByRecursion}
use Rattle.std.proofs.lemmas.List.Elements.{All-contains, All-filter, recursion_from_All}
use Rattle.grid_core.specs.declared.point.Point.{Point}
use Rattle.grid_core.specs.declared.place.Place.TheVariants.{Between}
use Rattle.grid_core.specs.Edge.{EdgeEnds, IsEdge}
use Rattle.grid_core.specs.Places.{least_by, edge_above, edge_below, place_off_vertices, place_among}
use Rattle.place_test.specs.Nearest.{Around, first_of, edge_on}
use Rattle.place_test.specs.Reach.{IsEdgeWithin}
use Rattle.edge_search.specs.Found.{IsNearest}
use Rattle.edge_search.specs.Search.{DontCross, NoneEndsAt, IsPairWithin}
use Rattle.edge_search.proofs.Enough.{off_same}
use Rattle.edge_search.proofs.Least.{head_filled}

module _ {A : Type 0} (cmp : A → A → Ordering) (P : A → Type 0) where
  folded_is : (o : Option A) (xs : List A) → IfSome o P → AllByRecursion P xs → IfSome (fold (first_of cmp) o xs) P
  folded_is o [] h all = h
  folded_is None (x ∷ xs) h all = folded_is (Some x) xs all.0 all.1
  folded_is (Some a) (x ∷ xs) h all = folded_is (if is_lt (cmp x a) then Some x else Some a) xs (by (is_lt (cmp x a))) all.1
    where
      by : (b : Bool) → IfSome (if b then Some x else Some a) P
      by true = all.0
      by false = h

  -- what holds of all holds of the first of some
  least_is : (p : A → Bool) (xs : List A) → All P xs → IfSome (least_by cmp (filter p xs)) P
  least_is p xs all =
      subst (λ (o : Option A). IfSome o P) (sym (head_filled cmp [] (filter p xs)))
      (folded_is None (filter p xs) tt (recursion_from_All P (filter p xs) (All-filter p P xs all)))

first_same : (a b c d : Option EdgeEnds) → Between a b ≡ Between c d → a ≡ c
first_same a b c d h = cc

second_same : (a b c d : Option EdgeEnds) → Between a b ≡ Between c d → b ≡ d
second_same a b c d h = cc

pub pair_within : (n : ℕ) (es : List EdgeEnds) (q : Point) → All (IsEdgeWithin n) es → IsPairWithin n (place_among [] es q)
pair_within n es q within = by (edge_on es q)
  where
    by : (o : Option EdgeEnds) → IsPairWithin n (place_off_vertices es q o)
    by (Some e) above below h = absurd (cc h)
    by None above below h = (
      subst (λ (o : Option EdgeEnds). IfSome o (IsEdgeWithin n)) (first_same (edge_above es q) (edge_below es q) above below h)
          (least_is _ (IsEdgeWithin n) _ es within),
      subst (λ (o : Option EdgeEnds). IfSome o (IsEdgeWithin n)) (second_same (edge_above es q) (edge_below es q) above below h)
          (least_is _ (IsEdgeWithin n) _ es within),
    )

-- what is nearest among few edges that are enough is at the point's place among all
pub nearest_tells : {es : List EdgeEnds} {q : Point} {w : Around} → DontCross es → NoneEndsAt es q → (found : IsNearest es q w)
    → place_among [] found.some q ≡ place_among [] es q
nearest_tells {es} {q} apart free found =
    off_same (λ e of_e. All-contains IsEdge es e apart.ordered of_e) apart.one found.enough free
