-- A rising list has the members of the list that it is made of, in order, each once.
-- The order is any total order in which only equal members are tied. By induction on the list: to insert a member keeps
-- the order, and adds that member and no other.
use Rattle.std.proofs.Common.{◌≡◌, refl, sym, ap, ◌∙◌, Bool, true, false, ◌||◌, ◌↔◌, List, [], ◌∷◌}
use Rattle.std.proofs.Common.{fold, Contains, Ordering, Less, Equal, Greater, is_eq}
use Rattle.std.specs.BTreeSet.{insert_key}
use Rattle.std.specs.Cmp.{IsTotalOrder, both_ways}
use Rattle.std.specs.List.{AllByRecursion, list_any}
use Rattle.std.specs.List.Sorted.{IsStrictlySortedBy}
use Rattle.std.specs.Ordering.{eq_by_cmp, match_ordering, ordering_reverse}
use Rattle.std.proofs.Math.Bool.{or-false}
use Rattle.std.proofs.lemmas.Cmp.{alike_right, eq_by_cmp_equiv}
use Rattle.std.proofs.lemmas.Map.Lookups.{CmpEqualImpliesEq}
use Rattle.std.proofs.lemmas.Map.Views.{Contains-from_any, list_any-from_Contains, tells_apart}
use Rattle.grid_core.specs.RisingSet.{rising}
use Rattle.grid_core.proofs.SortedLists.{less_below, or_swapped, sorted_same}

or_twice : (a b : Bool) → (a || b) ≡ (a || (a || b))
or_twice true b = refl
or_twice false b = refl

or_turn : (a b c : Bool) → ((a || b) || c) ≡ (b || (a || c))
or_turn true true c = refl
or_turn true false c = refl
or_turn false b c = refl

module _ {K : Type 0} {R : K → K → Ordering} (o : IsTotalOrder R) where
  -- ---- order

  -- what holds of a member and of a list holds of the list with the member
  pub all_inserted : (P : K → Type 0) (k : K) (ks : List K) → P k → AllByRecursion P ks
      → AllByRecursion P (insert_key R ks k)
  all_inserted P k [] p h = (p, tt)
  all_inserted P k (x ∷ xs) p h = by (all_inserted P k xs p h.1) (R k x)
    where
      by : AllByRecursion P (insert_key R xs k) → (r : Ordering)
          → AllByRecursion P (match_ordering r (k ∷ x ∷ xs) (x ∷ xs) (x ∷ insert_key R xs k))
      by rest Less = (p, h)
      by rest Equal = h
      by rest Greater = (h.0, rest)

  -- a member more keeps the order
  pub sorted_inserted : (k : K) (ks : List K) → IsStrictlySortedBy R ks → IsStrictlySortedBy R (insert_key R ks k)
  unfolding IsStrictlySortedBy
  sorted_inserted k [] s = (tt, tt)
  sorted_inserted k (x ∷ xs) s = by (sorted_inserted k xs s.1) (R k x) refl
    where
      by : IsStrictlySortedBy R (insert_key R xs k) → (r : Ordering) → R k x ≡ r
          → IsStrictlySortedBy R (match_ordering r (k ∷ x ∷ xs) (x ∷ xs) (x ∷ insert_key R xs k))
      by rest Less e = ((e, less_below o k x xs e s.0), s)
      by rest Equal e = s
      by rest Greater e = (all_inserted (λ y. R x y ≡ Less) k xs (o.antisymm x k ∙ ap ordering_reverse e) s.0, rest)

  sorted_folded : (done ks : List K) → IsStrictlySortedBy R done → IsStrictlySortedBy R (fold (insert_key R) done ks)
  sorted_folded done [] s = s
  sorted_folded done (k ∷ ks) s = sorted_folded (insert_key R done k) ks (sorted_inserted k done s)

  -- the members stand in order, each once
  pub sorted_rising : (ks : List K) → IsStrictlySortedBy R (rising R ks)
  unfolding IsStrictlySortedBy
  sorted_rising ks = sorted_folded [] ks tt

  -- ---- members

  any_inserted : (q k : K) (ks : List K)
      → list_any (eq_by_cmp R q) (insert_key R ks k)
      ≡ (eq_by_cmp R q k || list_any (eq_by_cmp R q) ks)
  any_inserted q k [] = refl
  any_inserted q k (x ∷ xs) = by (any_inserted q k xs) (R k x) refl
    where
      by : list_any (eq_by_cmp R q) (insert_key R xs k)
          ≡ (eq_by_cmp R q k || list_any (eq_by_cmp R q) xs)
          → (r : Ordering) → R k x ≡ r
          → list_any (eq_by_cmp R q) (match_ordering r (k ∷ x ∷ xs) (x ∷ xs)
          (x ∷ insert_key R xs k))
          ≡ (eq_by_cmp R q k || (eq_by_cmp R q x || list_any (eq_by_cmp R q) xs))
      by rest Less e = refl
      by rest Equal e =
          or_twice (eq_by_cmp R q x) (list_any (eq_by_cmp R q) xs)
          ∙ ap (λ r. is_eq r || (eq_by_cmp R q x || list_any (eq_by_cmp R q) xs)) (sym (alike_right o k x q e))
      by rest Greater e =
          ap (λ b. eq_by_cmp R q x || b) rest ∙ or_swapped (eq_by_cmp R q x) (eq_by_cmp R q k)
          (list_any (eq_by_cmp R q) xs)

  any_folded : (q : K) (done ks : List K)
      → list_any (eq_by_cmp R q) (fold (insert_key R) done ks)
      ≡ (list_any (eq_by_cmp R q) done || list_any (eq_by_cmp R q) ks)
  any_folded q done [] = sym (or-false (list_any (eq_by_cmp R q) done))
  any_folded q done (k ∷ ks) =
      any_folded q (insert_key R done k) ks
      ∙ ap (λ b. b || list_any (eq_by_cmp R q) ks) (any_inserted q k done)
      ∙ or_turn (eq_by_cmp R q k) (list_any (eq_by_cmp R q) done) (list_any (eq_by_cmp R q) ks)

  -- a test for one member gives the same of both lists
  pub any_rising : (q : K) (ks : List K) → list_any (eq_by_cmp R q) (rising R ks) ≡ list_any (eq_by_cmp R q) ks
  any_rising q ks = any_folded q [] ks

  module _ (exact : CmpEqualImpliesEq R) where
    -- a test for one member is true where the list has it
    pub any_iff : (q : K) (ks : List K) → (list_any (eq_by_cmp R q) ks ≡ true) ↔ Contains ks q
    any_iff q ks = (Contains-from_any (tells_apart exact) q ks, list_any-from_Contains (eq_by_cmp_equiv o) q ks)

    -- the members are those of the list
    pub contains_rising : (ks : List K) (q : K) → Contains (rising R ks) q ↔ Contains ks q
    contains_rising ks q = (
      λ h. (any_iff q ks).0 (sym (any_rising q ks) ∙ (any_iff q (rising R ks)).1 h),
      λ h. (any_iff q (rising R ks)).0 (any_rising q ks ∙ (any_iff q ks).1 h),
    )

    -- two rising lists that have each other's members are one list
    pub same_members : (xs ys : List K) → IsStrictlySortedBy R xs → IsStrictlySortedBy R ys
        → ((q : K) → Contains xs q ↔ Contains ys q) → xs ≡ ys
    same_members xs ys s t h =
        sorted_same o exact xs ys s t
        (λ q. both_ways (list_any (eq_by_cmp R q) xs) (list_any (eq_by_cmp R q) ys)
        (λ k. (any_iff q ys).1 ((h q).0 ((any_iff q xs).0 k)))
        (λ k. (any_iff q xs).1 ((h q).1 ((any_iff q ys).0 k))))
