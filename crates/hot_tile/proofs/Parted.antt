-- Where a list in order is divided by a key: what is below stands before, and all else behind.
use Rattle.std.proofs.Common.{◌≡◌, refl, ap, sym, ◌∙◌, subst, ℕ, zero, suc, ◌<◌, ◌≤◌, arith, Bool, true, false, cond, Ordering, Less, is_lt, List, [], ◌∷◌, map, length, get_or, take, drop}
use Rattle.std.specs.Prelude.{not, ◌⊎◌}
use Rattle.std.proofs.Common.{inl, inr}
use Rattle.std.specs.Cmp.{IsTotalOrder}
use Rattle.std.specs.List.{filter, AllByRecursion}
use Rattle.std.specs.List.Sorted.{IsStrictlySortedBy, IsPartitionedBy, IsPartitionPoint}
use Rattle.std.proofs.lemmas.List.{get_or-map, length-map}
use Rattle.std.proofs.lemmas.List.Elements.{recursion_from_All, All-from_all_within}
use Rattle.std.proofs.lemmas.Map.Keys.{Less-from_sorted}
use Rattle.grid_core.proofs.Comparisons.{is_less}
use Rattle.grid_core.proofs.Filters.{none_kept, every_kept}

module _ {X K : Type 0} (R : K → K → Ordering) (key : X → K) (p : X → Bool)
    (lesser_too : (x y : X) → R (key x) (key y) ≡ Less → p y ≡ true → p x ≡ true) where
  -- what stands before something that passes a test passes it, where all lesser things do
  pub parted : (xs : List X) → IsStrictlySortedBy R (map key xs) → IsPartitionedBy p xs
  parted xs s i j d le lt passes = by (cases i j le)
    where
      cases : (i j : ℕ) → i ≤ j → (i ≡ j) ⊎ (i < j)
      cases i j le = grind arith

      by : (i ≡ j) ⊎ (i < j) → p (get_or xs i d) ≡ true
      by (inl e) = subst (λ k. p (get_or xs k d) ≡ true) (sym e) passes
      by (inr less) =
          let within : j < length (map key xs) = subst (λ k. j < k) (sym (length-map xs key)) lt in
          let first = Less-from_sorted R (map key xs) i j (key d) s less within in
          let step : R (key (get_or xs i d)) (key (get_or xs j d)) ≡ Less =
          (λ k. R (sym (get_or-map key xs i d (key d) (omega (arith, less, lt))) k) (sym (get_or-map key xs j d (key d) lt) k)) ∙ first in
          lesser_too (get_or xs i d) (get_or xs j d) step passes

-- what stands before something below is below
pub parted_by : {X K : Type 0} {R : K → K → Ordering} (o : IsTotalOrder R) (key : X → K) (n : K) (xs : List X)
    → IsStrictlySortedBy R (map key xs) → IsPartitionedBy (λ x. is_lt (R (key x) n)) xs
parted_by {R} o key n =
    parted R key (λ x. is_lt (R (key x) n)) (λ x y less below. ap is_lt (o.trans (key x) (key y) n less (is_less (R (key y) n) below)))

-- the parts before and behind an index are what passes a test and what doesn't
pub parts : {X : Type 0} (p : X → Bool) (xs : List X) (i : ℕ) → IsPartitionPoint (λ x. p x ≡ true) (λ x. p x ≡ false) xs i
    → (take i xs ≡ filter p xs) × (drop i xs ≡ filter (λ x. not (p x)) xs)
parts p [] zero h = (refl, refl)
parts p [] (suc i) h = (refl, refl)
parts p (x ∷ xs) zero h =
    let none = recursion_from_All (λ y. p y ≡ false) (x ∷ xs) (All-from_all_within (λ y. p y ≡ false) (x ∷ xs) h.1) in
    (sym (none_kept p (x ∷ xs) none), sym (every_kept (λ y. not (p y)) (x ∷ xs) (turned (x ∷ xs) none)))
  where
    turned : (ys : List _) → AllByRecursion (λ y. p y ≡ false) ys → AllByRecursion (λ y. not (p y) ≡ true) ys
    turned [] h = tt
    turned (y ∷ ys) h = (ap not h.0, turned ys h.1)
parts p (x ∷ xs) (suc i) h =
    let first : p x ≡ true = h.0 0 x (omega arith) (omega arith) in
    let rest = parts p xs i (
      λ k d low high. h.0 (suc k) d (omega arith) (omega (arith, high)),
      λ k d low high. h.1 (suc k) d (omega (arith, low)) (omega (arith, high)),
    ) in (
      ap (λ ys. x ∷ ys) rest.0 ∙ sym (ap (λ b. cond b (x ∷ filter p xs) (filter p xs)) first),
      rest.1 ∙ sym (ap (λ b. cond (not b) (x ∷ filter (λ y. not (p y)) xs) (filter (λ y. not (p y)) xs)) first),
    )
