-- Lists made of other lists and then filtered: elements that give nothing that is kept may be left
-- out before. By induction on the list.

use Rattle.std.proofs.Common.{◌≡◌, refl, ap, sym, ◌∙◌, Bool, true, false, cond}
use Rattle.std.proofs.Common.{List, [], ◌∷◌, ◌++◌, length, map, filter, flat_map, count_by, Some, None}
use Rattle.std.specs.Prelude.{filter_map, Option}
use Rattle.std.specs.List.{cons_option}
use Rattle.std.proofs.lemmas.List.Elements.{filter-append}
use Rattle.std.proofs.lemmas.List.Sums.{length-filter}
use Rattle.grid_core.proofs.Filters.{filter_within}

-- to keep once more what was kept changes nothing
pub filter_twice : {X : Type 0} (p : X → Bool) (xs : List X) → filter p (filter p xs) ≡ filter p xs
filter_twice p xs = filter_within p p (λ x h. h) xs

-- a count of what all passes a filter counts as much after it
pub count_kept : {X : Type 0} (p q : X → Bool) → ((x : X) → q x ≡ true → p x ≡ true) → (xs : List X)
    → count_by q (filter p xs) ≡ count_by q xs
count_kept p q h xs =
    sym (length-filter q (filter p xs)) ∙ ap length (filter_within p q h xs) ∙ length-filter q xs

-- two functions that agree on what is kept
pub map_kept : {X Y : Type 0} (f g : X → Y) (p : X → Bool) → ((x : X) → p x ≡ true → f x ≡ g x) → (xs : List X)
    → map f (filter p xs) ≡ map g (filter p xs)
map_kept f g p h [] = refl
map_kept f g p h (x ∷ xs) = by (map_kept f g p h xs) (p x) refl
  where
    by : map f (filter p xs) ≡ map g (filter p xs) → (b : Bool) → p x ≡ b
        → map f (cond b (x ∷ filter p xs) (filter p xs)) ≡ map g (cond b (x ∷ filter p xs) (filter p xs))
    by rest true e = λ i. h x e i ∷ rest i
    by rest false e = rest

module _ {X Y : Type 0} (p : Y → Bool) where
  -- ---- lists joined

  -- elements of which nothing is kept may be left out
  pub kept_of_joined : (f : X → List Y) (q : X → Bool) → ((x : X) → q x ≡ false → filter p (f x) ≡ []) → (xs : List X)
      → filter p (flat_map f xs) ≡ filter p (flat_map f (filter q xs))
  kept_of_joined f q h [] = refl
  kept_of_joined f q h (x ∷ xs) = by (kept_of_joined f q h xs) (q x) refl
    where
      by : filter p (flat_map f xs) ≡ filter p (flat_map f (filter q xs)) → (b : Bool) → q x ≡ b
          → filter p (f x ++ flat_map f xs) ≡ filter p (flat_map f (cond b (x ∷ filter q xs) (filter q xs)))
      by rest true e =
          filter-append p (f x) (flat_map f xs) ∙ ap (λ ys. filter p (f x) ++ ys) rest
          ∙ sym (filter-append p (f x) (flat_map f (filter q xs)))
      by rest false e =
          filter-append p (f x) (flat_map f xs) ∙ ap (λ ys. ys ++ filter p (flat_map f xs)) (h x e) ∙ rest

  -- ---- what a function finds

  -- nothing is kept where nothing that is found passes
  pub none_of_found : (f : X → Option Y) → ((x : X) (y : Y) → f x ≡ Some y → p y ≡ false) → (xs : List X)
      → filter p (filter_map f xs) ≡ []
  none_of_found f h [] = refl
  none_of_found f h (x ∷ xs) = by (none_of_found f h xs) (f x) refl
    where
      by : filter p (filter_map f xs) ≡ [] → (o : Option Y) → f x ≡ o
          → filter p (cons_option o (filter_map f xs)) ≡ []
      by rest None e = rest
      by rest (Some y) e =
          ap (λ b. cond b (y ∷ filter p (filter_map f xs)) (filter p (filter_map f xs))) (h x y e) ∙ rest

  -- elements that find nothing that is kept may be left out
  pub kept_of_found : (f : X → Option Y) (q : X → Bool)
      → ((x : X) (y : Y) → q x ≡ false → f x ≡ Some y → p y ≡ false) → (xs : List X)
      → filter p (filter_map f xs) ≡ filter p (filter_map f (filter q xs))
  kept_of_found f q h [] = refl
  kept_of_found f q h (x ∷ xs) = by (kept_of_found f q h xs) (q x) refl (f x) refl
    where
      by : filter p (filter_map f xs) ≡ filter p (filter_map f (filter q xs)) → (b : Bool) → q x ≡ b
          → (o : Option Y) → f x ≡ o
          → filter p (cons_option o (filter_map f xs))
          ≡ filter p (filter_map f (cond b (x ∷ filter q xs) (filter q xs)))
      by rest true e None g = rest ∙ sym (ap (λ o. filter p (cons_option o (filter_map f (filter q xs)))) g)
      by rest true e (Some y) g =
          (λ i. cond (p y) (y ∷ rest i) (rest i))
          ∙ sym (ap (λ o. filter p (cons_option o (filter_map f (filter q xs)))) g)
      by rest false e None g = rest
      by rest false e (Some y) g =
          ap (λ b. cond b (y ∷ filter p (filter_map f xs)) (filter p (filter_map f xs))) (h x y e g) ∙ rest
