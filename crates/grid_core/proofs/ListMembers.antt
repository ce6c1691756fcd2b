-- The members of a list that was counted, filtered, mapped or joined.
use Rattle.std.proofs.Common.{◌≡◌, refl, sym, ap, subst, ◌∙◌, ℕ, zero, suc, ◌<◌, arith, Bool, true}
use Rattle.std.proofs.Common.{false, ◌||◌, cond, true≢false, ◌↔◌, ◌⊎◌, inl, inr, List, [], ◌∷◌}
use Rattle.std.proofs.Common.{◌++◌, length, map, filter, flat_map, count_by, Contains, Any, IsTrue}
use Rattle.std.proofs.Common.{slice_index_or, Ordering, Less}
use Rattle.std.specs.List.{AllByRecursion, list_any}
use Rattle.std.specs.List.Sorted.{IsStrictlySortedBy}
use Rattle.std.proofs.lemmas.List.Elements.{Contains-append_left, Contains-append_right, Contains-append_cases}
use Rattle.std.proofs.lemmas.List.Sums.{length-filter}

module _ {X : Type 0} where
  -- ---- counts

  kept_if_any : (p : X → Bool) (xs : List X) → list_any p xs ≡ true → 0 < length (filter p xs)
  kept_if_any p [] h = absurd (true≢false (sym h))
  kept_if_any p (x ∷ xs) h = by (kept_if_any p xs) (p x) h
    where
      by : (list_any p xs ≡ true → 0 < length (filter p xs)) → (b : Bool)
          → (b || list_any p xs) ≡ true → 0 < length (cond b (x ∷ filter p xs) (filter p xs))
      by rest true e = omega arith
      by rest false e = rest e

  any_if_kept : (p : X → Bool) (xs : List X) → 0 < length (filter p xs) → list_any p xs ≡ true
  any_if_kept p [] h = absurd (omega (arith, h))
  any_if_kept p (x ∷ xs) h = by (any_if_kept p xs) (p x) h
    where
      by : (0 < length (filter p xs) → list_any p xs ≡ true) → (b : Bool)
          → 0 < length (cond b (x ∷ filter p xs) (filter p xs)) → (b || list_any p xs) ≡ true
      by rest true e = refl
      by rest false e = rest e

  -- a count is above 0 where something is counted
  pub counted_iff : (p : X → Bool) (xs : List X) → (list_any p xs ≡ true) ↔ (0 < count_by p xs)
  counted_iff p xs = (
    λ h. subst (λ n. 0 < n) (length-filter p xs) (kept_if_any p xs h),
    λ h. any_if_kept p xs (subst (λ n. 0 < n) (sym (length-filter p xs)) h),
  )

  -- ---- one element more

  -- the first element, a later one, and which of the two
  pub contains_first : (x : X) (xs : List X) → Contains (x ∷ xs) x
  contains_first x xs = let fits : 0 < length (x ∷ xs) = omega arith in (0, fits, refl)

  pub contains_later : (x : X) (xs : List X) (y : X) → Contains xs y → Contains (x ∷ xs) y
  contains_later x xs y h = let fits : suc h.0 < length (x ∷ xs) = omega (arith, h.1) in (suc h.0, fits, h.2)

  pub contains_cases : (x : X) (xs : List X) (y : X) → Contains (x ∷ xs) y → (x ≡ y) ⊎ Contains xs y
  contains_cases x xs y h = by h.0 h.1 h.2
    where
      by : (k : ℕ) → k < length (x ∷ xs) → slice_index_or (x ∷ xs) k y ≡ y → (x ≡ y) ⊎ Contains xs y
      by zero fits e = inl e
      by (suc k) fits e = let within : k < length xs = omega (arith, fits) in inr (k, within, e)

  contains_one : (x y : X) → Contains (x ∷ []) y → x ≡ y
  contains_one x y h = by h.0 h.1 h.2
    where
      by : (k : ℕ) → k < length (x ∷ []) → slice_index_or (x ∷ []) k y ≡ y → x ≡ y
      by zero fits e = e
      by (suc k) fits e = absurd (omega (arith, fits))

  any_first : (P : X → Type 0) (x : X) (xs : List X) → P x → Any P (x ∷ xs)
  any_first P x xs p = let fits : 0 < length (x ∷ xs) = omega arith in (0, x, fits, refl, p)

  any_later : (P : X → Type 0) (x : X) (xs : List X) → Any P xs → Any P (x ∷ xs)
  any_later P x xs h = let fits : suc h.0 < length (x ∷ xs) = omega (arith, h.2) in (suc h.0, h.1, fits, h.3, h.4)

  any_cases : (P : X → Type 0) (x : X) (xs : List X) → Any P (x ∷ xs) → P x ⊎ Any P xs
  any_cases P x xs h = by h.0 h.1 h.2 h.3 h.4
    where
      by : (k : ℕ) (y : X) → k < length (x ∷ xs) → slice_index_or (x ∷ xs) k y ≡ y → P y → P x ⊎ Any P xs
      by zero y fits e p = inl (subst P (sym e) p)
      by (suc k) y fits e p = let within : k < length xs = omega (arith, fits) in inr (k, y, within, e, p)

  -- ---- a filter

  kept_and_true : (p : X → Bool) (xs : List X) (y : X) → Contains (filter p xs) y → Contains xs y × IsTrue (p y)
  kept_and_true p [] y h = absurd (omega (arith, h.1))
  kept_and_true p (x ∷ xs) y h = by (kept_and_true p xs y) (p x) refl h
    where
      later : Contains xs y × IsTrue (p y) → Contains (x ∷ xs) y × IsTrue (p y)
      later k = (Contains-append_right (x ∷ []) xs y k.0, k.1)

      by : (Contains (filter p xs) y → Contains xs y × IsTrue (p y)) → (b : Bool) → p x ≡ b
          → Contains (cond b (x ∷ filter p xs) (filter p xs)) y → Contains (x ∷ xs) y × IsTrue (p y)
      by rest true e k =
          elim (Contains-append_cases (x ∷ []) (filter p xs) y k) [
            | inl one ↦ (Contains-append_left (x ∷ []) xs y one, ap p (sym (contains_one x y one)) ∙ e)
            | inr more ↦ later (rest more)
          ]
      by rest false e k = later (rest k)

  kept_if_true : (p : X → Bool) (xs : List X) (y : X) → Contains xs y → IsTrue (p y) → Contains (filter p xs) y
  kept_if_true p [] y h t = absurd (omega (arith, h.1))
  kept_if_true p (x ∷ xs) y h t = by (λ k. kept_if_true p xs y k t) (p x) refl (Contains-append_cases (x ∷ []) xs y h)
    where
      by : (Contains xs y → Contains (filter p xs) y) → (b : Bool) → p x ≡ b
          → Contains (x ∷ []) y ⊎ Contains xs y
          → Contains (cond b (x ∷ filter p xs) (filter p xs)) y
      by rest true e (inl one) = Contains-append_left (x ∷ []) (filter p xs) y one
      by rest true e (inr more) = Contains-append_right (x ∷ []) (filter p xs) y (rest more)
      by rest false e (inl one) = absurd (true≢false (sym t ∙ ap p (sym (contains_one x y one)) ∙ e))
      by rest false e (inr more) = rest more

  -- what a filter keeps are the elements at which the test is true
  pub contains_filter : (p : X → Bool) (xs : List X) (y : X) → Contains (filter p xs) y ↔ (Contains xs y × IsTrue (p y))
  contains_filter p xs y = (kept_and_true p xs y, λ h. kept_if_true p xs y h.0 h.1)

  any_kept : (P : X → Type 0) (p : X → Bool) (xs : List X) → Any P (filter p xs) → Any (λ x. IsTrue (p x) × P x) xs
  any_kept P p [] h = absurd (omega (arith, h.2))
  any_kept P p (x ∷ xs) h = by (any_kept P p xs) (p x) refl h
    where
      by : (Any P (filter p xs) → Any (λ z. IsTrue (p z) × P z) xs) → (b : Bool) → p x ≡ b
          → Any P (cond b (x ∷ filter p xs) (filter p xs)) → Any (λ z. IsTrue (p z) × P z) (x ∷ xs)
      by rest true e k =
          elim (any_cases P x (filter p xs) k) [
            | inl first ↦ any_first (λ z. IsTrue (p z) × P z) x xs (e, first)
            | inr more ↦ any_later (λ z. IsTrue (p z) × P z) x xs (rest more)
          ]
      by rest false e k = any_later (λ z. IsTrue (p z) × P z) x xs (rest k)

  any_of_kept : (P : X → Type 0) (p : X → Bool) (xs : List X) → Any (λ x. IsTrue (p x) × P x) xs → Any P (filter p xs)
  any_of_kept P p [] h = absurd (omega (arith, h.2))
  any_of_kept P p (x ∷ xs) h = by (any_of_kept P p xs) (p x) refl (any_cases (λ z. IsTrue (p z) × P z) x xs h)
    where
      by : (Any (λ z. IsTrue (p z) × P z) xs → Any P (filter p xs)) → (b : Bool) → p x ≡ b
          → (IsTrue (p x) × P x) ⊎ Any (λ z. IsTrue (p z) × P z) xs
          → Any P (cond b (x ∷ filter p xs) (filter p xs))
      by rest true e (inl first) = any_first P x (filter p xs) first.1
      by rest true e (inr more) = any_later P x (filter p xs) (rest more)
      by rest false e (inl first) = absurd (true≢false (sym first.0 ∙ e))
      by rest false e (inr more) = rest more

  -- something kept by a filter is something at which the test is true
  pub any_filter : (P : X → Type 0) (p : X → Bool) (xs : List X)
      → Any P (filter p xs) ↔ Any (λ x. IsTrue (p x) × P x) xs
  any_filter P p xs = (any_kept P p xs, any_of_kept P p xs)

  -- what holds of some element, and what follows from it
  pub any_then : (P Q : X → Type 0) (xs : List X) → ((x : X) → P x → Q x) → Any P xs → Any Q xs
  any_then P Q xs f h = (h.0, h.1, h.2, h.3, f h.1 h.4)

-- ---- lists mapped

module _ {X Y : Type 0} (f : X → Y) where
  from_one : (xs : List X) (y : Y) → Contains (map f xs) y → Any (λ x. f x ≡ y) xs
  from_one [] y h = absurd (omega (arith, h.1))
  from_one (x ∷ xs) y h = by (from_one xs y) (Contains-append_cases (f x ∷ []) (map f xs) y h)
    where
      by : (Contains (map f xs) y → Any (λ z. f z ≡ y) xs)
          → Contains (f x ∷ []) y ⊎ Contains (map f xs) y → Any (λ z. f z ≡ y) (x ∷ xs)
      by rest (inl one) = any_first (λ z. f z ≡ y) x xs (contains_one (f x) y one)
      by rest (inr more) = any_later (λ z. f z ≡ y) x xs (rest more)

  in_mapped : (xs : List X) (y : Y) → Any (λ x. f x ≡ y) xs → Contains (map f xs) y
  in_mapped [] y h = absurd (omega (arith, h.2))
  in_mapped (x ∷ xs) y h = by (in_mapped xs y) (any_cases (λ z. f z ≡ y) x xs h)
    where
      by : (Any (λ z. f z ≡ y) xs → Contains (map f xs) y) → (f x ≡ y) ⊎ Any (λ z. f z ≡ y) xs
          → Contains (f x ∷ map f xs) y
      by rest (inl e) = subst (λ v. Contains (f x ∷ map f xs) v) e (contains_first (f x) (map f xs))
      by rest (inr more) = Contains-append_right (f x ∷ []) (map f xs) y (rest more)

  -- an element of a mapped list is what some element gives
  pub contains_map : (xs : List X) (y : Y) → Contains (map f xs) y ↔ Any (λ x. f x ≡ y) xs
  contains_map xs y = (from_one xs y, in_mapped xs y)

  all_still : (P : Y → Type 0) (p : X → Bool) (xs : List X) → AllByRecursion P (map f xs)
      → AllByRecursion P (map f (filter p xs))
  all_still P p [] h = tt
  all_still P p (x ∷ xs) h = by (all_still P p xs h.1) (p x)
    where
      by : AllByRecursion P (map f (filter p xs)) → (b : Bool)
          → AllByRecursion P (map f (cond b (x ∷ filter p xs) (filter p xs)))
      by rest true = (h.0, rest)
      by rest false = rest

  -- what rises still rises where a filter takes some away
  pub sorted_filter : (R : Y → Y → Ordering) (p : X → Bool) (xs : List X)
      → IsStrictlySortedBy R (map f xs) → IsStrictlySortedBy R (map f (filter p xs))
  unfolding IsStrictlySortedBy
  sorted_filter R p [] s = tt
  sorted_filter R p (x ∷ xs) s = by (sorted_filter R p xs s.1) (p x)
    where
      by : IsStrictlySortedBy R (map f (filter p xs)) → (b : Bool)
          → IsStrictlySortedBy R (map f (cond b (x ∷ filter p xs) (filter p xs)))
      by rest true = (all_still (λ y. R (f x) y ≡ Less) p xs s.0, rest)
      by rest false = rest

-- ---- lists joined

module _ {X Y : Type 0} (f : X → List Y) (y : Y) where
  from_some : (xs : List X) → Contains (flat_map f xs) y → Any (λ x. Contains (f x) y) xs
  from_some [] h = absurd (omega (arith, h.1))
  from_some (x ∷ xs) h = by (from_some xs) (Contains-append_cases (f x) (flat_map f xs) y h)
    where
      by : (Contains (flat_map f xs) y → Any (λ z. Contains (f z) y) xs)
          → Contains (f x) y ⊎ Contains (flat_map f xs) y → Any (λ z. Contains (f z) y) (x ∷ xs)
      by rest (inl first) = any_first (λ z. Contains (f z) y) x xs first
      by rest (inr more) = any_later (λ z. Contains (f z) y) x xs (rest more)

  in_joined : (xs : List X) → Any (λ x. Contains (f x) y) xs → Contains (flat_map f xs) y
  in_joined [] h = absurd (omega (arith, h.2))
  in_joined (x ∷ xs) h = by (in_joined xs) (any_cases (λ z. Contains (f z) y) x xs h)
    where
      by : (Any (λ z. Contains (f z) y) xs → Contains (flat_map f xs) y)
          → Contains (f x) y ⊎ Any (λ z. Contains (f z) y) xs → Contains (f x ++ flat_map f xs) y
      by rest (inl first) = Contains-append_left (f x) (flat_map f xs) y first
      by rest (inr more) = Contains-append_right (f x) (flat_map f xs) y (rest more)

  -- an element of the joined lists is one of some list of them
  pub contains_flat_map : (xs : List X) → Contains (flat_map f xs) y ↔ Any (λ x. Contains (f x) y) xs
  contains_flat_map xs = (from_some xs, in_joined xs)
