-- Filters: what all that is kept has, two filters in a row, lists without one thing; and counts of
-- what a list has and of what it doesn't have.
use Rattle.std.proofs.Common.{◌≡◌, refl, ap, sym, ◌∙◌, ℕ, ◌+◌, ◌≤◌, arith, Bool, true, false, cond}
use Rattle.std.proofs.Common.{not, ◌&&◌, ◌||◌, true≢false, List, [], ◌∷◌, ◌++◌, length, map, filter, count_by}
use Rattle.std.specs.Bool.{Decides}
use Rattle.std.specs.List.{AllByRecursion, list_any}
use Rattle.std.proofs.lemmas.Bool.{or_parts, false_from_ne_true}
use Rattle.std.proofs.lemmas.Bool.Decides.{not_from_Decides}
use Rattle.std.proofs.lemmas.List.Sums.{length-filter, sum_by-cons, count_by-le-length}

-- the images of what is kept are the images that pass
pub map-filter : {X Y : Type 0} (f : X → Y) (p : Y → Bool) (xs : List X)
    → map f (filter (λ x. p (f x)) xs) ≡ filter p (map f xs)
map-filter f p [] = refl
map-filter f p (x ∷ xs) = by (p (f x)) (map-filter f p xs)
  where
    by : (b : Bool) → map f (filter (λ x. p (f x)) xs) ≡ filter p (map f xs)
        → map f (cond b (x ∷ filter (λ x. p (f x)) xs) (filter (λ x. p (f x)) xs))
        ≡ cond b (f x ∷ filter p (map f xs)) (filter p (map f xs))
    by true rest = ap (λ ys. f x ∷ ys) rest
    by false rest = rest

-- how much a test adds to a count
abbrev pub counted : Bool → ℕ
counted b = cond b 1 0

module _ {X : Type 0} where
  -- ---- what is kept

  -- where a filter keeps those with P, all have P
  pub all_kept : (P : X → Type 0) (p : X → Bool) → ((x : X) → p x ≡ true → P x) → (xs : List X)
      → AllByRecursion P (filter p xs)
  all_kept P p h [] = tt
  all_kept P p h (x ∷ xs) = by (all_kept P p h xs) (p x) refl
    where
      by : AllByRecursion P (filter p xs) → (b : Bool) → p x ≡ b
          → AllByRecursion P (cond b (x ∷ filter p xs) (filter p xs))
      by rest true e = (h x e, rest)
      by rest false e = rest

  -- what holds of all holds of all that are kept
  pub all_of_kept : (P : X → Type 0) (p : X → Bool) (xs : List X) → AllByRecursion P xs
      → AllByRecursion P (filter p xs)
  all_of_kept P p [] h = tt
  all_of_kept P p (x ∷ xs) h = by (all_of_kept P p xs h.1) (p x)
    where
      by : AllByRecursion P (filter p xs) → (b : Bool) → AllByRecursion P (cond b (x ∷ filter p xs) (filter p xs))
      by rest true = (h.0, rest)
      by rest false = rest

  -- nothing is kept where the test is false of all, and everything where it is true of all
  pub none_kept : (p : X → Bool) (xs : List X) → AllByRecursion (λ x. p x ≡ false) xs → filter p xs ≡ []
  none_kept p [] h = refl
  none_kept p (x ∷ xs) h = ap (λ b. cond b (x ∷ filter p xs) (filter p xs)) h.0 ∙ none_kept p xs h.1

  pub every_kept : (p : X → Bool) (xs : List X) → AllByRecursion (λ x. p x ≡ true) xs → filter p xs ≡ xs
  every_kept p [] h = refl
  every_kept p (x ∷ xs) h =
      ap (λ b. cond b (x ∷ filter p xs) (filter p xs)) h.0 ∙ ap (λ ys. x ∷ ys) (every_kept p xs h.1)

  -- two tests that agree on a list keep the same of it
  pub same_kept : (p q : X → Bool) (xs : List X) → AllByRecursion (λ x. p x ≡ q x) xs → filter p xs ≡ filter q xs
  same_kept p q [] h = refl
  same_kept p q (x ∷ xs) h = λ i. cond (h.0 i) (x ∷ same_kept p q xs h.1 i) (same_kept p q xs h.1 i)

  -- ---- two filters

  -- two filters in either order
  pub filter_swapped : (p q : X → Bool) (xs : List X) → filter q (filter p xs) ≡ filter p (filter q xs)
  filter_swapped p q [] = refl
  filter_swapped p q (x ∷ xs) = by (filter_swapped p q xs) (p x) refl (q x) refl
    where
      by : filter q (filter p xs) ≡ filter p (filter q xs) → (b : Bool) → p x ≡ b → (c : Bool) → q x ≡ c
          → filter q (cond b (x ∷ filter p xs) (filter p xs)) ≡ filter p (cond c (x ∷ filter q xs) (filter q xs))
      by rest true e true f =
          ap (λ b. cond b (x ∷ filter q (filter p xs)) (filter q (filter p xs))) f ∙ ap (λ l. x ∷ l) rest
          ∙ sym (ap (λ b. cond b (x ∷ filter p (filter q xs)) (filter p (filter q xs))) e)
      by rest true e false f = ap (λ b. cond b (x ∷ filter q (filter p xs)) (filter q (filter p xs))) f ∙ rest
      by rest false e true f = rest ∙ sym (ap (λ b. cond b (x ∷ filter p (filter q xs)) (filter p (filter q xs))) e)
      by rest false e false f = rest

  -- where the second test implies the first, the first changes nothing
  pub filter_within : (p q : X → Bool) → ((x : X) → q x ≡ true → p x ≡ true) → (xs : List X)
      → filter q (filter p xs) ≡ filter q xs
  filter_within p q h [] = refl
  filter_within p q h (x ∷ xs) = by (filter_within p q h xs) (p x) refl (q x) refl
    where
      by : filter q (filter p xs) ≡ filter q xs → (b : Bool) → p x ≡ b → (c : Bool) → q x ≡ c
          → filter q (cond b (x ∷ filter p xs) (filter p xs)) ≡ cond c (x ∷ filter q xs) (filter q xs)
      by rest true e true f =
          ap (λ b. cond b (x ∷ filter q (filter p xs)) (filter q (filter p xs))) f ∙ ap (λ l. x ∷ l) rest
      by rest true e false f = ap (λ b. cond b (x ∷ filter q (filter p xs)) (filter q (filter p xs))) f ∙ rest
      by rest false e true f = absurd (true≢false (sym (h x f) ∙ e))
      by rest false e false f = rest

  -- a filter of two lists joined
  pub filter_joined : (p : X → Bool) (xs ys : List X) → filter p (xs ++ ys) ≡ filter p xs ++ filter p ys
  filter_joined p [] ys = refl
  filter_joined p (x ∷ xs) ys = by (p x) (filter_joined p xs ys)
    where
      by : (b : Bool) → filter p (xs ++ ys) ≡ filter p xs ++ filter p ys
          → cond b (x ∷ filter p (xs ++ ys)) (filter p (xs ++ ys)) ≡ cond b (x ∷ filter p xs) (filter p xs) ++ filter p ys
      by true rest = ap (λ zs. x ∷ zs) rest
      by false rest = rest

  -- a filter is no longer than its list
  pub filter_length : (p : X → Bool) (xs : List X) → length (filter p xs) ≤ length xs
  filter_length p xs = omega (arith, length-filter p xs, count_by-le-length p xs)

  -- ---- counts

  -- none of what isn't there
  pub count_none : (p : X → Bool) (xs : List X) → list_any p xs ≡ false → count_by p xs ≡ 0
  count_none p [] h = refl
  count_none p (x ∷ xs) h = by (count_none p xs) (p x) refl
    where
      by : (list_any p xs ≡ false → count_by p xs ≡ 0) → (b : Bool) → p x ≡ b → count_by p (x ∷ xs) ≡ 0
      by rest true e = absurd (true≢false (sym (ap (λ b. b || list_any p xs) e) ∙ h))
      by rest false e =
          sum_by-cons (λ y. cond (p y) 1 0) x xs
          ∙ (λ i. ap (λ b. cond b 1 0) e i + rest (sym (ap (λ b. b || list_any p xs) e) ∙ h) i)

  -- what is there counts
  pub count_some : (p : X → Bool) (xs : List X) → list_any p xs ≡ true → 1 ≤ count_by p xs
  count_some p [] h = absurd (true≢false (sym h))
  count_some p (x ∷ xs) h = by (count_some p xs) (p x) refl
    where
      by : (list_any p xs ≡ true → 1 ≤ count_by p xs) → (b : Bool) → p x ≡ b → 1 ≤ count_by p (x ∷ xs)
      by rest true e = omega (arith, sum_by-cons (λ y. cond (p y) 1 0) x xs, ap counted e)
      by rest false e =
          omega (arith, sum_by-cons (λ y. cond (p y) 1 0) x xs, rest (sym (ap (λ b. b || list_any p xs) e) ∙ h))

  -- a filter keeps no more of what is counted
  pub count_filter : (p q : X → Bool) (xs : List X) → count_by p (filter q xs) ≤ count_by p xs
  count_filter p q xs =
      omega (
        arith,
        length-filter p (filter q xs),
        ap length (filter_swapped q p xs),
        filter_length q (filter p xs),
        length-filter p xs,
      )

-- ---- a list without one thing

taken_out : (a b c : Bool) → (c ≡ true → a ≡ false) → (a || (b && not c)) ≡ ((a || b) && not c)
taken_out true b true h = absurd (true≢false (h refl))
taken_out true b false h = refl
taken_out false b c h = refl

out_again : (b c : Bool) → (b && not c) ≡ ((c || b) && not c)
out_again true true = refl
out_again true false = refl
out_again false true = refl
out_again false false = refl

module _ {V : Type 0} (same : V → V → Bool) (decides : (a b : V) → Decides (same a b) (a ≡ b)) where
  -- what is looked for, after one thing is taken out: there as before, unless it is that thing
  pub any_left : (a y : V) (bs : List V)
      → list_any (same a) (filter (λ b. not (same b y)) bs) ≡ (list_any (same a) bs && not (same a y))
  any_left a y [] = refl
  any_left a y (b ∷ bs) = by (any_left a y bs) (same b y) refl
    where
      apart : same b y ≡ false → same a y ≡ true → same a b ≡ false
      apart e t =
          ap (λ c. same c b) ((decides a y).0 t)
          ∙ false_from_ne_true (same y b) (λ u. not_from_Decides (same b y) (decides b y) e (sym ((decides y b).0 u)))

      by : list_any (same a) (filter (λ c. not (same c y)) bs) ≡ (list_any (same a) bs && not (same a y))
          → (c : Bool) → same b y ≡ c
          → list_any (same a) (cond (not c) (b ∷ filter (λ c. not (same c y)) bs) (filter (λ c. not (same c y)) bs))
          ≡ ((same a b || list_any (same a) bs) && not (same a y))
      by rest true e =
          rest ∙ out_again (list_any (same a) bs) (same a y)
          ∙ ap (λ c. (same a c || list_any (same a) bs) && not (same a y)) (sym ((decides b y).0 e))
      by rest false e =
          ap (λ c. same a b || c) rest ∙ taken_out (same a b) (list_any (same a) bs) (same a y) (apart e)

  -- what isn't there, taken out
  pub none_left : (y : V) (bs : List V) → list_any (same y) bs ≡ false → filter (λ b. not (same b y)) bs ≡ bs
  none_left y [] h = refl
  none_left y (b ∷ bs) h =
      let parts = or_parts (same y b) (list_any (same y) bs) h in
      let other : same b y ≡ false =
      false_from_ne_true (same b y) (λ t. not_from_Decides (same y b) (decides y b) parts.0 (sym ((decides b y).0 t))) in
      ap (λ c. cond (not c) (b ∷ filter (λ d. not (same d y)) bs) (filter (λ d. not (same d y)) bs)) other
      ∙ ap (λ l. b ∷ l) (none_left y bs parts.1)
