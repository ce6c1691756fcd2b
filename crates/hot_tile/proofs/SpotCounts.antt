-- Spots by their counts: spots in order of key that count alike are one list. What is counted more
-- adds up, what is taken away is subtracted, and the spots of a tile count at a key the ends and
-- the crossings whose pixels in the tile have it.
use Rattle.std.proofs.Common.{◌≡◌, refl, ap, sym, ◌∙◌, subst, ℕ, ◌+◌, ◌<◌, arith, Bool, true, false, cond}
use Rattle.std.proofs.Common.{List, [], ◌∷◌, fold, sum_by}
use Rattle.std.proofs.Common.{Ordering, Less, Equal, Greater, nat_eq, nat_cmp}
use Rattle.std.specs.BTreeSet.{insert_key}
use Rattle.std.specs.List.{AllByRecursion}
use Rattle.std.specs.List.Sorted.{IsStrictlySortedBy}
use Rattle.std.specs.Ordering.{match_ordering, ordering_reverse}
use Rattle.std.proofs.lemmas.Bool.Decides.{nat_tests}
use Rattle.std.proofs.lemmas.Cmp.{nat_cmp_total}
use Rattle.std.proofs.lemmas.List.Sums.{sum_by-cons}
use Rattle.std.proofs.lemmas.Map.Lookups.{exact_unsigned}
use Rattle.grid_core.proofs.RisingMembers.{sorted_inserted}
use Rattle.grid_core.proofs.SortedLists.{less_below}
use Rattle.hot_tile.specs.declared.spots.Spot.{Spot}
use Rattle.hot_tile.specs.Spots.{keys, both, counted, merged, ends_counted, crossings_counted}

-- ---- counts at a key

-- what x counts at the key k, by one of its two counts
abbrev pub at_key : (Spot → ℕ) → ℕ → Spot → ℕ
at_key n k x = cond (nat_eq x.key k) (n x) 0

same_key : (k : ℕ) → nat_eq k k ≡ true
same_key k = grind (arith, nat_tests)

other_key : (j k : ℕ) → nat_cmp k j ≡ Less → nat_eq j k ≡ false
other_key j k h = grind (arith, nat_tests)

module _ (n : Spot → ℕ) where
  at_itself : (x : Spot) → at_key n x.key x ≡ n x
  at_itself x = ap (λ b. cond b (n x) 0) (same_key x.key)

  -- nothing is counted at a key below all
  pub below_counts_none : (k : ℕ) (xs : List Spot) → AllByRecursion (λ j. nat_cmp k j ≡ Less) (keys xs)
      → sum_by (at_key n k) xs ≡ 0
  below_counts_none k [] below = refl
  below_counts_none k (x ∷ xs) below =
      omega (
        arith,
        sum_by-cons (at_key n k) x xs,
        ap (λ b. cond b (n x) 0) (other_key x.key k below.0),
        below_counts_none k xs below.1,
      )

  -- at its own key the first of a rising list counts alone
  head_counts : (x : Spot) (xs : List Spot) → AllByRecursion (λ j. nat_cmp x.key j ≡ Less) (keys xs)
      → sum_by (at_key n x.key) (x ∷ xs) ≡ n x
  head_counts x xs below =
      omega (arith, sum_by-cons (at_key n x.key) x xs, at_itself x, below_counts_none x.key xs below)

  -- two firsts of one key that count alike leave rests that count alike
  rest_counts : (x y : Spot) (xs ys : List Spot) → x.key ≡ y.key → n x ≡ n y → (k : ℕ)
      → sum_by (at_key n k) (x ∷ xs) ≡ sum_by (at_key n k) (y ∷ ys) → sum_by (at_key n k) xs ≡ sum_by (at_key n k) ys
  rest_counts x y xs ys key same k e =
      let first : at_key n k x ≡ at_key n k y = λ i. cond (nat_eq (key i) k) (same i) 0 in
      omega (arith, sum_by-cons (at_key n k) x xs, sum_by-cons (at_key n k) y ys, first, e)

-- ---- fixed by their counts

-- the spot counts something
abbrev pub IsHot : Spot → Type 0
IsHot x = 0 < x.ends + x.crossings

-- keys rise, and each spot counts something
pub record AreSpots (xs : List Spot) : Type 0 where
  pub in_order : IsStrictlySortedBy nat_cmp (keys xs)
  pub hot : AllByRecursion IsHot xs

-- where x counts something, it isn't below all of a list that counts alike
apart : (x : Spot) (xs ys : List Spot) → IsHot x → AllByRecursion (λ j. nat_cmp x.key j ≡ Less) (keys xs)
    → AllByRecursion (λ j. nat_cmp x.key j ≡ Less) (keys ys) → ends_counted (x ∷ xs) x.key ≡ ends_counted ys x.key
    → crossings_counted (x ∷ xs) x.key ≡ crossings_counted ys x.key → ⊥
apart x xs ys hot s t ends crossings =
    omega (
      arith,
      hot,
      ends,
      crossings,
      head_counts (λ x. x.ends) x xs s,
      head_counts (λ x. x.crossings) x xs s,
      below_counts_none (λ x. x.ends) x.key ys t,
      below_counts_none (λ x. x.crossings) x.key ys t,
    )

-- two lists of spots that count alike are one
pub spots_same : (xs ys : List Spot) → AreSpots xs → AreSpots ys
    → ((k : ℕ) → ends_counted xs k ≡ ends_counted ys k) → ((k : ℕ) → crossings_counted xs k ≡ crossings_counted ys k)
    → xs ≡ ys
unfolding IsStrictlySortedBy
spots_same [] [] s t ends crossings = refl
spots_same [] (y ∷ ys) s t ends crossings =
    absurd (apart y ys [] t.hot.0 t.in_order.0 tt (sym (ends y.key)) (sym (crossings y.key)))
spots_same (x ∷ xs) [] s t ends crossings =
    absurd (apart x xs [] s.hot.0 s.in_order.0 tt (ends x.key) (crossings x.key))
spots_same (x ∷ xs) (y ∷ ys) s t ends crossings =
    by (nat_cmp x.key y.key) refl
    (spots_same xs ys (record { in_order = s.in_order.1; hot = s.hot.1 }) (record { in_order = t.in_order.1; hot = t.hot.1 }))
  where
    by : (r : Ordering) → nat_cmp x.key y.key ≡ r
        → (((k : ℕ) → ends_counted xs k ≡ ends_counted ys k)
        → ((k : ℕ) → crossings_counted xs k ≡ crossings_counted ys k) → xs ≡ ys)
        → x ∷ xs ≡ y ∷ ys
    by Less e rest =
        absurd (apart x xs (y ∷ ys) s.hot.0 s.in_order.0 (e, less_below nat_cmp_total x.key y.key (keys ys) e t.in_order.0)
        (ends x.key) (crossings x.key))
    by Greater e rest =
        let less : nat_cmp y.key x.key ≡ Less = nat_cmp_total.antisymm y.key x.key ∙ ap ordering_reverse e in
        absurd (apart y ys (x ∷ xs) t.hot.0 t.in_order.0 (less, less_below nat_cmp_total y.key x.key (keys xs) less s.in_order.0)
        (sym (ends y.key)) (sym (crossings y.key)))
    by Equal e rest =
        let key = exact_unsigned x.key y.key e in
        let same_ends : x.ends ≡ y.ends =
        sym (head_counts (λ x. x.ends) x xs s.in_order.0) ∙ ends x.key ∙ ap (ends_counted (y ∷ ys)) key
        ∙ head_counts (λ x. x.ends) y ys t.in_order.0 in
        let same_crossings : x.crossings ≡ y.crossings =
        sym (head_counts (λ x. x.crossings) x xs s.in_order.0) ∙ crossings x.key ∙ ap (crossings_counted (y ∷ ys)) key
        ∙ head_counts (λ x. x.crossings) y ys t.in_order.0 in
        let rests =
        rest (λ k. rest_counts (λ x. x.ends) x y xs ys key same_ends k (ends k))
        (λ k. rest_counts (λ x. x.crossings) x y xs ys key same_crossings k (crossings k)) in
        λ i. record { key = key i; ends = same_ends i; crossings = same_crossings i } ∷ rests i

-- ---- counted more

-- one counted more puts its key in
pub keys_counted : (xs : List Spot) (y : Spot) → keys (counted xs y) ≡ insert_key nat_cmp (keys xs) y.key
unfolding counted
keys_counted [] y = refl
keys_counted (x ∷ xs) y = by (nat_cmp y.key x.key) (keys_counted xs y)
  where
    by : (r : Ordering) → keys (counted xs y) ≡ insert_key nat_cmp (keys xs) y.key
        → keys (match_ordering r (y ∷ x ∷ xs) (both x y ∷ xs) (x ∷ counted xs y))
        ≡ match_ordering r (y.key ∷ x.key ∷ keys xs) (x.key ∷ keys xs) (x.key ∷ insert_key nat_cmp (keys xs) y.key)
    by Less rest = refl
    by Equal rest = refl
    by Greater rest = ap (λ ks. x.key ∷ ks) rest

pub keys_merged : (xs ys : List Spot) → keys (merged xs ys) ≡ fold (insert_key nat_cmp) (keys xs) (keys ys)
keys_merged xs [] = refl
keys_merged xs (y ∷ ys) =
    keys_merged (counted xs y) ys ∙ ap (λ ks. fold (insert_key nat_cmp) ks (keys ys)) (keys_counted xs y)

hot_counted : (xs : List Spot) (y : Spot) → AllByRecursion IsHot xs → IsHot y → AllByRecursion IsHot (counted xs y)
unfolding counted
hot_counted [] y h k = (k, tt)
hot_counted (x ∷ xs) y h k = by (nat_cmp y.key x.key) (hot_counted xs y h.1 k)
  where
    by : (r : Ordering) → AllByRecursion IsHot (counted xs y)
        → AllByRecursion IsHot (match_ordering r (y ∷ x ∷ xs) (both x y ∷ xs) (x ∷ counted xs y))
    by Less rest = (k, h)
    by Equal rest = (omega (arith, h.0, k), h.1)
    by Greater rest = (h.0, rest)

-- spots with one counted more are spots
pub counted_are_spots : (xs : List Spot) (y : Spot) → AreSpots xs → IsHot y → AreSpots (counted xs y)
counted_are_spots xs y s k =
    record {
      in_order =
          subst (IsStrictlySortedBy nat_cmp) (sym (keys_counted xs y)) (sorted_inserted nat_cmp_total y.key (keys xs) s.in_order);
      hot = hot_counted xs y s.hot k;
    }

pub merged_are_spots : (xs ys : List Spot) → AreSpots xs → AllByRecursion IsHot ys → AreSpots (merged xs ys)
merged_are_spots xs [] s h = s
merged_are_spots xs (y ∷ ys) s h = merged_are_spots (counted xs y) ys (counted_are_spots xs y s h.0) h.1

pub none_are_spots : AreSpots []
unfolding IsStrictlySortedBy
none_are_spots = record { in_order = tt; hot = tt }

module _ (n : Spot → ℕ) (adds : (x y : Spot) → n (both x y) ≡ n x + n y) where
  both_at : (x y : Spot) (k : ℕ) → nat_cmp y.key x.key ≡ Equal → at_key n k (both x y) ≡ at_key n k x + at_key n k y
  both_at x y k e =
      ap (λ m. cond (nat_eq x.key k) m 0) (adds x y) ∙ by (nat_eq x.key k)
      ∙ ap (λ j. at_key n k x + cond (nat_eq j k) (n y) 0) (sym (exact_unsigned y.key x.key e))
    where
      by : (b : Bool) → cond b (n x + n y) 0 ≡ cond b (n x) 0 + cond b (n y) 0
      by true = refl
      by false = refl

  one_counted : (k : ℕ) (xs : List Spot) (y : Spot) → sum_by (at_key n k) (counted xs y) ≡ sum_by (at_key n k) xs + at_key n k y
  unfolding counted
  one_counted k [] y = omega (arith, sum_by-cons (at_key n k) y [])
  one_counted k (x ∷ xs) y = by (nat_cmp y.key x.key) refl (one_counted k xs y)
    where
      by : (r : Ordering) → nat_cmp y.key x.key ≡ r
          → sum_by (at_key n k) (counted xs y) ≡ sum_by (at_key n k) xs + at_key n k y
          → sum_by (at_key n k) (match_ordering r (y ∷ x ∷ xs) (both x y ∷ xs) (x ∷ counted xs y))
          ≡ sum_by (at_key n k) (x ∷ xs) + at_key n k y
      by Less e rest = omega (arith, sum_by-cons (at_key n k) y (x ∷ xs))
      by Equal e rest =
          omega (arith, sum_by-cons (at_key n k) (both x y) xs, sum_by-cons (at_key n k) x xs, both_at x y k e)
      by Greater e rest =
          omega (arith, sum_by-cons (at_key n k) x (counted xs y), sum_by-cons (at_key n k) x xs, rest)

  all_counted : (k : ℕ) (xs ys : List Spot)
      → sum_by (at_key n k) (merged xs ys) ≡ sum_by (at_key n k) xs + sum_by (at_key n k) ys
  all_counted k xs [] = omega arith
  all_counted k xs (y ∷ ys) =
      omega (arith, all_counted k (counted xs y) ys, one_counted k xs y, sum_by-cons (at_key n k) y ys)

-- what is counted more adds up
pub ends_merged : (k : ℕ) (xs ys : List Spot) → ends_counted (merged xs ys) k ≡ ends_counted xs k + ends_counted ys k
ends_merged k xs ys = all_counted (λ x. x.ends) (λ x y. refl) k xs ys

pub crossings_merged : (k : ℕ) (xs ys : List Spot)
    → crossings_counted (merged xs ys) k ≡ crossings_counted xs k + crossings_counted ys k
crossings_merged k xs ys = all_counted (λ x. x.crossings) (λ x y. refl) k xs ys
