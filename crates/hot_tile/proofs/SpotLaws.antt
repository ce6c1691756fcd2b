-- Things in order of a number: what one more, others merged in, and others taken away make of them.
-- A list in order is read in two parts, what is below a number and what is above it.
use Rattle.std.proofs.Common.{◌≡◌, refl, ap, sym, ◌∙◌, subst, ℕ, zero, suc, ◌+◌, ◌-◌, ◌<◌, ◌≤◌, arith, true, false, cond, List, [], ◌∷◌, ◌++◌, map, length, get_or, set, take, drop, fold, Less, Equal, Greater, append_assoc, add-one, nat_eq}
use Rattle.std.specs.Prelude.{not, ◌||◌, ◌⊎◌}
use Rattle.std.specs.List.{filter, AllByRecursion}
use Rattle.std.specs.List.Sorted.{IsStrictlySortedBy}
use Rattle.std.specs.Ordering.{nat_cmp, match_ordering, MatchOrdering, is_lt}
use Rattle.std.proofs.Common.{Ordering, inl, inr}
use Rattle.std.specs.Cmp.{nat_cmp_is}
use Rattle.std.specs.BTreeSet.{insert_key}
use Rattle.std.proofs.lemmas.Bool.Decides.{nat_tests}
use Rattle.std.proofs.lemmas.List.{take-append-drop, drop_more, drop_all, drop-drop, length-drop, get_or-drop, take_all, set_split}
use Rattle.std.proofs.lemmas.Map.Keys.{sorted_head}
use Rattle.grid_core.proofs.Filters.{all_kept}
use Rattle.hot_tile.specs.declared.spots.Spot.{Spot}
use Rattle.hot_tile.specs.Steps.{StepFirst, SameStep, GoneFirst}
use Rattle.hot_tile.specs.Spots.{keys, both, counted, merged, has_key, fresh_keys}

-- what the order of numbers answers
pub cmp_less : (x y : ℕ) → x < y → nat_cmp x y ≡ Less
cmp_less x y h = sym (nat_cmp_is x y Less h)

pub cmp_equal : (x y : ℕ) → x ≡ y → nat_cmp x y ≡ Equal
cmp_equal x y h = sym (nat_cmp_is x y Equal h)

pub cmp_greater : (x y : ℕ) → y < x → nat_cmp x y ≡ Greater
cmp_greater x y h = sym (nat_cmp_is x y Greater h)

pub less_cmp : (x y : ℕ) → nat_cmp x y ≡ Less → x < y
less_cmp x y h = grind (arith, nat_tests)

-- ---- one number more

-- the number stands between those below and those above it
pub put_between : (front back : List ℕ) (k : ℕ) → AllByRecursion (λ x. x < k) front → AllByRecursion (λ x. k < x) back
    → insert_key nat_cmp (front ++ back) k ≡ front ++ k ∷ back
put_between [] [] k a b = refl
put_between [] (x ∷ xs) k a b = ap (λ r. match_ordering r (k ∷ x ∷ xs) (x ∷ xs) (x ∷ insert_key nat_cmp xs k)) (cmp_less k x b.0)
put_between (x ∷ xs) back k a b =
    ap (λ r. match_ordering r (k ∷ x ∷ (xs ++ back)) (x ∷ (xs ++ back)) (x ∷ insert_key nat_cmp (xs ++ back) k)) (cmp_greater k x a.0)
    ∙ ap (λ ys. x ∷ ys) (put_between xs back k a.1 b)

-- a number that is there stays once
pub put_again : (front back : List ℕ) (x k : ℕ) → AllByRecursion (λ x. x < k) front → x ≡ k
    → insert_key nat_cmp (front ++ x ∷ back) k ≡ front ++ x ∷ back
put_again [] back x k a e = ap (λ r. match_ordering r (k ∷ x ∷ back) (x ∷ back) (x ∷ insert_key nat_cmp back k)) (cmp_equal k x (sym e))
put_again (y ∷ ys) back x k a e =
    ap (λ r. match_ordering r (k ∷ y ∷ (ys ++ x ∷ back)) (y ∷ (ys ++ x ∷ back)) (y ∷ insert_key nat_cmp (ys ++ x ∷ back) k))
    (cmp_greater k y a.0)
    ∙ ap (λ zs. y ∷ zs) (put_again ys back x k a.1 e)

-- ---- one spot more

pub counted_between : (front back : List Spot) (y : Spot) → AllByRecursion (λ x. x.key < y.key) front
    → AllByRecursion (λ x. y.key < x.key) back → counted (front ++ back) y ≡ front ++ y ∷ back
unfolding counted
counted_between [] [] y a b = refl
counted_between [] (x ∷ xs) y a b =
    ap (λ r. match_ordering r (y ∷ x ∷ xs) (both x y ∷ xs) (x ∷ counted xs y)) (cmp_less y.key x.key b.0)
counted_between (x ∷ xs) back y a b =
    ap (λ r. match_ordering r (y ∷ x ∷ (xs ++ back)) (both x y ∷ (xs ++ back)) (x ∷ counted (xs ++ back) y)) (cmp_greater y.key x.key a.0)
    ∙ ap (λ zs. x ∷ zs) (counted_between xs back y a.1 b)

pub counted_again : (front back : List Spot) (x y : Spot) → AllByRecursion (λ x. x.key < y.key) front → x.key ≡ y.key
    → counted (front ++ x ∷ back) y ≡ front ++ both x y ∷ back
unfolding counted
counted_again [] back x y a e =
    ap (λ r. match_ordering r (y ∷ x ∷ back) (both x y ∷ back) (x ∷ counted back y)) (cmp_equal y.key x.key (sym e))
counted_again (z ∷ zs) back x y a e =
    ap (λ r. match_ordering r (y ∷ z ∷ (zs ++ x ∷ back)) (both z y ∷ (zs ++ x ∷ back)) (z ∷ counted (zs ++ x ∷ back) y))
    (cmp_greater y.key z.key a.0)
    ∙ ap (λ us. z ∷ us) (counted_again zs back x y a.1 e)

-- ---- lists in order of a number, read at an index

module _ {X : Type 0} (f : X → ℕ) where
  pub in_order_from : (xs : List X) (i : ℕ) → IsStrictlySortedBy nat_cmp (map f xs) → IsStrictlySortedBy nat_cmp (map f (drop i xs))
  unfolding IsStrictlySortedBy
  in_order_from xs zero s = s
  in_order_from [] (suc i) s = tt
  in_order_from (x ∷ xs) (suc i) s = in_order_from xs i s.1

  numbers_above : (k : ℕ) (xs : List X) → AllByRecursion (λ n. nat_cmp k n ≡ Less) (map f xs) → AllByRecursion (λ x. k < f x) xs
  numbers_above k [] h = tt
  numbers_above k (x ∷ xs) h = (less_cmp k (f x) h.0, numbers_above k xs h.1)

  -- what stands behind the first is above it
  pub above_first : (x : X) (xs : List X) → IsStrictlySortedBy nat_cmp (map f (x ∷ xs)) → AllByRecursion (λ y. f x < f y) xs
  above_first x xs s = numbers_above (f x) xs (sorted_head nat_cmp (f x) (map f xs) s)

  -- what stands behind an index is above what stands there
  pub above_at : (xs : List X) (i : ℕ) (d : X) → i < length xs → IsStrictlySortedBy nat_cmp (map f xs)
      → AllByRecursion (λ y. f (get_or xs i d) < f y) (drop (i + 1) xs)
  above_at xs i d lt s =
      above_first (get_or xs i d) (drop (i + 1) xs)
      (subst (λ ys. IsStrictlySortedBy nat_cmp (map f ys)) (drop_more xs i d lt) (in_order_from xs i s))

  pub above_more : (k m : ℕ) (xs : List X) → m ≤ k → AllByRecursion (λ x. k < f x) xs → AllByRecursion (λ x. m < f x) xs
  above_more k m [] le h = tt
  above_more k m (x ∷ xs) le h = (omega (arith, le, h.0), above_more k m xs le h.1)

  -- what is above a number that is above k is above k
  pub above_head : (k : ℕ) (x : X) (xs : List X) → k < f x → AllByRecursion (λ y. f x < f y) xs
      → AllByRecursion (λ y. k < f y) (x ∷ xs)
  above_head k x xs lt h = (lt, above_more (f x) k xs (omega (arith, lt)) h)

  -- the list from an index on is above k where its first is
  pub above_from : (k : ℕ) (xs : List X) (i : ℕ) (d : X) → i < length xs → IsStrictlySortedBy nat_cmp (map f xs)
      → k < f (get_or xs i d) → AllByRecursion (λ y. k < f y) (drop i xs)
  above_from k xs i d lt s h =
      subst (AllByRecursion (λ y. k < f y)) (sym (drop_more xs i d lt))
      (above_head k (get_or xs i d) (drop (i + 1) xs) h (above_at xs i d lt s))

  -- nothing is left past the end
  pub above_end : (k : ℕ) (xs : List X) (i : ℕ) → length xs ≤ i → AllByRecursion (λ y. k < f y) (drop i xs)
  above_end k xs i le = subst (AllByRecursion (λ y. k < f y)) (sym (drop_all i xs le)) tt

-- ---- spots merged in

-- a spot below all others stays first
pub old_first : (x : Spot) (xs ys : List Spot) → AllByRecursion (λ y. x.key < y.key) ys
    → merged (x ∷ xs) ys ≡ x ∷ merged xs ys
unfolding counted
old_first x xs [] h = refl
old_first x xs (y ∷ ys) h =
    ap (λ r. fold counted (match_ordering r (y ∷ x ∷ xs) (both x y ∷ xs) (x ∷ counted xs y)) ys) (cmp_greater y.key x.key h.0)
    ∙ old_first x (counted xs y) ys h.1

-- one of the others that is below all goes first
pub own_first : (xs : List Spot) (y : Spot) (ys : List Spot) → AllByRecursion (λ x. y.key < x.key) xs
    → AllByRecursion (λ z. y.key < z.key) ys → merged xs (y ∷ ys) ≡ y ∷ merged xs ys
unfolding counted
own_first [] y ys h k = old_first y [] ys k
own_first (x ∷ xs) y ys h k =
    ap (λ r. fold counted (match_ordering r (y ∷ x ∷ xs) (both x y ∷ xs) (x ∷ counted xs y)) ys) (cmp_less y.key x.key h.0)
    ∙ old_first y (x ∷ xs) ys k

-- two of one key are counted together
pub both_first : (x : Spot) (xs : List Spot) (y : Spot) (ys : List Spot) → x.key ≡ y.key
    → AllByRecursion (λ z. y.key < z.key) ys → merged (x ∷ xs) (y ∷ ys) ≡ both x y ∷ merged xs ys
unfolding counted
both_first x xs y ys e k =
    ap (λ r. fold counted (match_ordering r (y ∷ x ∷ xs) (both x y ∷ xs) (x ∷ counted xs y)) ys) (cmp_equal y.key x.key (sym e))
    ∙ old_first (both x y) xs ys (subst (λ n. AllByRecursion (λ z. n < z.key) ys) (sym e) k)

-- ---- the keys that are new

no_key : (k : ℕ) (xs : List Spot) → AllByRecursion (λ x. k < x.key) xs → has_key (keys xs) k ≡ false
no_key k [] h = refl
no_key k (x ∷ xs) h =
    let other : nat_eq x.key k ≡ false = (let above = h.0 in grind (arith, nat_tests)) in
    ap (λ b. b || has_key (keys xs) k) other ∙ no_key k xs h.1

fresh_but : (x : Spot) (xs ys : List Spot) → AllByRecursion (λ y. x.key < y.key) ys → fresh_keys (x ∷ xs) ys ≡ fresh_keys xs ys
fresh_but x xs [] h = refl
fresh_but x xs (y ∷ ys) h =
    let above = h.0 in
    let other : nat_eq x.key y.key ≡ false = grind (arith, nat_tests) in
    (λ i. cond (not (other i || has_key (keys xs) y.key)) (y.key ∷ fresh_but x xs ys h.1 i) (fresh_but x xs ys h.1 i))

fresh_own : (xs : List Spot) (y : Spot) (ys : List Spot) → AllByRecursion (λ x. y.key < x.key) xs
    → fresh_keys xs (y ∷ ys) ≡ y.key ∷ fresh_keys xs ys
fresh_own xs y ys h = ap (λ b. cond (not b) (y.key ∷ fresh_keys xs ys) (fresh_keys xs ys)) (no_key y.key xs h)

fresh_both : (x : Spot) (xs : List Spot) (y : Spot) (ys : List Spot) → x.key ≡ y.key
    → AllByRecursion (λ z. y.key < z.key) ys → fresh_keys (x ∷ xs) (y ∷ ys) ≡ fresh_keys xs ys
fresh_both x xs y ys e k =
    let same : nat_eq x.key y.key ≡ true = grind (arith, nat_tests) in
    ap (λ b. cond (not (b || has_key (keys xs) y.key)) (y.key ∷ fresh_keys (x ∷ xs) ys) (fresh_keys (x ∷ xs) ys)) same
    ∙ fresh_but x xs ys (subst (λ n. AllByRecursion (λ z. n < z.key) ys) (sym e) k)

-- ---- a run of spots below all others

pub below_each : (x k : ℕ) (ys : List Spot) → x < k → AllByRecursion (λ y. k ≤ y.key) ys → AllByRecursion (λ y. x < y.key) ys
below_each x k [] lt h = tt
below_each x k (y ∷ ys) lt h = (omega (arith, lt, h.0), below_each x k ys lt h.1)

pub at_least : (k : ℕ) (y : Spot) (ys : List Spot) → k ≡ y.key → AllByRecursion (λ z. k < z.key) ys
    → AllByRecursion (λ z. k ≤ z.key) (y ∷ ys)
at_least k y ys e h = (omega (arith, e), weaker ys h)
  where
    weaker : (zs : List Spot) → AllByRecursion (λ z. k < z.key) zs → AllByRecursion (λ z. k ≤ z.key) zs
    weaker [] h = tt
    weaker (z ∷ zs) h = (omega (arith, h.0), weaker zs h.1)

run_first : (k : ℕ) (run xs ys : List Spot) → AllByRecursion (λ x. x.key < k) run → AllByRecursion (λ y. k ≤ y.key) ys
    → merged (run ++ xs) ys ≡ run ++ merged xs ys
run_first k [] xs ys h a = refl
run_first k (x ∷ run) xs ys h a =
    old_first x (run ++ xs) ys (below_each x.key k ys h.0 a) ∙ ap (λ zs. x ∷ zs) (run_first k run xs ys h.1 a)

fresh_but_run : (k : ℕ) (run xs ys : List Spot) → AllByRecursion (λ x. x.key < k) run → AllByRecursion (λ y. k ≤ y.key) ys
    → fresh_keys (run ++ xs) ys ≡ fresh_keys xs ys
fresh_but_run k [] xs ys h a = refl
fresh_but_run k (x ∷ run) xs ys h a =
    fresh_but x (run ++ xs) ys (below_each x.key k ys h.0 a) ∙ fresh_but_run k run xs ys h.1 a

-- a run and what stands behind it
pub run_joined : {X : Type 0} (i n : ℕ) (xs : List X) → take n (drop i xs) ++ drop (i + n) xs ≡ drop i xs
run_joined i n xs = ap (λ ys. take n (drop i xs) ++ ys) (sym (drop-drop n i xs)) ∙ take-append-drop n (drop i xs)

-- the first i and j spots have been merged into `out`, with the new keys among them
pub record IsMerging (olds owns : List Spot) (i j : ℕ) (out : List Spot) (found : List ℕ) : Type 0 where
  pub spots : out ++ merged (drop i olds) (drop j owns) ≡ merged olds owns
  pub fresh : found ++ fresh_keys (drop i olds) (drop j owns) ≡ fresh_keys olds owns

module _ {olds owns : List Spot} {i j : ℕ} {out : List Spot} {fresh : List ℕ} (m : IsMerging olds owns i j out fresh)
    (d : Spot) where
  pub takes_run : (n : ℕ) → j < length owns → AllByRecursion (λ x. x.key < (get_or owns j d).key) (take n (drop i olds))
      → AllByRecursion (λ z. (get_or owns j d).key < z.key) (drop (j + 1) owns)
      → IsMerging olds owns (i + n) j (out ++ take n (drop i olds)) fresh
  takes_run n lt below after =
      let run = take n (drop i olds) in
      let joined = run_joined i n olds in
      let above : AllByRecursion (λ y. (get_or owns j d).key ≤ y.key) (drop j owns) =
      subst (AllByRecursion (λ y. (get_or owns j d).key ≤ y.key)) (sym (drop_more owns j d lt))
      (at_least (get_or owns j d).key (get_or owns j d) (drop (j + 1) owns) refl after) in
      record {
        spots =
            append_assoc out run (merged (drop (i + n) olds) (drop j owns))
            ∙ ap (λ zs. out ++ zs)
            (sym (run_first (get_or owns j d).key run (drop (i + n) olds) (drop j owns) below above)
            ∙ ap (λ xs. merged xs (drop j owns)) joined)
            ∙ m.spots;
        fresh =
            ap (λ zs. fresh ++ zs)
            (sym (fresh_but_run (get_or owns j d).key run (drop (i + n) olds) (drop j owns) below above)
            ∙ ap (λ xs. fresh_keys xs (drop j owns)) joined)
            ∙ m.fresh;
      }

  pub takes_own : j < length owns → AllByRecursion (λ x. (get_or owns j d).key < x.key) (drop i olds)
      → AllByRecursion (λ z. (get_or owns j d).key < z.key) (drop (j + 1) owns)
      → IsMerging olds owns i (j + 1) (out ++ get_or owns j d ∷ []) (fresh ++ (get_or owns j d).key ∷ [])
  takes_own lt above after =
      record {
        spots =
            append_assoc out (get_or owns j d ∷ []) (merged (drop i olds) (drop (j + 1) owns))
            ∙ ap (λ zs. out ++ zs)
            (sym (ap (λ ys. merged (drop i olds) ys) (drop_more owns j d lt) ∙ own_first (drop i olds) (get_or owns j d) (drop (j + 1) owns) above after))
            ∙ m.spots;
        fresh =
            append_assoc fresh ((get_or owns j d).key ∷ []) (fresh_keys (drop i olds) (drop (j + 1) owns))
            ∙ ap (λ zs. fresh ++ zs)
            (sym (ap (λ ys. fresh_keys (drop i olds) ys) (drop_more owns j d lt) ∙ fresh_own (drop i olds) (get_or owns j d) (drop (j + 1) owns) above))
            ∙ m.fresh;
      }

  pub takes_both : i < length olds → j < length owns → (get_or olds i d).key ≡ (get_or owns j d).key
      → AllByRecursion (λ z. (get_or owns j d).key < z.key) (drop (j + 1) owns)
      → IsMerging olds owns (i + 1) (j + 1) (out ++ both (get_or olds i d) (get_or owns j d) ∷ []) fresh
  takes_both lt lt' e after =
      record {
        spots =
            append_assoc out (both (get_or olds i d) (get_or owns j d) ∷ []) (merged (drop (i + 1) olds) (drop (j + 1) owns))
            ∙ ap (λ zs. out ++ zs)
            (sym ((λ k. merged (drop_more olds i d lt k) (drop_more owns j d lt' k))
            ∙ both_first (get_or olds i d) (drop (i + 1) olds) (get_or owns j d) (drop (j + 1) owns) e after))
            ∙ m.spots;
        fresh =
            ap (λ zs. fresh ++ zs)
            (sym ((λ k. fresh_keys (drop_more olds i d lt k) (drop_more owns j d lt' k))
            ∙ fresh_both (get_or olds i d) (drop (i + 1) olds) (get_or owns j d) (drop (j + 1) owns) e after))
            ∙ m.fresh;
      }

-- ---- which goes on

equal_cmp : (x y : ℕ) → nat_cmp x y ≡ Equal → x ≡ y
equal_cmp x y h = grind (arith, nat_tests)

greater_cmp : (x y : ℕ) → nat_cmp x y ≡ Greater → y < x
greater_cmp x y h = grind (arith, nat_tests)

-- rows of numbers, each its own number
pub rows_mapped : (ks : List ℕ) → map (λ k. k) ks ≡ ks
rows_mapped [] = refl
rows_mapped (k ∷ ks) = ap (λ js. k ∷ js) (rows_mapped ks)

step_behind : (ks : List ℕ) (i : ℕ) → i < length ks → IsStrictlySortedBy nat_cmp ks → AllByRecursion (λ k. get_or ks i 0 < k) (drop (i + 1) ks)
step_behind ks i lt s = above_at (λ k. k) ks i 0 lt (subst (IsStrictlySortedBy nat_cmp) (sym (rows_mapped ks)) s)

step_above : (n : ℕ) (ks : List ℕ) (i : ℕ) → i < length ks → IsStrictlySortedBy nat_cmp ks → n < get_or ks i 0
    → AllByRecursion (λ k. n < k) (drop i ks)
step_above n ks i lt s h = above_from (λ k. k) n ks i 0 lt (subst (IsStrictlySortedBy nat_cmp) (sym (rows_mapped ks)) s) h

pub steps_tell : (old gone : List ℕ) (i j : ℕ) → IsStrictlySortedBy nat_cmp old → IsStrictlySortedBy nat_cmp gone
    → i < length old → j < length gone → (r : Ordering) → r ≡ nat_cmp (get_or old i 0) (get_or gone j 0)
    → MatchOrdering r (StepFirst old i gone j) (SameStep old i gone j) (GoneFirst old i gone j)
steps_tell old gone i j s s' lt lt' Less e = step_above (get_or old i 0) gone j lt' s' (less_cmp _ _ (sym e))
steps_tell old gone i j s s' lt lt' Equal e =
    let same = equal_cmp (get_or old i 0) (get_or gone j 0) (sym e) in
    record {
      within = lt';
      same = sym same;
      rest = subst (λ n. AllByRecursion (λ k. n < k) (drop (i + 1) old)) same (step_behind old i lt s);
    }
steps_tell old gone i j s s' lt lt' Greater e =
    record { within = lt'; first = step_above (get_or gone j 0) old i lt s (greater_cmp (get_or old i 0) (get_or gone j 0) (sym e)) }

-- ---- one more, by where a search says that it stands

-- what isn't below a key, and isn't of it, is above it
not_lower : (k : ℕ) (x : ℕ) → not (is_lt (nat_cmp x k)) ≡ true → k ≤ x
not_lower k x h = grind (arith, nat_tests)

lower : (k : ℕ) (x : ℕ) → is_lt (nat_cmp x k) ≡ true → x < k
lower k x h = grind (arith, nat_tests)

module _ {X : Type 0} (f : X → ℕ) (k : ℕ) (xs : List X) (at : ℕ) (order : IsStrictlySortedBy nat_cmp (map f xs))
    (lesser : take at xs ≡ filter (λ x. is_lt (nat_cmp (f x) k)) xs)
    (others : drop at xs ≡ filter (λ x. not (is_lt (nat_cmp (f x) k))) xs) where
  pub all_below : AllByRecursion (λ x. f x < k) (take at xs)
  all_below =
      subst (AllByRecursion (λ x. f x < k)) (sym lesser)
      (all_kept (λ x. f x < k) (λ x. is_lt (nat_cmp (f x) k)) (λ x h. lower k (f x) h) xs)

  not_below : AllByRecursion (λ x. k ≤ f x) (drop at xs)
  not_below =
      subst (AllByRecursion (λ x. k ≤ f x)) (sym others)
      (all_kept (λ x. k ≤ f x) (λ x. not (is_lt (nat_cmp (f x) k))) (λ x h. not_lower k (f x) h) xs)

  -- all behind is above the key, unless what stands there has it
  pub all_above : (d : X) → (at < length xs → f (get_or xs at d) ≡ k → ⊥) → AllByRecursion (λ x. k < f x) (drop at xs)
  all_above d other = by (cases at (length xs))
    where
      cases : (i n : ℕ) → (i < n) ⊎ (n ≤ i)
      cases i n = grind arith

      by : (at < length xs) ⊎ (length xs ≤ at) → AllByRecursion (λ x. k < f x) (drop at xs)
      by (inr past) = above_end f k xs at past
      by (inl lt) =
          let first = (subst (AllByRecursion (λ x. k ≤ f x)) (drop_more xs at d lt) not_below).0 in
          let apart = other lt in
          above_from f k xs at d lt order (greater k (f (get_or xs at d)) first apart)
        where
          greater : (k n : ℕ) → k ≤ n → (n ≡ k → ⊥) → k < n
          greater k n le ne = grind arith

-- ---- a search from an index on

-- the slice from an index on is all that is left
pub left_is : {X : Type 0} (xs : List X) (i : ℕ) → take (length xs - i) (drop i xs) ≡ drop i xs
left_is xs i = take_all (length xs - i) (drop i xs) (omega (arith, length-drop i xs))

module _ (k : ℕ) (xs : List Spot) (i run : ℕ) (order : IsStrictlySortedBy nat_cmp (keys xs))
    (lesser : take run (take (length xs - i) (drop i xs))
    ≡ filter (λ x. is_lt (nat_cmp x.key k)) (take (length xs - i) (drop i xs)))
    (others : drop run (take (length xs - i) (drop i xs))
    ≡ filter (λ x. not (is_lt (nat_cmp x.key k))) (take (length xs - i) (drop i xs))) where
  passed : take run (drop i xs) ≡ filter (λ x. is_lt (nat_cmp x.key k)) (drop i xs)
  passed = subst (λ ys. take run ys ≡ filter (λ x. is_lt (nat_cmp x.key k)) ys) (left_is xs i) lesser

  behind : drop run (drop i xs) ≡ filter (λ x. not (is_lt (nat_cmp x.key k))) (drop i xs)
  behind = subst (λ ys. drop run ys ≡ filter (λ x. not (is_lt (nat_cmp x.key k))) ys) (left_is xs i) others

  -- the run that it passed is below the key
  pub run_below : AllByRecursion (λ x. x.key < k) (take run (drop i xs))
  run_below = all_below (λ x. x.key) k (drop i xs) run (in_order_from (λ x. x.key) xs i order) passed behind

  -- all behind is above the key, unless what stands there has it
  pub rest_above : (d : Spot) → (i + run < length xs → (get_or xs (i + run) d).key ≡ k → ⊥)
      → AllByRecursion (λ x. k < x.key) (drop (i + run) xs)
  rest_above d other =
      subst (AllByRecursion (λ x. k < x.key)) (drop-drop run i xs)
      (all_above (λ x. x.key) k (drop i xs) run (in_order_from (λ x. x.key) xs i order) passed behind d
      (λ lt e. other (omega (arith, lt, length-drop i xs)) (ap (λ x. x.key) (sym (get_or-drop i xs run d)) ∙ e)))

-- ---- what one more makes, by where a search says that it stands

module _ (xs : List Spot) (y : Spot) (at : ℕ) (order : IsStrictlySortedBy nat_cmp (keys xs))
    (lesser : take at xs ≡ filter (λ x. is_lt (nat_cmp x.key y.key)) xs)
    (others : drop at xs ≡ filter (λ x. not (is_lt (nat_cmp x.key y.key))) xs) where
  -- put in where its key would stand
  pub count_put : (d : Spot) → (at < length xs → (get_or xs at d).key ≡ y.key → ⊥) → take at xs ++ y ∷ drop at xs ≡ counted xs y
  count_put d other =
      sym (ap (λ zs. counted zs y) (sym (take-append-drop at xs))
      ∙ counted_between (take at xs) (drop at xs) y (all_below (λ (x : Spot). x.key) y.key xs at order lesser others)
      (all_above (λ (x : Spot). x.key) y.key xs at order lesser others d other))

  -- added to the one of its key
  pub count_set : (d : Spot) → at < length xs → (get_or xs at d).key ≡ y.key → set xs at (both (get_or xs at d) y) ≡ counted xs y
  count_set d lt same =
      set_split xs at (both (get_or xs at d) y) lt
      ∙ ap (λ n. take at xs ++ both (get_or xs at d) y ∷ drop n xs) (sym (add-one at))
      ∙ sym (ap (λ zs. counted zs y) (sym (take-append-drop at xs) ∙ ap (λ zs. take at xs ++ zs) (drop_more xs at d lt))
      ∙ counted_again (take at xs) (drop (at + 1) xs) (get_or xs at d) y (all_below (λ (x : Spot). x.key) y.key xs at order lesser others) same)

module _ (ks : List ℕ) (k at : ℕ) (order : IsStrictlySortedBy nat_cmp ks) (lesser : take at ks ≡ filter (λ j. is_lt (nat_cmp j k)) ks)
    (others : drop at ks ≡ filter (λ j. not (is_lt (nat_cmp j k))) ks) where
  mapped_order : IsStrictlySortedBy nat_cmp (map (λ j. j) ks)
  mapped_order = subst (IsStrictlySortedBy nat_cmp) (sym (rows_mapped ks)) order

  -- put in where it would stand
  pub put_in_place : (at < length ks → get_or ks at 0 ≡ k → ⊥) → take at ks ++ k ∷ drop at ks ≡ insert_key nat_cmp ks k
  put_in_place other =
      sym (ap (λ js. insert_key nat_cmp js k) (sym (take-append-drop at ks))
      ∙ put_between (take at ks) (drop at ks) k (all_below (λ j. j) k ks at mapped_order lesser others)
      (all_above (λ j. j) k ks at mapped_order lesser others 0 other))

  -- there already
  pub put_there : at < length ks → get_or ks at 0 ≡ k → ks ≡ insert_key nat_cmp ks k
  put_there lt same =
      let split : ks ≡ take at ks ++ get_or ks at 0 ∷ drop (at + 1) ks =
      sym (take-append-drop at ks) ∙ ap (λ js. take at ks ++ js) (drop_more ks at 0 lt) in
      split
      ∙ sym (ap (λ js. insert_key nat_cmp js k) split
      ∙ put_again (take at ks) (drop (at + 1) ks) (get_or ks at 0) k (all_below (λ j. j) k ks at mapped_order lesser others) same)
