-- Spots less what others take away, and rows less the steps that are gone: the steps of two loops
-- over two lists in order.
use Rattle.std.proofs.Common.{◌≡◌, refl, ap, sym, ◌∙◌, subst, ℕ, ◌+◌, ◌-◌, ◌<◌, ◌≤◌, ◌⊎◌, inl, inr, arith, Bool, true, false, cond, List, [], ◌∷◌, ◌++◌, map, length, get_or, take, drop, append_assoc, nat_eq}
use Rattle.std.specs.Prelude.{sum_by, not, ◌||◌}
use Rattle.std.specs.List.{filter, AllByRecursion}
use Rattle.std.proofs.lemmas.Bool.Decides.{nat_tests}
use Rattle.std.proofs.lemmas.List.{append-nil, drop_more, drop_all, length-drop, take_all}
use Rattle.std.proofs.lemmas.List.Sums.{sum_by-cons}
use Rattle.hot_tile.specs.declared.spots.Spot.{Spot}
use Rattle.hot_tile.specs.Spots.{keys, has_key, ends_counted, crossings_counted, less, is_cold, cooled, cold_keys}
use Rattle.hot_tile.specs.Steps.{thinned_row}
use Rattle.hot_tile.proofs.SpotLaws.{below_each, at_least, run_joined}

other_key : (j k : ℕ) → k < j → nat_eq j k ≡ false
other_key j k h = grind (arith, nat_tests)

own_key : (j k : ℕ) → j ≡ k → nat_eq j k ≡ true
own_key j k h = grind (arith, nat_tests)

lesser_key : (j k : ℕ) → j < k → nat_eq j k ≡ false
lesser_key j k h = grind (arith, nat_tests)

-- ---- counts at a key

module _ (f : Spot → ℕ) where
  at_key : ℕ → Spot → ℕ
  at_key k x = cond (nat_eq x.key k) (f x) 0

  none_counted : (k : ℕ) (ys : List Spot) → AllByRecursion (λ y. k < y.key) ys → sum_by (λ x. cond (nat_eq x.key k) (f x) 0) ys ≡ 0
  none_counted k [] h = refl
  none_counted k (y ∷ ys) h =
      sum_by-cons (λ x. cond (nat_eq x.key k) (f x) 0) y ys
      ∙ (λ i. cond (other_key y.key k h.0 i) (f y) 0 + none_counted k ys h.1 i)

  passed_over : (k : ℕ) (y : Spot) (ys : List Spot) → y.key < k
      → sum_by (λ x. cond (nat_eq x.key k) (f x) 0) (y ∷ ys) ≡ sum_by (λ x. cond (nat_eq x.key k) (f x) 0) ys
  passed_over k y ys h =
      sum_by-cons (λ x. cond (nat_eq x.key k) (f x) 0) y ys
      ∙ ap (λ b. cond b (f y) 0 + sum_by (λ x. cond (nat_eq x.key k) (f x) 0) ys) (lesser_key y.key k h)
      ∙ omega arith

  counted_once : (k : ℕ) (y : Spot) (ys : List Spot) → y.key ≡ k → AllByRecursion (λ z. y.key < z.key) ys
      → sum_by (λ x. cond (nat_eq x.key k) (f x) 0) (y ∷ ys) ≡ f y
  counted_once k y ys e h =
      sum_by-cons (λ x. cond (nat_eq x.key k) (f x) 0) y ys
      ∙ (λ i. cond (own_key y.key k e i) (f y) 0 + none_counted k ys (subst (λ n. AllByRecursion (λ z. n < z.key) ys) e h) i)
      ∙ omega arith

-- ---- what is left of a spot

-- nothing is taken from a spot below all others
less_none : (x : Spot) (ys : List Spot) → AllByRecursion (λ y. x.key < y.key) ys → less ys x ≡ x
less_none x ys h =
    let ends : x.ends - ends_counted ys x.key ≡ x.ends = ap (λ n. x.ends - n) (none_counted (λ s. s.ends) x.key ys h) ∙ omega arith in
    let crossings : x.crossings - crossings_counted ys x.key ≡ x.crossings =
    ap (λ n. x.crossings - n) (none_counted (λ s. s.crossings) x.key ys h) ∙ omega arith in
    λ i. record { key = x.key; ends = ends i; crossings = crossings i }

-- of two of one key the counts of the second are taken from the first
less_both : (x y : Spot) (ys : List Spot) → y.key ≡ x.key → AllByRecursion (λ z. y.key < z.key) ys
    → less (y ∷ ys) x ≡ record { key = x.key; ends = x.ends - y.ends; crossings = x.crossings - y.crossings }
less_both x y ys e h =
    λ i. record {
      key = x.key;
      ends = x.ends - counted_once (λ s. s.ends) x.key y ys e h i;
      crossings = x.crossings - counted_once (λ s. s.crossings) x.key y ys e h i;
    }

-- a spot below all takes nothing from them
less_skip : (xs : List Spot) (y : Spot) (ys : List Spot) → AllByRecursion (λ x. y.key < x.key) xs
    → map (less (y ∷ ys)) xs ≡ map (less ys) xs
less_skip [] y ys h = refl
less_skip (x ∷ xs) y ys h =
    λ i. record {
      key = x.key;
      ends = x.ends - passed_over (λ s. s.ends) x.key y ys h.0 i;
      crossings = x.crossings - passed_over (λ s. s.crossings) x.key y ys h.0 i;
    } ∷ less_skip xs y ys h.1 i

-- what of x is left, among the others that are left, and its key among those that are cold
abbrev pub left_first : Spot → List Spot → List Spot
left_first r rs = cond (not (is_cold r)) (r ∷ filter (λ x. not (is_cold x)) rs) (filter (λ x. not (is_cold x)) rs)

-- a run of spots below all others stays
run_stays : (k : ℕ) (run xs ys : List Spot) → AllByRecursion (λ x. is_cold x ≡ false) run → AllByRecursion (λ x. x.key < k) run
    → AllByRecursion (λ y. k ≤ y.key) ys → (cooled (run ++ xs) ys ≡ run ++ cooled xs ys) × (cold_keys (run ++ xs) ys ≡ cold_keys xs ys)
run_stays k [] xs ys w h a = (refl, refl)
run_stays k (x ∷ run) xs ys w h a =
    let same = less_none x ys (below_each x.key k ys h.0 a) in
    let rest = run_stays k run xs ys w.1 h.1 a in (
      ap (λ r. left_first r (map (less ys) (run ++ xs))) same
          ∙ ap (λ b. cond (not b) (x ∷ cooled (run ++ xs) ys) (cooled (run ++ xs) ys)) w.0 ∙ ap (λ zs. x ∷ zs) rest.0,
      ap (λ r. keys (cond (is_cold r) (r ∷ filter is_cold (map (less ys) (run ++ xs))) (filter is_cold (map (less ys) (run ++ xs))))) same
          ∙ ap (λ b. keys (cond b (x ∷ filter is_cold (map (less ys) (run ++ xs))) (filter is_cold (map (less ys) (run ++ xs))))) w.0
          ∙ rest.1,
    )

-- and where no others are left all stay
all_stay : (xs : List Spot) → AllByRecursion (λ x. is_cold x ≡ false) xs → (cooled xs [] ≡ xs) × (cold_keys xs [] ≡ [])
all_stay [] w = (refl, refl)
all_stay (x ∷ xs) w =
    let same = less_none x [] tt in
    let rest = all_stay xs w.1 in (
      ap (λ r. left_first r (map (less []) xs)) same ∙ ap (λ b. cond (not b) (x ∷ cooled xs []) (cooled xs [])) w.0
          ∙ ap (λ zs. x ∷ zs) rest.0,
      ap (λ r. keys (cond (is_cold r) (r ∷ filter is_cold (map (less []) xs)) (filter is_cold (map (less []) xs)))) same
          ∙ ap (λ b. keys (cond b (x ∷ filter is_cold (map (less []) xs)) (filter is_cold (map (less []) xs)))) w.0 ∙ rest.1,
    )

-- the first i spots have been written to `out` less what the first j others take away, or to `cold`
pub record IsCooling (olds owns : List Spot) (i j : ℕ) (out : List Spot) (found : List ℕ) : Type 0 where
  pub spots : out ++ cooled (drop i olds) (drop j owns) ≡ cooled olds owns
  pub cold : found ++ cold_keys (drop i olds) (drop j owns) ≡ cold_keys olds owns

module _ {olds owns : List Spot} {i j : ℕ} {out : List Spot} {cold : List ℕ} (m : IsCooling olds owns i j out cold) (d : Spot) where
  -- a run of spots of which nothing is taken stays
  pub leaves_run : (n : ℕ) → j < length owns → AllByRecursion (λ x. is_cold x ≡ false) (take n (drop i olds))
      → AllByRecursion (λ x. x.key < (get_or owns j d).key) (take n (drop i olds))
      → AllByRecursion (λ z. (get_or owns j d).key < z.key) (drop (j + 1) owns)
      → IsCooling olds owns (i + n) j (out ++ take n (drop i olds)) cold
  leaves_run n lt warm below after =
      let run = take n (drop i olds) in
      let joined = run_joined i n olds in
      let above : AllByRecursion (λ y. (get_or owns j d).key ≤ y.key) (drop j owns) =
      subst (AllByRecursion (λ y. (get_or owns j d).key ≤ y.key)) (sym (drop_more owns j d lt))
      (at_least (get_or owns j d).key (get_or owns j d) (drop (j + 1) owns) refl after) in
      let stays = run_stays (get_or owns j d).key run (drop (i + n) olds) (drop j owns) warm below above in
      record {
        spots =
            append_assoc out run (cooled (drop (i + n) olds) (drop j owns))
            ∙ ap (λ zs. out ++ zs) (sym stays.0 ∙ ap (λ xs. cooled xs (drop j owns)) joined) ∙ m.spots;
        cold = ap (λ zs. cold ++ zs) (sym stays.1 ∙ ap (λ xs. cold_keys xs (drop j owns)) joined) ∙ m.cold;
      }

  -- once all others are past, all that is left stays
  pub leaves_rest : length owns ≤ j → AllByRecursion (λ x. is_cold x ≡ false) (drop i olds)
      → (out ++ drop i olds ≡ cooled olds owns) × (cold ≡ cold_keys olds owns)
  leaves_rest past warm =
      let none : drop j owns ≡ [] = drop_all j owns past in
      let stay = all_stay (drop i olds) warm in (
        ap (λ zs. out ++ zs) (sym stay.0 ∙ ap (cooled (drop i olds)) (sym none)) ∙ m.spots,
        sym (append-nil cold) ∙ ap (λ zs. cold ++ zs) (sym stay.1 ∙ ap (cold_keys (drop i olds)) (sym none)) ∙ m.cold,
      )

  -- what lies below all takes nothing
  pub passes_own : j < length owns → AllByRecursion (λ x. (get_or owns j d).key < x.key) (drop i olds)
      → IsCooling olds owns i (j + 1) out cold
  passes_own lt above =
      let same =
      less_skip (drop i olds) (get_or owns j d) (drop (j + 1) owns) above in
      record {
        spots =
            ap (λ zs. out ++ zs)
            (sym (ap (λ ys. cooled (drop i olds) ys) (drop_more owns j d lt)
            ∙ ap (filter (λ x. not (is_cold x))) same))
            ∙ m.spots;
        cold =
            ap (λ zs. cold ++ zs)
            (sym (ap (λ ys. cold_keys (drop i olds) ys) (drop_more owns j d lt)
            ∙ ap (λ xs. keys (filter is_cold xs)) same))
            ∙ m.cold;
      }

  module _ (lt : i < length olds) (lt' : j < length owns) (e : (get_or owns j d).key ≡ (get_or olds i d).key)
      (above : AllByRecursion (λ x. (get_or owns j d).key < x.key) (drop (i + 1) olds))
      (after : AllByRecursion (λ z. (get_or owns j d).key < z.key) (drop (j + 1) owns)) where
    abbrev pub what_left : Spot
    what_left =
        record {
          key = (get_or olds i d).key;
          ends = (get_or olds i d).ends - (get_or owns j d).ends;
          crossings = (get_or olds i d).crossings - (get_or owns j d).crossings;
        }

    parts : map (less (drop j owns)) (drop i olds) ≡ what_left ∷ map (less (drop (j + 1) owns)) (drop (i + 1) olds)
    parts =
        (λ k. map (less (drop_more owns j d lt' k)) (drop_more olds i d lt k))
        ∙ (λ k. less_both (get_or olds i d) (get_or owns j d) (drop (j + 1) owns) e after k
        ∷ less_skip (drop (i + 1) olds) (get_or owns j d) (drop (j + 1) owns) above k)

    -- a spot of which something is left
    leaves_some : is_cold what_left ≡ false → IsCooling olds owns (i + 1) (j + 1) (out ++ what_left ∷ []) cold
    leaves_some warm =
        record {
          spots =
              append_assoc out (what_left ∷ []) (cooled (drop (i + 1) olds) (drop (j + 1) owns))
              ∙ ap (λ zs. out ++ zs)
              (sym (ap (filter (λ x. not (is_cold x))) parts
              ∙ ap (λ b. cond (not b) (what_left ∷ cooled (drop (i + 1) olds) (drop (j + 1) owns)) (cooled (drop (i + 1) olds) (drop (j + 1) owns))) warm))
              ∙ m.spots;
          cold =
              ap (λ zs. cold ++ zs)
              (sym (ap (λ xs. keys (filter is_cold xs)) parts
              ∙ ap (λ b. keys (cond b (what_left ∷ filter is_cold (map (less (drop (j + 1) owns)) (drop (i + 1) olds)))
              (filter is_cold (map (less (drop (j + 1) owns)) (drop (i + 1) olds))))) warm))
              ∙ m.cold;
        }

    -- a spot of which nothing is left
    leaves_none : is_cold what_left ≡ true → IsCooling olds owns (i + 1) (j + 1) out (cold ++ (get_or olds i d).key ∷ [])
    leaves_none chilled =
        record {
          spots =
              ap (λ zs. out ++ zs)
              (sym (ap (filter (λ x. not (is_cold x))) parts
              ∙ ap (λ b. cond (not b) (what_left ∷ cooled (drop (i + 1) olds) (drop (j + 1) owns)) (cooled (drop (i + 1) olds) (drop (j + 1) owns))) chilled))
              ∙ m.spots;
          cold =
              append_assoc cold ((get_or olds i d).key ∷ []) (cold_keys (drop (i + 1) olds) (drop (j + 1) owns))
              ∙ ap (λ zs. cold ++ zs)
              (sym (ap (λ xs. keys (filter is_cold xs)) parts
              ∙ ap (λ b. keys (cond b (what_left ∷ filter is_cold (map (less (drop (j + 1) owns)) (drop (i + 1) olds)))
              (filter is_cold (map (less (drop (j + 1) owns)) (drop (i + 1) olds))))) chilled))
              ∙ m.cold;
        }

    -- what is left is written, or its key where nothing is left
    pub leaves_both : IsCooling olds owns (i + 1) (j + 1) (out ++ cond (is_cold what_left) [] (what_left ∷ []))
        (cold ++ cond (is_cold what_left) (what_left.key ∷ []) [])
    leaves_both = by (is_cold what_left) refl
      where
        by : (b : Bool) → is_cold what_left ≡ b
            → IsCooling olds owns (i + 1) (j + 1) (out ++ cond b [] (what_left ∷ [])) (cold ++ cond b (what_left.key ∷ []) [])
        by true e =
            subst (λ zs. IsCooling olds owns (i + 1) (j + 1) zs (cold ++ what_left.key ∷ [])) (sym (append-nil out)) (leaves_none e)
        by false e =
            subst (λ ks. IsCooling olds owns (i + 1) (j + 1) (out ++ what_left ∷ []) ks) (sym (append-nil cold)) (leaves_some e)

-- ---- rows without the steps that are gone

no_step : (k : ℕ) (gone : List ℕ) → AllByRecursion (λ g. k < g) gone → has_key gone k ≡ false
no_step k [] h = refl
no_step k (g ∷ gone) h = ap (λ b. b || has_key gone k) (other_key g k h.0) ∙ no_step k gone h.1

thinned_but : (g : ℕ) (gone old : List ℕ) → AllByRecursion (λ k. g < k) old → thinned_row (g ∷ gone) old ≡ thinned_row gone old
thinned_but g gone [] h = refl
thinned_but g gone (k ∷ old) h =
    λ i. cond (not (lesser_key g k h.0 i || has_key gone k)) (k ∷ thinned_but g gone old h.1 i) (thinned_but g gone old h.1 i)

-- where none is gone all stay
pub none_gone : (old : List ℕ) → thinned_row [] old ≡ old
none_gone [] = refl
none_gone (k ∷ old) = ap (λ ks. k ∷ ks) (none_gone old)

-- the first i steps have been written to `out`, less the first j that are gone
pub record IsThinning (old gone : List ℕ) (i j : ℕ) (out : List ℕ) : Type 0 where
  pub steps : out ++ thinned_row (drop j gone) (drop i old) ≡ thinned_row gone old

module _ {old gone : List ℕ} {i j : ℕ} {out : List ℕ} (m : IsThinning old gone i j out) where
  pub keeps_step : (d : ℕ) → i < length old → AllByRecursion (λ g. get_or old i d < g) (drop j gone)
      → IsThinning old gone (i + 1) j (out ++ get_or old i d ∷ [])
  keeps_step d lt above = record {
    steps =
        append_assoc out (get_or old i d ∷ []) (thinned_row (drop j gone) (drop (i + 1) old))
        ∙ ap (λ zs. out ++ zs)
        (sym (ap (thinned_row (drop j gone)) (drop_more old i d lt)
        ∙ ap (λ b. cond (not b) (get_or old i d ∷ thinned_row (drop j gone) (drop (i + 1) old)) (thinned_row (drop j gone) (drop (i + 1) old)))
        (no_step (get_or old i d) (drop j gone) above)))
        ∙ m.steps;
  }

  pub passes_gone : (d : ℕ) → j < length gone → AllByRecursion (λ k. get_or gone j d < k) (drop i old)
      → IsThinning old gone i (j + 1) out
  passes_gone d lt above = record {
    steps =
        ap (λ zs. out ++ zs)
        (sym (ap (λ gs. thinned_row gs (drop i old)) (drop_more gone j d lt) ∙ thinned_but (get_or gone j d) (drop (j + 1) gone) (drop i old) above))
        ∙ m.steps;
  }

  pub drops_step : (d : ℕ) → i < length old → j < length gone → get_or gone j d ≡ get_or old i d
      → AllByRecursion (λ k. get_or gone j d < k) (drop (i + 1) old)
      → IsThinning old gone (i + 1) (j + 1) out
  drops_step d lt lt' e above = record {
    steps =
        ap (λ zs. out ++ zs)
        (sym ((λ k. thinned_row (drop_more gone j d lt' k) (drop_more old i d lt k))
        ∙ ap (λ b. cond (not (b || has_key (drop (j + 1) gone) (get_or old i d)))
        (get_or old i d ∷ thinned_row (get_or gone j d ∷ drop (j + 1) gone) (drop (i + 1) old))
        (thinned_row (get_or gone j d ∷ drop (j + 1) gone) (drop (i + 1) old))) (own_key (get_or gone j d) (get_or old i d) e)
        ∙ thinned_but (get_or gone j d) (drop (j + 1) gone) (drop (i + 1) old) above))
        ∙ m.steps;
  }

  -- where no step is left, or nothing that is gone, the others stay
  pub keeps_rest : (length old ≤ i) ⊎ (length gone ≤ j) → out ++ take (length old - i) (drop i old) ≡ thinned_row gone old
  keeps_rest ended = ap (λ ks. out ++ ks) (take_all (length old - i) (drop i old) (omega (arith, length-drop i old))) ∙ rest_kept ended
    where
      rest_kept : (length old ≤ i) ⊎ (length gone ≤ j) → out ++ drop i old ≡ thinned_row gone old
      rest_kept (inl h) =
          (λ k. out ++ drop_all i old h k) ∙ sym (λ k. out ++ thinned_row (drop j gone) (drop_all i old h k)) ∙ m.steps
      rest_kept (inr h) =
          sym (ap (λ gs. out ++ thinned_row gs (drop i old)) (drop_all j gone h)
          ∙ ap (λ zs. out ++ zs) (none_gone (drop i old)))
          ∙ m.steps
