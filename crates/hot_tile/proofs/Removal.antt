-- Where the segment of a name stands in a live list, and the list without it.
-- What isn't before the name begins with the segment of the name, as the list has it and names rise.
use Rattle.std.proofs.Common.{◌≡◌, refl, ap, sym, ◌∙◌, subst, ℕ, zero, suc, ◌<◌, arith, Bool, true, false, cond, Less, Equal, is_lt, is_eq, List, [], ◌∷◌, ◌++◌, length, get_or, take, drop, inl, inr}
use Rattle.std.specs.Prelude.{not, Contains, ◌⊎◌}
use Rattle.std.specs.List.{filter, AllByRecursion}
use Rattle.std.specs.List.Sorted.{IsStrictlySortedBy}
use Rattle.std.specs.Ordering.{ordering_reverse}
use Rattle.std.proofs.lemmas.Cmp.{tied_itself}
use Rattle.std.proofs.lemmas.List.{map-append, take-append-drop}
use Rattle.std.proofs.lemmas.List.Elements.{Contains-append_cases, filter-append, All-contains, All-from_recursion}
use Rattle.std.proofs.lemmas.Map.Keys.{sorted_head}
use Rattle.grid_core.specs.Name.{Label, label_cmp, label_eq}
use Rattle.grid_core.specs.Segment.{Segment}
use Rattle.grid_core.specs.LiveList.{names, without_name}
use Rattle.grid_core.proofs.Comparisons.{is_less}
use Rattle.grid_core.proofs.Order.{label_total}
use Rattle.grid_core.proofs.Filters.{all_kept, every_kept}
use Rattle.grid_core.proofs.ListMembers.{contains_cases}

itself : (k : Label) → label_cmp k k ≡ Equal
itself k = tied_itself label_total k

-- the names that a list hasn't
no_member : (P : Label → Type 0) (ks : List Label) (k : Label) → AllByRecursion P ks → Contains ks k → P k
no_member P ks k h c = All-contains P ks k (All-from_recursion P ks h) c

-- what is behind a name isn't the name
others_behind : (k : Label) (xs : List Segment) → AllByRecursion (λ n. label_cmp k n ≡ Less) (names xs)
    → AllByRecursion (λ (u : Segment). not (label_eq u.name k) ≡ true) xs
others_behind k [] h = tt
others_behind k (x ∷ xs) h =
    (ap (λ r. not (is_eq r)) (label_total.antisymm x.name k ∙ ap ordering_reverse h.0), others_behind k xs h.1)

-- what is before a name isn't the name
others_before : (k : Label) (xs : List Segment) → AllByRecursion (λ (u : Segment). is_lt (label_cmp u.name k) ≡ true) xs
    → AllByRecursion (λ (u : Segment). not (label_eq u.name k) ≡ true) xs
others_before k [] h = tt
others_before k (x ∷ xs) h = (ap (λ r. not (is_eq r)) (is_less (label_cmp x.name k) h.0), others_before k xs h.1)

lesser_names : (k : Label) (xs : List Segment) → AllByRecursion (λ (u : Segment). is_lt (label_cmp u.name k) ≡ true) xs
    → AllByRecursion (λ n. label_cmp n k ≡ Less) (names xs)
lesser_names k [] h = tt
lesser_names k (x ∷ xs) h = (is_less (label_cmp x.name k) h.0, lesser_names k xs h.1)

-- a list in order that has a name, and nothing before it, begins with the segment of the name
first_is : (k : Label) (xs : List Segment) → IsStrictlySortedBy label_cmp (names xs)
    → AllByRecursion (λ (u : Segment). is_lt (label_cmp u.name k) ≡ false) xs → Contains (names xs) k
    → (x : Segment) × (rest : List Segment) × (xs ≡ x ∷ rest) × (x.name ≡ k)
    × AllByRecursion (λ (u : Segment). not (label_eq u.name k) ≡ true) rest
first_is k [] s h c = absurd (omega (arith, c.1))
first_is k (x ∷ xs) s h c = by (contains_cases x.name (names xs) k c)
  where
    above : AllByRecursion (λ n. label_cmp x.name n ≡ Less) (names xs)
    above = sorted_head label_cmp x.name (names xs) s

    by : (x.name ≡ k) ⊎ Contains (names xs) k
        → (y : Segment) × (rest : List Segment) × ((x ∷ xs) ≡ y ∷ rest) × (y.name ≡ k)
        × AllByRecursion (λ (u : Segment). not (label_eq u.name k) ≡ true) rest
    by (inl e) = (x, xs, refl, e, others_behind k xs (subst (λ m. AllByRecursion (λ n. label_cmp m n ≡ Less) (names xs)) e above))
    by (inr later) =
        let less = no_member (λ n. label_cmp x.name n ≡ Less) (names xs) k above later in
        let not_less = h.0 in
        absurd (cc (not_less, ap is_lt less))

not_true : (p : Segment → Bool) (xs : List Segment) → AllByRecursion (λ u. not (p u) ≡ true) xs → AllByRecursion (λ u. p u ≡ false) xs
not_true p [] h = tt
not_true p (x ∷ xs) h = (by (p x) h.0, not_true p xs h.1)
  where
    by : (b : Bool) → not b ≡ true → b ≡ false
    by true e = cc
    by false e = refl

sorted_from : (ss : List Segment) (i : ℕ) → IsStrictlySortedBy label_cmp (names ss) → IsStrictlySortedBy label_cmp (names (drop i ss))
unfolding IsStrictlySortedBy
sorted_from ss zero s = s
sorted_from [] (suc i) s = tt
sorted_from (x ∷ xs) (suc i) s = sorted_from xs i s.1

drop_one : (ss : List Segment) (i : ℕ) (x : Segment) (rest : List Segment) → drop i ss ≡ x ∷ rest
    → (i < length ss) × (drop (suc i) ss ≡ rest) × ((d : Segment) → get_or ss i d ≡ x)
drop_one [] zero x rest e = absurd (cc)
drop_one [] (suc i) x rest e = absurd (cc)
drop_one (s ∷ ss) zero x rest e = (omega arith, tail e, λ d. head e)
  where
    head : (s ∷ ss) ≡ x ∷ rest → s ≡ x
    head e = cc

    tail : (s ∷ ss) ≡ x ∷ rest → ss ≡ rest
    tail e = cc
drop_one (s ∷ ss) (suc i) x rest e =
    let r = drop_one ss i x rest e in (omega (arith, r.0), r.1, r.2)

module _ (ss : List Segment) (name : Label) (at : ℕ) (order : IsStrictlySortedBy label_cmp (names ss))
    (lesser : take at ss ≡ filter (λ u. is_lt (label_cmp u.name name)) ss)
    (others : drop at ss ≡ filter (λ u. not (is_lt (label_cmp u.name name))) ss)
    (there : Contains (names ss) name) where
  lower : Segment → Bool
  lower u = is_lt (label_cmp u.name name)

  front : AllByRecursion (λ (u : Segment). is_lt (label_cmp u.name name) ≡ true) (take at ss)
  front =
      subst (AllByRecursion (λ (u : Segment). is_lt (label_cmp u.name name) ≡ true)) (sym lesser)
      (all_kept (λ (u : Segment). is_lt (label_cmp u.name name) ≡ true) (λ u. is_lt (label_cmp u.name name)) (λ u h. h) ss)

  back : AllByRecursion (λ (u : Segment). is_lt (label_cmp u.name name) ≡ false) (drop at ss)
  back =
      not_true (λ u. is_lt (label_cmp u.name name)) (drop at ss)
      (subst (AllByRecursion (λ (u : Segment). not (is_lt (label_cmp u.name name)) ≡ true)) (sym others)
      (all_kept (λ (u : Segment). not (is_lt (label_cmp u.name name)) ≡ true) (λ u. not (is_lt (label_cmp u.name name))) (λ u h. h) ss))

  in_back : Contains (names (drop at ss)) name
  in_back =
      by (Contains-append_cases (names (take at ss)) (names (drop at ss)) name
      (subst (λ ks. Contains ks name) (sym (ap names (take-append-drop at ss)) ∙ map-append (λ (u : Segment). u.name) (take at ss) (drop at ss)) there))
    where
      by : Contains (names (take at ss)) name ⊎ Contains (names (drop at ss)) name → Contains (names (drop at ss)) name
      by (inl c) =
          let less = no_member (λ n. label_cmp n name ≡ Less) (names (take at ss)) name (lesser_names name (take at ss) front) c in
          absurd (cc (less, itself name))
      by (inr c) = c

  abbrev first : (x : Segment) × (rest : List Segment) × (drop at ss ≡ x ∷ rest) × (x.name ≡ name)
      × AllByRecursion (λ (u : Segment). not (label_eq u.name name) ≡ true) rest
  first = first_is name (drop at ss) (sorted_from ss at order) back in_back

  -- the index is that of the segment of the name
  pub found : at < length ss
  found = (drop_one ss at first.0 first.1 first.2).0

  pub named : (d : Segment) → (get_or ss at d).name ≡ name
  named d = ap (λ (u : Segment). u.name) ((drop_one ss at first.0 first.1 first.2).2 d) ∙ first.3

  -- without what stands there the list is without the name
  pub taken_out : take at ss ++ drop (suc at) ss ≡ without_name ss name
  taken_out =
      let one = drop_one ss at first.0 first.1 first.2 in
      (λ i. take at ss ++ one.1 i)
      ∙ (λ i. sym (every_kept (λ u. not (label_eq u.name name)) (take at ss) (others_before name (take at ss) front)) i
      ++ sym (every_kept (λ u. not (label_eq u.name name)) first.1 first.4) i)
      ∙ (λ i. filter (λ u. not (label_eq u.name name)) (take at ss)
      ++ sym (ap (λ r. cond (not (is_eq r)) (first.0 ∷ filter (λ u. not (label_eq u.name name)) first.1)
      (filter (λ u. not (label_eq u.name name)) first.1)) (ap (λ k. label_cmp k name) first.3 ∙ itself name)) i)
      ∙ (λ i. filter (λ u. not (label_eq u.name name)) (take at ss) ++ filter (λ u. not (label_eq u.name name)) (sym first.2 i))
      ∙ sym (filter-append (λ u. not (label_eq u.name name)) (take at ss) (drop at ss))
      ∙ ap (λ us. without_name us name) (take-append-drop at ss)

-- a list whose only segment goes is empty
pub alone : (ss : List Segment) (name : Label) → length ss ≡ 1 → Contains (names ss) name → [] ≡ without_name ss name
alone [] name e c = absurd (omega (arith, e))
alone (s ∷ []) name e c = by (contains_cases s.name [] name c)
  where
    by : (s.name ≡ name) ⊎ Contains [] name → [] ≡ without_name (s ∷ []) name
    by (inl same) = sym (ap (λ r. cond (not (is_eq r)) (s ∷ []) []) (ap (label_cmp s.name) (sym same) ∙ itself s.name))
    by (inr none) = absurd (omega (arith, none.1))
alone (s ∷ t ∷ ss) name e c = absurd (omega (arith, e))
