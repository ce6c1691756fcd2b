-- What a search by key finds in a list in order: the one thing of the key, or none.
-- Before the index all is below the key; what stands there is the thing of the key or above it, and so is all behind.
use Rattle.std.proofs.Common.{◌≡◌, refl, ap, sym, ◌∙◌, subst, ℕ, zero, suc, ◌+◌, ◌<◌, ◌≤◌, arith, Bool, true, false, cond, Ordering, Less, Equal, Greater, is_lt, is_eq, List, [], ◌∷◌, ◌++◌, map, length, get_or, take, drop}
use Rattle.std.specs.Prelude.{not, Contains, ◌⊎◌}
use Rattle.std.proofs.Common.{inl, inr}
use Rattle.std.specs.Cmp.{IsTotalOrder}
use Rattle.std.specs.List.{filter, AllByRecursion}
use Rattle.std.specs.List.Sorted.{IsStrictlySortedBy}
use Rattle.std.specs.Ordering.{ordering_reverse}
use Rattle.std.proofs.lemmas.List.{take-append-drop, drop_more, drop_all}
use Rattle.std.proofs.lemmas.List.Elements.{filter-append}
use Rattle.std.proofs.lemmas.Map.Keys.{sorted_head}
use Rattle.grid_core.specs.Name.{Label, label_eq}
use Rattle.grid_core.specs.Segment.{Segment}
use Rattle.grid_core.specs.LiveList.{names}
use Rattle.grid_core.proofs.Comparisons.{is_less, label_decides}
use Rattle.grid_core.proofs.ListMembers.{contains_first, contains_later, contains_cases}
use Rattle.grid_core.proofs.Filters.{all_kept, none_kept}

module _ {X K : Type 0} {R : K → K → Ordering} (o : IsTotalOrder R) (key : X → K) (n : K) where
  sorted_from : (xs : List X) (i : ℕ) → IsStrictlySortedBy R (map key xs) → IsStrictlySortedBy R (map key (drop i xs))
  unfolding IsStrictlySortedBy
  sorted_from xs zero s = s
  sorted_from [] (suc i) s = tt
  sorted_from (x ∷ xs) (suc i) s = sorted_from xs i s.1

  lower_none : (xs : List X) → AllByRecursion (λ x. is_lt (R (key x) n) ≡ true) xs → filter (λ x. is_eq (R (key x) n)) xs ≡ []
  lower_none xs h = none_kept (λ x. is_eq (R (key x) n)) xs (each xs h)
    where
      each : (ys : List X) → AllByRecursion (λ x. is_lt (R (key x) n) ≡ true) ys → AllByRecursion (λ x. is_eq (R (key x) n) ≡ false) ys
      each [] h = tt
      each (y ∷ ys) h = (ap is_eq (is_less (R (key y) n) h.0), each ys h.1)

  -- what is behind something that isn't below n isn't n
  above_none : (x : X) (xs : List X) → is_lt (R (key x) n) ≡ false → AllByRecursion (λ k. R (key x) k ≡ Less) (map key xs)
      → filter (λ y. is_eq (R (key y) n)) xs ≡ []
  above_none x xs not_less h = none_kept (λ y. is_eq (R (key y) n)) xs (each xs h)
    where
      other : (y : X) → R (key x) (key y) ≡ Less → (r : Ordering) → R (key y) n ≡ r → is_eq r ≡ false
      other y less Less e = refl
      other y less Greater e = refl
      other y less Equal e =
          let x_less : R (key x) n ≡ Less =
          o.antisymm (key x) n ∙ ap ordering_reverse (sym (o.congr (key y) n (key x) e)) ∙ sym (o.antisymm (key x) (key y)) ∙ less in
          absurd (cc (not_less, ap is_lt x_less))

      each : (ys : List X) → AllByRecursion (λ k. R (key x) k ≡ Less) (map key ys) → AllByRecursion (λ y. is_eq (R (key y) n) ≡ false) ys
      each [] h = tt
      each (y ∷ ys) h = (other y h.0 (R (key y) n) refl, each ys h.1)

  module _ (xs : List X) (i : ℕ) (order : IsStrictlySortedBy R (map key xs))
      (lesser : take i xs ≡ filter (λ x. is_lt (R (key x) n)) xs)
      (others : drop i xs ≡ filter (λ x. not (is_lt (R (key x) n))) xs) where
    before : filter (λ x. is_eq (R (key x) n)) (take i xs) ≡ []
    before =
        lower_none (take i xs)
        (subst (AllByRecursion (λ x. is_lt (R (key x) n) ≡ true)) (sym lesser)
        (all_kept (λ x. is_lt (R (key x) n) ≡ true) (λ x. is_lt (R (key x) n)) (λ x h. h) xs))

    rest : filter (λ x. is_eq (R (key x) n)) xs ≡ filter (λ x. is_eq (R (key x) n)) (drop i xs)
    rest =
        ap (filter (λ x. is_eq (R (key x) n))) (sym (take-append-drop i xs))
        ∙ filter-append (λ x. is_eq (R (key x) n)) (take i xs) (drop i xs)
        ∙ ap (λ ys. ys ++ filter (λ x. is_eq (R (key x) n)) (drop i xs)) before

    not_less : (d : X) → i < length xs → is_lt (R (key (get_or xs i d)) n) ≡ false
    not_less d lt =
        by (R (key (get_or xs i d)) n) (subst (AllByRecursion (λ x. not (is_lt (R (key x) n)) ≡ true)) (drop_more xs i d lt)
        (subst (AllByRecursion (λ x. not (is_lt (R (key x) n)) ≡ true)) (sym others)
        (all_kept (λ x. not (is_lt (R (key x) n)) ≡ true) (λ x. not (is_lt (R (key x) n))) (λ x h. h) xs))).0
      where
        by : (r : Ordering) → not (is_lt r) ≡ true → is_lt r ≡ false
        by Less h = cc
        by Equal h = refl
        by Greater h = refl

    behind : (d : X) → i < length xs → filter (λ x. is_eq (R (key x) n)) (drop (i + 1) xs) ≡ []
    behind d lt =
        above_none (get_or xs i d) (drop (i + 1) xs) (not_less d lt)
        (sorted_head R (key (get_or xs i d)) (map key (drop (i + 1) xs))
        (subst (λ ys. IsStrictlySortedBy R (map key ys)) (drop_more xs i d lt) (sorted_from xs i order)))

    -- past the end nothing of the key is found
    pub none_past : length xs ≤ i → filter (λ x. is_eq (R (key x) n)) xs ≡ []
    none_past le = rest ∙ ap (filter (λ x. is_eq (R (key x) n))) (drop_all i xs le)

    -- something of another key says that there is none
    pub none_there : (d : X) → i < length xs → is_eq (R (key (get_or xs i d)) n) ≡ false → filter (λ x. is_eq (R (key x) n)) xs ≡ []
    none_there d lt other =
        rest ∙ ap (filter (λ x. is_eq (R (key x) n))) (drop_more xs i d lt)
        ∙ (λ k. cond (other k) (get_or xs i d ∷ filter (λ x. is_eq (R (key x) n)) (drop (i + 1) xs)) (behind d lt k))

    -- what is there is the one of the key
    pub one_there : (d : X) → i < length xs → is_eq (R (key (get_or xs i d)) n) ≡ true
        → filter (λ x. is_eq (R (key x) n)) xs ≡ get_or xs i d ∷ []
    one_there d lt same =
        rest ∙ ap (filter (λ x. is_eq (R (key x) n))) (drop_more xs i d lt)
        ∙ (λ k. cond (same k) (get_or xs i d ∷ behind d lt k) (filter (λ x. is_eq (R (key x) n)) (drop (i + 1) xs)))

-- ---- segments by name

-- where a search finds no segment, no segment has the name
pub no_name : (ss : List Segment) (name : Label) → filter (λ (s : Segment). label_eq s.name name) ss ≡ [] → Contains (names ss) name → ⊥
no_name [] name none c = omega (arith, c.1)
no_name (s ∷ ss) name none c = by (no_name ss name) (label_eq s.name name) refl none (contains_cases s.name (names ss) name c)
  where
    by : (filter (λ (s : Segment). label_eq s.name name) ss ≡ [] → Contains (names ss) name → ⊥) → (b : Bool)
        → label_eq s.name name ≡ b
        → cond b (s ∷ filter (λ (s : Segment). label_eq s.name name) ss) (filter (λ (s : Segment). label_eq s.name name) ss) ≡ []
        → (s.name ≡ name) ⊎ Contains (names ss) name → ⊥
    by rest true e none c = cc none
    by rest false e none (inl same) =
        let found = (label_decides s.name name).1 same in cc (e, found)
    by rest false e none (inr later) = rest none later

-- the segment that a search finds has the name
pub has_name : (ss : List Segment) (name : Label) (one : Segment) → filter (λ (s : Segment). label_eq s.name name) ss ≡ one ∷ []
    → Contains (names ss) name
has_name [] name one e = absurd (cc e)
has_name (s ∷ ss) name one e = by (has_name ss name one) (label_eq s.name name) refl e
  where
    by : (filter (λ (s : Segment). label_eq s.name name) ss ≡ one ∷ [] → Contains (names ss) name) → (b : Bool)
        → label_eq s.name name ≡ b
        → cond b (s ∷ filter (λ (s : Segment). label_eq s.name name) ss) (filter (λ (s : Segment). label_eq s.name name) ss) ≡ one ∷ []
        → Contains (s.name ∷ names ss) name
    by rest true e f =
        subst (λ n. Contains (s.name ∷ names ss) n) ((label_decides s.name name).0 e) (contains_first s.name (names ss))
    by rest false e f = contains_later s.name (names ss) name (rest f)
