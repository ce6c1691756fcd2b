-- The values of keys in a list, as keys are put into it and taken out: pixels that stand once, and
-- names that rise. Each law runs along the keys; a value that stands once is that of one key alone.
use Rattle.std.proofs.Common.{◌≡◌, refl, ap, sym, ◌∙◌, subst, ℕ, ◌≤◌, arith, Bool, true, false, cond, not, ◌||◌, true≢false, List, [], ◌∷◌, ◌++◌, Option, None, Some, Less, Equal, Greater, is_lt, ◌⊎◌, ⊎_elim}
use Rattle.std.specs.Prelude.{◌==◌, filter, count_by}
use Rattle.std.specs.Bool.{Decides}
use Rattle.std.specs.List.{list_any, cons_option, AllByRecursion}
use Rattle.std.specs.List.Sorted.{IsStrictlySortedBy}
use Rattle.std.specs.Ordering.{ordering_reverse}
use Rattle.std.proofs.lemmas.Bool.{or_left, or_right, or_cases, false_from_ne_true}
use Rattle.std.proofs.lemmas.Bool.Decides.{Decides-eqb, not_from_Decides}
use Rattle.std.proofs.lemmas.Cmp.{tied_itself}
use Rattle.std.proofs.lemmas.List.Sums.{sum_by-cons}
use Rattle.std.proofs.lemmas.Map.Keys.{sorted_head, sorted_tail}
use Rattle.grid_core.specs.declared.point.Point.{Point}
use Rattle.grid_core.specs.Vector.{point_eq}
use Rattle.grid_core.specs.Name.{Label, label_cmp, label_eq}
use Rattle.grid_core.proofs.Order.{label_total}
use Rattle.pass_links.specs.Passes.{put_behind, with_name}
use Rattle.pass_links.specs.Chain.{end, IsWay, key_behind, has_key, listed}
use Rattle.grid_core.proofs.Comparisons.{point_decides, label_decides}
use Rattle.grid_core.proofs.Filters.{counted, count_none, count_some, none_left}
use Rattle.pass_links.proofs.KeyLaws.{key_itself, keys_swapped}
use Rattle.pass_links.proofs.ChainLaws.{filter_absent}

-- ---- values of keys

-- other values that agree on the keys of the list
pub listed_as : {V : Type 0} (v v' : ℕ → Option V) (ks : List ℕ) → ((k : ℕ) → has_key ks k ≡ true → v' k ≡ v k) → listed v' ks ≡ listed v ks
listed_as v v' [] h = refl
listed_as v v' (k ∷ ks) h =
    let rest : listed v' ks ≡ listed v ks = listed_as v v' ks (λ j t. h j (or_right (j == k) (has_key ks j) t)) in
    λ i. cons_option (h k (or_left (k == k) (has_key ks k) (key_itself k)) i) (rest i)

-- a key in front
pub listed_first : {V : Type 0} (v : ℕ → Option V) (x : ℕ) (a : V) (ks : List ℕ) → v x ≡ Some a → listed v (x ∷ ks) ≡ a ∷ listed v ks
listed_first v x a ks e = ap (λ o. cons_option o (listed v ks)) e

module _ {V : Type 0} (same : V → V → Bool) (decides : (a b : V) → Decides (same a b) (a ≡ b)) where
  -- the value of a key of the list is among the values
  pub listed_has : (v : ℕ → Option V) (k : ℕ) (a : V) (ks : List ℕ) → v k ≡ Some a → has_key ks k ≡ true → list_any (same a) (listed v ks) ≡ true
  listed_has v k a [] e h = absurd (true≢false (sym h))
  listed_has v k a (j ∷ ks) e h =
      ⊎_elim
      (λ t. ap (list_any (same a)) (listed_first v j a ks (sym (ap v ((Decides-eqb k j).0 t)) ∙ e)) ∙ or_left (same a a) (list_any (same a) (listed v ks)) ((decides a a).1 refl))
      (λ t. by (listed_has v k a ks e t) (v j)) (or_cases (k == j) (has_key ks k) h)
    where
      by : list_any (same a) (listed v ks) ≡ true → (o : Option V) → list_any (same a) (cons_option o (listed v ks)) ≡ true
      by rest None = rest
      by rest (Some b) = or_right (same a b) (list_any (same a) (listed v ks)) rest

  -- where a value stands once and comes later, the first one is another
  other_first : (a b : V) (bs : List V) → count_by (same a) (b ∷ bs) ≤ 1 → list_any (same a) bs ≡ true → same a b ≡ false
  other_first a b bs once later =
      false_from_ne_true (same a b) (λ t. omega (arith, once, sum_by-cons (λ c. cond (same a c) 1 0) b bs, ap counted t, count_some (same a) bs later))

  once_later : (a b : V) (bs : List V) → count_by (same a) (b ∷ bs) ≤ 1 → count_by (same a) bs ≤ 1
  once_later a b bs once = omega (arith, once, sum_by-cons (λ c. cond (same a c) 1 0) b bs)

  gone_later : (a : V) (bs : List V) → count_by (same a) (a ∷ bs) ≤ 1 → list_any (same a) bs ≡ false
  gone_later a bs once =
      false_from_ne_true (list_any (same a) bs) (λ t. true≢false (sym ((decides a a).1 refl) ∙ other_first a a bs once t))

  -- one key out of the list, and its value out of the values, where it stands once
  pub listed_without : (v : ℕ → Option V) (y : ℕ) (a : V) (ks : List ℕ) → v y ≡ Some a → has_key ks y ≡ true → count_by (same a) (listed v ks) ≤ 1
      → listed v (filter (λ k. not (k == y)) ks) ≡ filter (λ b. not (same b a)) (listed v ks)
  listed_without v y a [] e h once = refl
  listed_without v y a (k ∷ ks) e h once = by (listed_without v y a ks e) (k == y) refl
    where
      rests : List ℕ
      rests = filter (λ j. not (j == y)) ks

      lefts : List V → List V
      lefts bs = filter (λ b. not (same b a)) bs

      dropped : k ≡ y → listed v rests ≡ lefts (listed v (k ∷ ks))
      dropped at =
          let front : listed v (k ∷ ks) ≡ a ∷ listed v ks = listed_first v k a ks (ap v at ∙ e) in
          let gone : list_any (same a) (listed v ks) ≡ false = gone_later a (listed v ks) (subst (λ l. count_by (same a) l ≤ 1) front once) in
          let absent : has_key ks y ≡ false = false_from_ne_true (has_key ks y) (λ t. true≢false (sym (listed_has v y a ks e t) ∙ gone)) in
          ap (listed v) (filter_absent y ks absent)
          ∙ sym (ap lefts front ∙ ap (λ b. cond (not b) (a ∷ lefts (listed v ks)) (lefts (listed v ks))) ((decides a a).1 refl) ∙ none_left same decides a (listed v ks) gone)

      kept : has_key ks y ≡ true → (count_by (same a) (listed v ks) ≤ 1 → listed v rests ≡ lefts (listed v ks))
          → (o : Option V) → v k ≡ o → cons_option o (listed v rests) ≡ lefts (cons_option o (listed v ks))
      kept later rest None t = rest (subst (λ o. count_by (same a) (cons_option o (listed v ks)) ≤ 1) t once)
      kept later rest (Some b) t =
          let all : count_by (same a) (b ∷ listed v ks) ≤ 1 = subst (λ o. count_by (same a) (cons_option o (listed v ks)) ≤ 1) t once in
          let other : same a b ≡ false = other_first a b (listed v ks) all (listed_has v y a ks e later) in
          let back : same b a ≡ false = false_from_ne_true (same b a) (λ u. not_from_Decides (same a b) (decides a b) other (sym ((decides b a).0 u))) in
          ap (λ l. b ∷ l) (rest (once_later a b (listed v ks) all))
          ∙ sym (ap (λ c. cond (not c) (b ∷ lefts (listed v ks)) (lefts (listed v ks))) back)

      by : (has_key ks y ≡ true → count_by (same a) (listed v ks) ≤ 1 → listed v rests ≡ lefts (listed v ks))
          → (b : Bool) → (k == y) ≡ b → listed v (cond (not b) (k ∷ rests) rests) ≡ lefts (listed v (k ∷ ks))
      by rest true t = dropped ((Decides-eqb k y).0 t)
      by rest false t =
          let later : has_key ks y ≡ true = ap (λ b. b || has_key ks y) (sym (keys_swapped y k ∙ t)) ∙ h in
          kept later (rest later) (v k) refl

-- ---- pixels behind pixels

-- a pixel's key behind another, and the pixel behind the other, which stands once
pub listed_behind : (v : ℕ → Option Point) (p x : ℕ) (a b : Point) (ks : List ℕ) → v p ≡ Some a → v x ≡ Some b → has_key ks p ≡ true
    → count_by (point_eq a) (listed v ks) ≤ 1 → listed v (key_behind p x ks) ≡ put_behind a b (listed v ks)
listed_behind v p x a b [] e f h once = absurd (true≢false (sym h))
listed_behind v p x a b (k ∷ ks) e f h once = by (listed_behind v p x a b ks e f) (p == k) refl
  where
    found : k ≡ p → listed v (k ∷ x ∷ ks) ≡ put_behind a b (listed v (k ∷ ks))
    found at =
        let of_k : v k ≡ Some a = ap v at ∙ e in
        listed_first v k a (x ∷ ks) of_k ∙ ap (λ l. a ∷ l) (listed_first v x b ks f)
        ∙ sym (ap (put_behind a b) (listed_first v k a ks of_k) ∙ ap (λ c. cond c (a ∷ b ∷ listed v ks) (a ∷ put_behind a b (listed v ks))) ((point_decides a a).1 refl))

    passed : has_key ks p ≡ true → (count_by (point_eq a) (listed v ks) ≤ 1 → listed v (key_behind p x ks) ≡ put_behind a b (listed v ks))
        → (o : Option Point) → v k ≡ o → cons_option o (listed v (key_behind p x ks)) ≡ put_behind a b (cons_option o (listed v ks))
    passed later rest None t = rest (subst (λ o. count_by (point_eq a) (cons_option o (listed v ks)) ≤ 1) t once)
    passed later rest (Some c) t =
        let all : count_by (point_eq a) (c ∷ listed v ks) ≤ 1 = subst (λ o. count_by (point_eq a) (cons_option o (listed v ks)) ≤ 1) t once in
        let other : point_eq a c ≡ false = other_first point_eq point_decides a c (listed v ks) all (listed_has point_eq point_decides v p a ks e later) in
        ap (λ l. c ∷ l) (rest (once_later point_eq point_decides a c (listed v ks) all))
        ∙ sym (ap (λ d. cond d (c ∷ b ∷ listed v ks) (c ∷ put_behind a b (listed v ks))) other)

    by : (has_key ks p ≡ true → count_by (point_eq a) (listed v ks) ≤ 1 → listed v (key_behind p x ks) ≡ put_behind a b (listed v ks))
        → (d : Bool) → (p == k) ≡ d → listed v (cond d (k ∷ x ∷ ks) (k ∷ key_behind p x ks)) ≡ put_behind a b (listed v (k ∷ ks))
    by rest true t = found (sym ((Decides-eqb p k).0 t))
    by rest false t =
        let later : has_key ks p ≡ true = ap (λ d. d || has_key ks p) (sym t) ∙ h in
        passed later (rest later) (v k) refl

-- ---- names in order

-- what holds of all names holds of one of them
of_one : (P : Label → Type 0) (n : Label) (ns : List Label) → AllByRecursion P ns → list_any (label_eq n) ns ≡ true → P n
of_one P n [] all h = absurd (true≢false (sym h))
of_one P n (m ∷ ns) all h =
    ⊎_elim (λ t. subst P (sym ((label_decides n m).0 t)) all.0) (λ t. of_one P n ns all.1 t) (or_cases (label_eq n m) (list_any (label_eq n) ns) h)

-- a rising list has a name at most once
pub rising_once : (n : Label) (ns : List Label) → IsStrictlySortedBy label_cmp ns → count_by (label_eq n) ns ≤ 1
rising_once n [] s = omega arith
rising_once n (m ∷ ns) s = by (rising_once n ns (sorted_tail label_cmp m ns s)) (label_eq n m) refl
  where
    alone : label_eq n m ≡ true → count_by (label_eq n) ns ≡ 0
    alone t =
        count_none (label_eq n) ns
        (false_from_ne_true (list_any (label_eq n) ns)
        (λ u. let less : label_cmp m n ≡ Less = of_one (λ j. label_cmp m j ≡ Less) n ns (sorted_head label_cmp m ns s) u in
        let tied : label_cmp m n ≡ Equal = ap (label_cmp m) ((label_decides n m).0 t) ∙ tied_itself label_total m in
        absurd (cc)))

    by : count_by (label_eq n) ns ≤ 1 → (b : Bool) → label_eq n m ≡ b → count_by (label_eq n) (m ∷ ns) ≤ 1
    by rest true t = omega (arith, ap counted t, alone t, sum_by-cons (λ j. cond (label_eq n j) 1 0) m ns)
    by rest false t = omega (arith, ap counted t, rest, sum_by-cons (λ j. cond (label_eq n j) 1 0) m ns)

-- a name put before greater ones comes first
in_front : (name : Label) (ns : List Label) → AllByRecursion (λ m. label_cmp name m ≡ Less) ns → with_name name ns ≡ name ∷ ns
in_front name ns all = λ i. lesser ns all i ++ name ∷ greater ns all i
  where
    lesser : (ms : List Label) → AllByRecursion (λ m. label_cmp name m ≡ Less) ms → filter (λ m. is_lt (label_cmp m name)) ms ≡ []
    lesser [] a = refl
    lesser (m ∷ ms) a =
        ap (λ r. cond (is_lt r) (m ∷ filter (λ j. is_lt (label_cmp j name)) ms) (filter (λ j. is_lt (label_cmp j name)) ms)) (label_total.antisymm m name ∙ ap ordering_reverse a.0)
        ∙ lesser ms a.1

    greater : (ms : List Label) → AllByRecursion (λ m. label_cmp name m ≡ Less) ms → filter (λ m. is_lt (label_cmp name m)) ms ≡ ms
    greater [] a = refl
    greater (m ∷ ms) a =
        ap (λ r. cond (is_lt r) (m ∷ filter (λ j. is_lt (label_cmp name j)) ms) (filter (λ j. is_lt (label_cmp name j)) ms)) a.0
        ∙ ap (λ l. m ∷ l) (greater ms a.1)

-- a name put behind a lesser one leaves it where it is
behind_lesser : (name n : Label) (ns : List Label) → label_cmp n name ≡ Less → with_name name (n ∷ ns) ≡ n ∷ with_name name ns
behind_lesser name n ns l =
    let low : List Label = filter (λ j. is_lt (label_cmp j name)) ns in
    let high : List Label = filter (λ j. is_lt (label_cmp name j)) ns in
    let back : label_cmp name n ≡ Greater = label_total.antisymm name n ∙ ap ordering_reverse l in
    λ i. cond (is_lt (l i)) (n ∷ low) low ++ name ∷ cond (is_lt (back i)) (n ∷ high) high

-- all behind a greater name are greater
all_greater : (name m : Label) (ns : List Label) → label_cmp name m ≡ Less → AllByRecursion (λ j. label_cmp m j ≡ Less) ns → AllByRecursion (λ j. label_cmp name j ≡ Less) ns
all_greater name m [] l all = tt
all_greater name m (n ∷ ns) l all = (label_total.trans name m n l all.0, all_greater name m ns l all.1)

-- a name's key in front, where no key comes or the next name is greater
pub listed_in_place_first : (f : ℕ → ℕ) (v : ℕ → Option Label) (s x : ℕ) (name : Label) (ks : List ℕ) → IsWay f s ks → IsStrictlySortedBy label_cmp (listed v ks)
    → v x ≡ Some name → (s ≡ end) ⊎ ((m : Label) × (v s ≡ Some m) × (label_cmp name m ≡ Less))
    → listed v (x ∷ ks) ≡ with_name name (listed v ks)
listed_in_place_first f v s x name [] h r e next = listed_first v x name [] e
listed_in_place_first f v s x name (k ∷ ks) h r e next =
    ⊎_elim (λ t. absurd (omega (arith, t, h.0, h.1)))
    (λ t. let front : listed v (k ∷ ks) ≡ t.0 ∷ listed v ks = listed_first v k t.0 ks (sym (ap v h.0) ∙ t.1) in
    let above : AllByRecursion (λ j. label_cmp t.0 j ≡ Less) (listed v ks) = sorted_head label_cmp t.0 (listed v ks) (subst (IsStrictlySortedBy label_cmp) front r) in
    listed_first v x name (k ∷ ks) e ∙ ap (λ l. name ∷ l) front
    ∙ sym (ap (with_name name) front ∙ in_front name (t.0 ∷ listed v ks) (t.2, all_greater name t.0 (listed v ks) t.2 above)))
    next

-- a name's key behind that of a lesser name, where no key comes or the next name is greater
pub listed_in_place_behind : (f : ℕ → ℕ) (v : ℕ → Option Label) (s p x : ℕ) (n name : Label) (ks : List ℕ) → IsWay f s ks → IsStrictlySortedBy label_cmp (listed v ks)
    → v x ≡ Some name → v p ≡ Some n → has_key ks p ≡ true → label_cmp n name ≡ Less
    → (f p ≡ end) ⊎ ((m : Label) × (v (f p) ≡ Some m) × (label_cmp name m ≡ Less))
    → listed v (key_behind p x ks) ≡ with_name name (listed v ks)
listed_in_place_behind f v s p x n name [] h r e of_p here l next = absurd (true≢false (sym here))
listed_in_place_behind f v s p x n name (k ∷ ks) h r e of_p here l next =
    by (λ t u. listed_in_place_behind f v (f k) p x n name ks h.2 u e of_p t l next) (p == k) refl
  where
    found : p ≡ k → listed v (k ∷ x ∷ ks) ≡ with_name name (listed v (k ∷ ks))
    found at =
        let of_k : v k ≡ Some n = sym (ap v at) ∙ of_p in
        let front : listed v (k ∷ ks) ≡ n ∷ listed v ks = listed_first v k n ks of_k in
        let rest : IsStrictlySortedBy label_cmp (listed v ks) = sorted_tail label_cmp n (listed v ks) (subst (IsStrictlySortedBy label_cmp) front r) in
        let next_k : (f k ≡ end) ⊎ ((m : Label) × (v (f k) ≡ Some m) × (label_cmp name m ≡ Less)) =
        subst (λ j. (f j ≡ end) ⊎ ((m : Label) × (v (f j) ≡ Some m) × (label_cmp name m ≡ Less))) at next in
        listed_first v k n (x ∷ ks) of_k ∙ ap (λ l. n ∷ l) (listed_in_place_first f v (f k) x name ks h.2 rest e next_k)
        ∙ sym (ap (with_name name) front ∙ behind_lesser name n (listed v ks) l)

    passed : has_key ks p ≡ true → (IsStrictlySortedBy label_cmp (listed v ks) → listed v (key_behind p x ks) ≡ with_name name (listed v ks))
        → (o : Option Label) → v k ≡ o → cons_option o (listed v (key_behind p x ks)) ≡ with_name name (cons_option o (listed v ks))
    passed later rest None t = rest (subst (λ o. IsStrictlySortedBy label_cmp (cons_option o (listed v ks))) t r)
    passed later rest (Some c) t =
        let rises : IsStrictlySortedBy label_cmp (c ∷ listed v ks) = subst (λ o. IsStrictlySortedBy label_cmp (cons_option o (listed v ks))) t r in
        let c_less : label_cmp c n ≡ Less =
        of_one (λ j. label_cmp c j ≡ Less) n (listed v ks) (sorted_head label_cmp c (listed v ks) rises) (listed_has label_eq label_decides v p n ks of_p later) in
        ap (λ l. c ∷ l) (rest (sorted_tail label_cmp c (listed v ks) rises))
        ∙ sym (behind_lesser name c (listed v ks) (label_total.trans c n name c_less l))

    by : (has_key ks p ≡ true → IsStrictlySortedBy label_cmp (listed v ks) → listed v (key_behind p x ks) ≡ with_name name (listed v ks))
        → (d : Bool) → (p == k) ≡ d → listed v (cond d (k ∷ x ∷ ks) (k ∷ key_behind p x ks)) ≡ with_name name (listed v (k ∷ ks))
    by rest true t = found ((Decides-eqb p k).0 t)
    by rest false t =
        let later : has_key ks p ≡ true = ap (λ d. d || has_key ks p) (sym t) ∙ here in
        passed later (rest later) (v k) refl
