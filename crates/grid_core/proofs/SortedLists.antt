-- Lists that rise strictly, over any total order: what lies below the head, a list with one member
-- more in its place, and a list parted into groups. Such a list is fixed by its members: of two
-- with the same members the lesser head would be a member of the other, so the heads are one, and
-- so, by induction, are the tails.
use Rattle.std.proofs.Common.{◌≡◌, refl, ap, sym, subst, ◌∙◌, Bool, true, false, cond, not, ◌||◌, true≢false}
use Rattle.std.proofs.Common.{List, [], ◌∷◌, ◌++◌, filter, Ordering, Less, Equal, Greater, is_lt, is_eq}
use Rattle.std.specs.Prelude.{flat_map}
use Rattle.std.specs.Cmp.{IsTotalOrder}
use Rattle.std.specs.List.{AllByRecursion, list_any}
use Rattle.std.specs.List.Sorted.{IsStrictlySortedBy}
use Rattle.std.specs.Ordering.{eq_by_cmp, ordering_reverse}
use Rattle.std.proofs.lemmas.Bool.{false_from_ne_true}
use Rattle.std.proofs.lemmas.Cmp.{alike_right, tied_itself}
use Rattle.std.proofs.lemmas.List.Folds.{list_any-append}
use Rattle.std.proofs.lemmas.List.Kept.{IsStrictlySortedBy-filter}
use Rattle.std.proofs.lemmas.Map.Keys.{sorted_head, sorted_tail}
use Rattle.std.proofs.lemmas.Map.Lookups.{CmpEqualImpliesEq}
use Rattle.grid_core.proofs.Comparisons.{is_less, is_equal}
use Rattle.grid_core.proofs.Filters.{all_kept, all_of_kept, none_kept, every_kept, filter_within}

or_regrouped : (a b c : Bool) → ((a || b) || c) ≡ (a || (b || c))
or_regrouped true b c = refl
or_regrouped false b c = refl

pub or_swapped : (a b c : Bool) → (a || (b || c)) ≡ (b || (a || c))
or_swapped true true c = refl
or_swapped true false c = refl
or_swapped false true c = refl
or_swapped false false c = refl

left_first : (a b q rest whole : Bool) → (b || (q || rest)) ≡ (q || whole)
    → ((a || b) || (q || rest)) ≡ (q || (a || whole))
left_first a b q rest whole e = or_regrouped a b (q || rest) ∙ ap (λ t. a || t) e ∙ or_swapped a q whole

right_first : (a b q rest whole : Bool) → (b || (q || rest)) ≡ (q || whole)
    → (b || (q || (a || rest))) ≡ (q || (a || whole))
right_first a b q rest whole e =
    ap (λ t. b || t) (or_swapped q a rest) ∙ or_swapped b a (q || rest) ∙ ap (λ t. a || t) e ∙ or_swapped a q whole

or_again : (q whole : Bool) → (q || whole) ≡ (q || (q || whole))
or_again true whole = refl
or_again false whole = refl

module _ {K : Type 0} {R : K → K → Ordering} (o : IsTotalOrder R) where
  -- ---- below the head

  -- of two members only one is below the other, and none is below itself
  pub not_both : (x y : K) → R x y ≡ Less → R y x ≡ Less → ⊥
  not_both x y h k = cc (h, o.antisymm x y, ap ordering_reverse k)

  pub not_itself : (x y : K) → x ≡ y → R x y ≡ Less → ⊥
  not_itself x y e h = not_both x y h (subst (λ z. R z x ≡ Less) e (subst (λ z. R x z ≡ Less) (sym e) h))

  -- what is below one member is below all that this one is below
  pub less_below : (k x : K) (xs : List K) → R k x ≡ Less → AllByRecursion (λ y. R x y ≡ Less) xs
      → AllByRecursion (λ y. R k y ≡ Less) xs
  less_below k x [] e h = tt
  less_below k x (y ∷ ys) e h = (o.trans k x y e h.0, less_below k x ys e h.1)

  -- what ties with the first member is below all that this one is below
  pub equal_below : (k x : K) (xs : List K) → R k x ≡ Equal → AllByRecursion (λ y. R x y ≡ Less) xs
      → AllByRecursion (λ y. R k y ≡ Less) xs
  equal_below k x [] e h = tt
  equal_below k x (y ∷ ys) e h = (o.congr k x y e ∙ h.0, equal_below k x ys e h.1)

  -- k is below all members where it is below the first
  pub below_all : (k x : K) (xs : List K) → R k x ≡ Less → IsStrictlySortedBy R (x ∷ xs)
      → AllByRecursion (λ y. R k y ≡ Less) (x ∷ xs)
  below_all k x xs e h = (e, less_below k x xs e (sorted_head R x xs h))

  -- what is below all members is none of them
  pub below_none : (k : K) (xs : List K) → AllByRecursion (λ y. R k y ≡ Less) xs
      → list_any (eq_by_cmp R k) xs ≡ false
  below_none k [] h = refl
  below_none k (x ∷ xs) h = ap (λ r. is_eq r || list_any (eq_by_cmp R k) xs) h.0 ∙ below_none k xs h.1

  -- ---- around a place

  pub all_around : (P : K → Type 0) (xs : List K) (x : K) (ys : List K) → AllByRecursion P xs → P x
      → AllByRecursion P ys → AllByRecursion P (xs ++ x ∷ ys)
  all_around P [] x ys a p b = (p, b)
  all_around P (z ∷ xs) x ys a p b = (a.0, all_around P xs x ys a.1 p b)

  -- what rises, then a greater one, then greater ones that rise
  pub sorted_around : (xs : List K) (x : K) (ys : List K) → IsStrictlySortedBy R xs
      → AllByRecursion (λ k. R k x ≡ Less) xs → AllByRecursion (λ k. R x k ≡ Less) ys
      → IsStrictlySortedBy R ys → IsStrictlySortedBy R (xs ++ x ∷ ys)
  unfolding IsStrictlySortedBy
  sorted_around [] x ys s a b t = (b, t)
  sorted_around (z ∷ xs) x ys s a b t = (
    all_around (λ y. R z y ≡ Less) xs x ys s.0 a.0 (less_below z x ys a.0 b),
    sorted_around xs x ys s.1 a.1 b t,
  )

  -- a rising list with the key k in its place still rises
  pub rises_in_place : (k : K) (ks : List K) → IsStrictlySortedBy R ks
      → IsStrictlySortedBy R (filter (λ m. is_lt (R m k)) ks ++ k ∷ filter (λ m. is_lt (R k m)) ks)
  rises_in_place k ks s =
      sorted_around (filter (λ m. is_lt (R m k)) ks) k (filter (λ m. is_lt (R k m)) ks)
      (IsStrictlySortedBy-filter R (λ m. is_lt (R m k)) ks s)
      (all_kept (λ m. R m k ≡ Less) (λ m. is_lt (R m k)) (λ m h. is_less _ h) ks)
      (all_kept (λ m. R k m ≡ Less) (λ m. is_lt (R k m)) (λ m h. is_less _ h) ks)
      (IsStrictlySortedBy-filter R (λ m. is_lt (R k m)) ks s)

  any_in_parts : (n k : K) (ks : List K)
      → (list_any (eq_by_cmp R n) (filter (λ m. is_lt (R m k)) ks)
      || (eq_by_cmp R n k || list_any (eq_by_cmp R n) (filter (λ m. is_lt (R k m)) ks)))
      ≡ (eq_by_cmp R n k || list_any (eq_by_cmp R n) ks)
  any_in_parts n k [] = refl
  any_in_parts n k (m ∷ ms) = by (any_in_parts n k ms) (R m k) refl (R k m) (o.antisymm k m)
    where
      low : List K
      low = filter (λ j. is_lt (R j k)) ms

      high : List K
      high = filter (λ j. is_lt (R k j)) ms

      by : (list_any (eq_by_cmp R n) low || (eq_by_cmp R n k || list_any (eq_by_cmp R n) high))
          ≡ (eq_by_cmp R n k || list_any (eq_by_cmp R n) ms)
          → (r : Ordering) → R m k ≡ r → (s : Ordering) → s ≡ ordering_reverse (R m k)
          → (list_any (eq_by_cmp R n) (cond (is_lt r) (m ∷ low) low)
          || (eq_by_cmp R n k || list_any (eq_by_cmp R n) (cond (is_lt s) (m ∷ high) high)))
          ≡ (eq_by_cmp R n k || (eq_by_cmp R n m || list_any (eq_by_cmp R n) ms))
      by rest Less e s f =
          ap (λ t. list_any (eq_by_cmp R n) (m ∷ low)
          || (eq_by_cmp R n k || list_any (eq_by_cmp R n) (cond (is_lt t) (m ∷ high) high))) (f ∙ ap ordering_reverse e)
          ∙ left_first (eq_by_cmp R n m) (list_any (eq_by_cmp R n) low) (eq_by_cmp R n k)
          (list_any (eq_by_cmp R n) high) (list_any (eq_by_cmp R n) ms) rest
      by rest Equal e s f =
          ap (λ t. list_any (eq_by_cmp R n) low
          || (eq_by_cmp R n k || list_any (eq_by_cmp R n) (cond (is_lt t) (m ∷ high) high))) (f ∙ ap ordering_reverse e)
          ∙ rest ∙ or_again (eq_by_cmp R n k) (list_any (eq_by_cmp R n) ms)
          ∙ ap (λ t. eq_by_cmp R n k || (is_eq t || list_any (eq_by_cmp R n) ms)) (sym (alike_right o m k n e))
      by rest Greater e s f =
          ap (λ t. list_any (eq_by_cmp R n) low
          || (eq_by_cmp R n k || list_any (eq_by_cmp R n) (cond (is_lt t) (m ∷ high) high))) (f ∙ ap ordering_reverse e)
          ∙ right_first (eq_by_cmp R n m) (list_any (eq_by_cmp R n) low) (eq_by_cmp R n k)
          (list_any (eq_by_cmp R n) high) (list_any (eq_by_cmp R n) ms) rest

  -- the list with the key k in its place has k and its old members
  pub any_in_place : (n k : K) (ks : List K)
      → list_any (eq_by_cmp R n) (filter (λ m. is_lt (R m k)) ks ++ k ∷ filter (λ m. is_lt (R k m)) ks)
      ≡ (eq_by_cmp R n k || list_any (eq_by_cmp R n) ks)
  any_in_place n k ks =
      list_any-append (eq_by_cmp R n) (filter (λ m. is_lt (R m k)) ks) (k ∷ filter (λ m. is_lt (R k m)) ks)
      ∙ any_in_parts n k ks

  -- ---- fixed by its members

  tails_same : (q x y : K) (xs ys : List K) → R x y ≡ Equal → AllByRecursion (λ z. R x z ≡ Less) xs
      → AllByRecursion (λ z. R y z ≡ Less) ys
      → (eq_by_cmp R q x || list_any (eq_by_cmp R q) xs) ≡ (eq_by_cmp R q y || list_any (eq_by_cmp R q) ys)
      → list_any (eq_by_cmp R q) xs ≡ list_any (eq_by_cmp R q) ys
  tails_same q x y xs ys e h k whole = by (R q x) refl
    where
      alike : R q y ≡ R q x
      alike = sym (alike_right o x y q e)

      by : (r : Ordering) → R q x ≡ r → list_any (eq_by_cmp R q) xs ≡ list_any (eq_by_cmp R q) ys
      by Equal f =
          below_none q xs (equal_below q x xs f h)
          ∙ sym (below_none q ys (equal_below q y ys (alike ∙ f) k))
      by Less f =
          sym (ap (λ r. is_eq r || list_any (eq_by_cmp R q) xs) f) ∙ whole
          ∙ ap (λ r. is_eq r || list_any (eq_by_cmp R q) ys) (alike ∙ f)
      by Greater f =
          sym (ap (λ r. is_eq r || list_any (eq_by_cmp R q) xs) f) ∙ whole
          ∙ ap (λ r. is_eq r || list_any (eq_by_cmp R q) ys) (alike ∙ f)

  has_head : (x : K) (xs : List K) → list_any (eq_by_cmp R x) (x ∷ xs) ≡ true
  has_head x xs = ap (λ r. is_eq r || list_any (eq_by_cmp R x) xs) (tied_itself o x)

  module _ (exact : CmpEqualImpliesEq R) where
    -- two rising lists with the same members are one list
    pub sorted_same : (xs ys : List K) → IsStrictlySortedBy R xs → IsStrictlySortedBy R ys
        → ((q : K) → list_any (eq_by_cmp R q) xs ≡ list_any (eq_by_cmp R q) ys) → xs ≡ ys
    unfolding IsStrictlySortedBy
    sorted_same [] [] s t h = refl
    sorted_same [] (y ∷ ys) s t h = absurd (true≢false (sym (has_head y ys) ∙ sym (h y)))
    sorted_same (x ∷ xs) [] s t h = absurd (true≢false (sym (has_head x xs) ∙ h x))
    sorted_same (x ∷ xs) (y ∷ ys) s t h = by (R x y) refl (sorted_same xs ys s.1 t.1)
      where
        by : (r : Ordering) → R x y ≡ r
            → (((q : K) → list_any (eq_by_cmp R q) xs ≡ list_any (eq_by_cmp R q) ys) → xs ≡ ys)
            → x ∷ xs ≡ y ∷ ys
        by Less e rest =
            absurd (true≢false (sym (has_head x xs) ∙ h x ∙ below_none x (y ∷ ys) (e, less_below x y ys e t.0)))
        by Greater e rest =
            let less : R y x ≡ Less = o.antisymm y x ∙ ap ordering_reverse e in
            absurd (true≢false (sym (has_head y ys) ∙ sym (h y) ∙ below_none y (x ∷ xs) (less, less_below y x xs less s.0)))
        by Equal e rest = λ i. exact x y e i ∷ rest (λ q. tails_same q x y xs ys e s.0 t.0 (h q)) i

-- ---- parted in two, and in groups

module _ {X : Type 0} (R : X → X → Ordering) (Φ : X → Type 0) where
  -- where a test passes over from a member to the earlier ones, the list is what passes and then the rest
  pub split_sorted : (p : X → Bool) → ((x y : X) → Φ x → Φ y → R x y ≡ Less → p y ≡ true → p x ≡ true)
      → (xs : List X) → AllByRecursion Φ xs → IsStrictlySortedBy R xs
      → xs ≡ filter p xs ++ filter (λ x. not (p x)) xs
  unfolding IsStrictlySortedBy
  split_sorted p down [] h s = refl
  split_sorted p down (x ∷ xs) h s = by (split_sorted p down xs h.1 s.1) (p x) refl
    where
      fail : p x ≡ false → (ys : List X) → AllByRecursion Φ ys → AllByRecursion (λ y. R x y ≡ Less) ys
          → AllByRecursion (λ y. p y ≡ false) ys
      fail e [] k l = tt
      fail e (y ∷ ys) k l = (
        false_from_ne_true (p y) (λ t. true≢false (sym (down x y h.0 k.0 l.0 t) ∙ e)),
        fail e ys k.1 l.1,
      )

      pass : (ys : List X) → AllByRecursion (λ y. p y ≡ false) ys → AllByRecursion (λ y. not (p y) ≡ true) ys
      pass [] k = tt
      pass (y ∷ ys) k = (ap not k.0, pass ys k.1)

      by : xs ≡ filter p xs ++ filter (λ x. not (p x)) xs → (b : Bool) → p x ≡ b
          → x ∷ xs
          ≡ cond b (x ∷ filter p xs) (filter p xs)
          ++ cond (not b) (x ∷ filter (λ x. not (p x)) xs) (filter (λ x. not (p x)) xs)
      by rest true e = ap (λ ys. x ∷ ys) rest
      by rest false e =
          let none = fail e xs h.1 s.0 in
          sym (λ i. none_kept p xs none i ++ x ∷ every_kept (λ y. not (p y)) xs (pass xs none) i)

module _ {X K : Type 0} (R : X → X → Ordering) {S : K → K → Ordering} (o : IsTotalOrder S) (group : X → K) where
  -- the member is in group k
  abbrev in_group : K → X → Bool
  in_group k x = eq_by_cmp S k (group x)

  -- among members with Φ the later one is in a later group or in the same, and each is in one of ks
  pub record IsGrouped (Φ : X → Type 0) (ks : List K) : Type 0 where
    pub rising : IsStrictlySortedBy S ks
    pub later : (x y : X) → Φ x → Φ y → R x y ≡ Less → is_lt (S (group y) (group x)) ≡ false
    pub found : (x : X) → Φ x → list_any (eq_by_cmp S (group x)) ks ≡ true

  in_first : (Φ : X → Type 0) (k : K) (ks : List K) → IsGrouped Φ (k ∷ ks) → (x y : X) → Φ x → Φ y
      → R x y ≡ Less → in_group k y ≡ true → in_group k x ≡ true
  in_first Φ k ks g x y hx hy less e = by (S k (group x)) refl
    where
      not_before : is_lt (S k (group x)) ≡ false
      not_before =
          ap is_lt (o.congr k (group y) (group x) (is_equal (S k (group y)) e)) ∙ g.later x y hx hy less

      by : (r : Ordering) → S k (group x) ≡ r → is_eq r ≡ true
      by Equal f = refl
      by Less f = absurd (true≢false (sym (ap is_lt f) ∙ not_before))
      by Greater f =
          let below : S (group x) k ≡ Less = o.antisymm (group x) k ∙ ap ordering_reverse f in
          absurd (true≢false (sym (g.found x hx)
          ∙ below_none o (group x) (k ∷ ks) (below_all o (group x) k ks below g.rising)))

  others : (Φ : X → Type 0) (k : K) (ks : List K) → IsGrouped Φ (k ∷ ks)
      → IsGrouped (λ x. Φ x × (not (in_group k x) ≡ true)) ks
  others Φ k ks g =
      record {
        rising = sorted_tail S k ks g.rising;
        later = λ x y hx hy less. g.later x y hx.0 hy.0 less;
        found = λ x h. by x (S k (group x)) refl (o.antisymm (group x) k) h.1 (g.found x h.0);
      }
    where
      by : (x : X) (r : Ordering) → S k (group x) ≡ r → S (group x) k ≡ ordering_reverse (S k (group x))
          → not (is_eq (S k (group x))) ≡ true
          → (is_eq (S (group x) k) || list_any (eq_by_cmp S (group x)) ks) ≡ true
          → list_any (eq_by_cmp S (group x)) ks ≡ true
      by x Less e f h k = sym (ap (λ r. is_eq r || list_any (eq_by_cmp S (group x)) ks) (f ∙ ap ordering_reverse e)) ∙ k
      by x Greater e f h k =
          sym (ap (λ r. is_eq r || list_any (eq_by_cmp S (group x)) ks) (f ∙ ap ordering_reverse e)) ∙ k
      by x Equal e f h k = absurd (true≢false (sym h ∙ ap (λ r. not (is_eq r)) e))

  all_both : (P Q : X → Type 0) (xs : List X) → AllByRecursion P xs → AllByRecursion Q xs
      → AllByRecursion (λ x. P x × Q x) xs
  all_both P Q [] h k = tt
  all_both P Q (x ∷ xs) h k = ((h.0, k.0), all_both P Q xs h.1 k.1)

  -- a rising list is its groups, one after another
  pub grouped : (Φ : X → Type 0) (ks : List K) → IsGrouped Φ ks → (xs : List X) → AllByRecursion Φ xs
      → IsStrictlySortedBy R xs → xs ≡ flat_map (λ k. filter (in_group k) xs) ks
  grouped Φ [] g [] h s = refl
  grouped Φ [] g (x ∷ xs) h s = absurd (true≢false (sym (g.found x h.0)))
  grouped Φ (k ∷ ks) g xs h s =
      split_sorted R Φ (in_group k) (in_first Φ k ks g) xs h s
      ∙ ap (λ ys. filter (in_group k) xs ++ ys)
      (grouped (λ x. Φ x × (not (in_group k x) ≡ true)) ks (others Φ k ks g) rest
      (all_both Φ (λ x. not (in_group k x) ≡ true) rest (all_of_kept Φ (λ x. not (in_group k x)) xs h)
      (all_kept (λ x. not (in_group k x) ≡ true) (λ x. not (in_group k x)) (λ x e. e) xs))
      (IsStrictlySortedBy-filter R (λ x. not (in_group k x)) xs s)
      ∙ same ks (sorted_head S k ks g.rising))
    where
      rest : List X
      rest = filter (λ x. not (in_group k x)) xs

      apart : (j : K) → S k j ≡ Less → (x : X) → in_group j x ≡ true → not (in_group k x) ≡ true
      apart j less x e =
          ap (λ r. not (is_eq r)) (sym (alike_right o j (group x) k (is_equal (S j (group x)) e)) ∙ less)

      same : (js : List K) → AllByRecursion (λ j. S k j ≡ Less) js
          → flat_map (λ j. filter (in_group j) rest) js ≡ flat_map (λ j. filter (in_group j) xs) js
      same [] l = refl
      same (j ∷ js) l = λ i.
          filter_within (λ x. not (in_group k x)) (in_group j) (apart j l.0) xs i ++ same js l.1 i
