-- The first member of a list in an order is a matter of its members alone: it is the one that comes before all others.
-- So a part of a list that has, for each member of the whole, one that comes before it has the same first member.
use Rattle.std.proofs.Common.{◌≡◌, refl, ap, sym, subst, ◌∙◌, arith, Bool, true, false, IsTrue, ⊎_elim, inl, inr}
use Rattle.std.proofs.Common.{List, [], ◌∷◌, filter, fold, Contains, Option, Some, None, Ordering, Less, Greater, is_lt}
use Rattle.std.specs.Prelude.{◌⊎◌, slice_get, if◌then◌else◌}
use Rattle.std.specs.BTreeSet.{insert_key}
use Rattle.grid_core.specs.Places.{least_by}
use Rattle.grid_core.proofs.ListMembers.{contains_first, contains_later, contains_cases, contains_filter}
use Rattle.place_test.specs.Nearest.{first_of}
use Rattle.place_test.proofs.Scans.{head_inserted}

pub none_in : {X : Type 0} {x : X} → Contains [] x → ⊥
none_in c = omega (arith, c.1)

some_same : {X : Type 0} (a b : X) → Some a ≡ Some b → a ≡ b
some_same a b e = cc

module _ {A : Type 0} (cmp : A → A → Ordering) where
  pub head_filled : (ys xs : List A) → slice_get (fold (insert_key cmp) ys xs) 0 ≡ fold (first_of cmp) (slice_get ys 0) xs
  head_filled ys [] = refl
  head_filled ys (x ∷ xs) =
      head_filled (insert_key cmp ys x) xs ∙ ap (λ o. fold (first_of cmp) o xs) (head_inserted cmp x ys)

  -- m is x, or comes before it
  abbrev pub Leads : A → A → Type 0
  Leads m x = (m ≡ x) ⊎ (cmp m x ≡ Less)

  module _ (turned : (x y : A) → cmp x y ≡ Less → cmp y x ≡ Greater) where
    pick : (b : Bool) (m x a : A) → m ≡ x → m ≡ a → (if b then Some x else Some a) ≡ Some m
    pick true m x a e f = ap Some (sym e)
    pick false m x a e f = ap Some (sym f)

    -- what leads both is taken where it is one of them
    won : (m a x : A) → Leads m a → Leads m x → (m ≡ a) ⊎ (m ≡ x) → (if is_lt (cmp x a) then Some x else Some a) ≡ Some m
    won m a x (inl e) (inl f) h = pick (is_lt (cmp x a)) m x a f e
    won m a x (inl e) (inr f) h =
        ap (λ r. if is_lt r then Some x else Some a) (ap (cmp x) (sym e) ∙ turned m x f) ∙ ap Some (sym e)
    won m a x (inr e) (inl f) h =
        ap (λ r. if is_lt r then Some x else Some a) (ap (λ y. cmp y a) (sym f) ∙ e) ∙ ap Some (sym f)
    won m a x (inr e) (inr f) (inl g) =
        ap (λ r. if is_lt r then Some x else Some a) (ap (cmp x) (sym g) ∙ turned m x f) ∙ ap Some (sym g)
    won m a x (inr e) (inr f) (inr g) =
        ap (λ r. if is_lt r then Some x else Some a) (ap (λ y. cmp y a) (sym g) ∙ e) ∙ ap Some (sym g)

    still : (b : Bool) (m a x y : A) → Leads m a → Leads m x → (if b then Some x else Some a) ≡ Some y → Leads m y
    still true m a x y la lx e = subst (Leads m) (some_same x y e) lx
    still false m a x y la lx e = subst (Leads m) (some_same a y e) la

    found : (m : A) (o : Option A) (xs : List A) → ((a : A) → o ≡ Some a → Leads m a) → (o ≡ Some m) ⊎ Contains xs m
        → ((x : A) → Contains xs x → Leads m x) → fold (first_of cmp) o xs ≡ Some m
    found m o [] led (inl e) all = e
    found m o [] led (inr c) all = absurd (none_in c)
    found m None (x ∷ xs) led has all =
        let there : (Some x ≡ Some m) ⊎ Contains xs m =
        ⊎_elim (λ (e : None ≡ Some m). absurd (cc e))
        (λ (c : Contains (x ∷ xs) m). ⊎_elim (λ (e : x ≡ m). inl (ap Some e)) (λ (d : Contains xs m). inr d) (contains_cases x xs m c))
        has in
        found m (Some x) xs (λ y e. subst (Leads m) (some_same x y e) (all x (contains_first x xs))) there
        (λ y c. all y (contains_later x xs y c))
    found m (Some a) (x ∷ xs) led has all =
        let la = led a refl in
        let lx = all x (contains_first x xs) in
        let next : Option A = if is_lt (cmp x a) then Some x else Some a in
        let there : (next ≡ Some m) ⊎ Contains xs m =
        ⊎_elim (λ (e : Some a ≡ Some m). inl (won m a x la lx (inl (sym (some_same a m e)))))
        (λ (c : Contains (x ∷ xs) m).
        ⊎_elim (λ (e : x ≡ m). inl (won m a x la lx (inr (sym e)))) (λ (d : Contains xs m). inr d) (contains_cases x xs m c))
        has in
        found m next xs (λ y e. still (is_lt (cmp x a)) m a x y la lx e) there (λ y c. all y (contains_later x xs y c))

    -- a member that leads all is the first
    pub first_is : (m : A) (xs : List A) → Contains xs m → ((x : A) → Contains xs x → Leads m x) → least_by cmp xs ≡ Some m
    first_is m xs c all = head_filled [] xs ∙ found m None xs (λ a e. absurd (cc e)) (inr c) all

    module _ (Φ : A → Type 0) (total : (x y : A) → Φ x → Φ y → Leads x y ⊎ Leads y x)
        (joined : (x y z : A) → Φ x → Φ y → Φ z → Leads x y → Leads y z → Leads x z) where
      -- some member of a list leads all
      leader : (x : A) (xs : List A) → ((y : A) → Contains (x ∷ xs) y → Φ y)
          → (m : A) × Contains (x ∷ xs) m × ((y : A) → Contains (x ∷ xs) y → Leads m y)
      leader x [] all = (
        x,
        contains_first x [],
        λ y c. ⊎_elim (λ (e : x ≡ y). inl e) (λ (d : Contains [] y). absurd (none_in d)) (contains_cases x [] y c),
      )
      leader x (z ∷ zs) all = by (leader z zs (λ y c. all y (contains_later x (z ∷ zs) y c)))
        where
          by : (m : A) × Contains (z ∷ zs) m × ((y : A) → Contains (z ∷ zs) y → Leads m y)
              → (m : A) × Contains (x ∷ z ∷ zs) m × ((y : A) → Contains (x ∷ z ∷ zs) y → Leads m y)
          by found =
              let m = found.0 in
              let here = contains_first x (z ∷ zs) in
              let later : (y : A) → Contains (z ∷ zs) y → Contains (x ∷ z ∷ zs) y = λ y c. contains_later x (z ∷ zs) y c in
              ⊎_elim
              (λ (l : Leads x m). (
                x,
                here,
                λ y c. ⊎_elim (λ (e : x ≡ y). inl e)
                    (λ (d : Contains (z ∷ zs) y).
                    joined x m y (all x here) (all m (later m found.1)) (all y c) l (found.2 y d))
                    (contains_cases x (z ∷ zs) y c),
              ))
              (λ (l : Leads m x). (
                m,
                later m found.1,
                λ y c. ⊎_elim (λ (e : x ≡ y). subst (Leads m) e l) (λ (d : Contains (z ∷ zs) y). found.2 y d)
                    (contains_cases x (z ∷ zs) y c),
              ))
              (total x m (all x here) (all m (later m found.1)))

      -- where a list has no first member it has none
      pub no_first : (xs : List A) → ((x : A) → Contains xs x → Φ x) → least_by cmp xs ≡ None → (x : A) → Contains xs x → ⊥
      no_first [] all is x c = none_in c
      no_first (y ∷ ys) all is x c =
          let led = leader y ys all in
          let some : least_by cmp (y ∷ ys) ≡ Some led.0 = first_is led.0 (y ∷ ys) led.1 led.2 in
          cc

      -- a part that has one that leads it for each member that passes has the same first member among those that pass
      pub first_of_part : (p : A → Bool) (part whole : List A) → ((x : A) → IsTrue (p x) → Φ x)
          → ((x : A) → Contains part x → Contains whole x)
          → ((x : A) → Contains whole x → IsTrue (p x) → (c : A) × Contains part c × IsTrue (p c) × Leads c x)
          → least_by cmp (filter p part) ≡ least_by cmp (filter p whole)
      first_of_part p part whole passing members near = by (filter p part) refl
        where
          kept : (x : A) → Contains (filter p whole) x → Contains whole x × IsTrue (p x)
          kept x c = (contains_filter p whole x).0 c

          by : (l : List A) → filter p part ≡ l → least_by cmp l ≡ least_by cmp (filter p whole)
          by [] is = none (filter p whole) refl
            where
              none : (r : List A) → filter p whole ≡ r → least_by cmp [] ≡ least_by cmp r
              none [] e = refl
              none (y ∷ ys) e =
                  let at = kept y (subst (λ l. Contains l y) (sym e) (contains_first y ys)) in
                  let close = near y at.0 at.1 in
                  absurd (none_in (subst (λ l. Contains l close.0) is ((contains_filter p part close.0).1 (close.1, close.2))))
          by (x ∷ xs) is =
              let all : (y : A) → Contains (x ∷ xs) y → Contains part y × IsTrue (p y) =
              λ y c. (contains_filter p part y).0 (subst (λ l. Contains l y) (sym is) c) in
              let led = leader x xs (λ y c. passing y (all y c).1) in
              let m = led.0 in
              let of_m = all m led.1 in
              first_is m (x ∷ xs) led.1 led.2
              ∙ sym (first_is m (filter p whole) ((contains_filter p whole m).1 (members m of_m.0, of_m.1))
              (λ y c.
              let at = kept y c in
              let close = near y at.0 at.1 in
              let before = led.2 close.0 (subst (λ l. Contains l close.0) is ((contains_filter p part close.0).1 (close.1, close.2))) in
              joined m close.0 y (passing m of_m.1) (passing close.0 close.2) (passing y at.1) before close.3))
