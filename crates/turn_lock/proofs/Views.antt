-- Lists of views: what is known of each view after one of them changed or one more came, and
-- functions changed at one place.
use Rattle.std.proofs.Common.{◌≡◌, ◌≢◌, ℕ, zero, suc, ◌+◌, ◌<◌, ◌≤◌, List, [], ◌∷◌, ◌++◌, length}
use Rattle.std.proofs.Common.{get_or, set, sum_by, sym, refl, ap, ◌∙◌, subst, ⊎_elim, inl, inr, ◌⊎◌}
use Rattle.std.proofs.Common.{arith}
use mathlib.Core.Option.{some, some-injective, some-ne-none}
use mathlib.Core.Logic.{dite}
use native.Mathlib.Decide.{ℕ_discrete}
use lib.ListN.{get_elem?}
use Rattle.std.proofs.lemmas.List.Sums.{sum_by-set, sum_by-cons}
use Rattle.atomic_table.proofs.Lists.{at_set, set_else}

abbrev pick : {A P : Type 0} → Dec P → A → A → A
pick (yes _) a b = a
pick (no _) a b = b

-- f, but with c at i
pub put : {A : Type 0} → (ℕ → A) → ℕ → A → ℕ → A
put f i c j = pick (ℕ_discrete j i) c (f j)

module _ {A : Type 0} (f : ℕ → A) (i : ℕ) (c : A) where
  pub put_here : put f i c i ≡ c
  unfolding put
  put_here = go (ℕ_discrete i i)
    where
      go : (d : Dec (i ≡ i)) → pick d c (f i) ≡ c
      go (yes _) = refl
      go (no n) = absurd (n refl)

  pub put_else : (j : ℕ) → j ≢ i → put f i c j ≡ f j
  unfolding put
  put_else j other = go (ℕ_discrete j i)
    where
      go : (d : Dec (j ≡ i)) → pick d c (f j) ≡ f j
      go (yes e) = absurd (other e)
      go (no _) = refl

  -- a value that f had, or that was put, is had
  pub put_keeps : (j : ℕ) → f j ≡ c → put f i c j ≡ c
  put_keeps j h = dite (ℕ_discrete j i) (λ (e : j ≡ i). ap (put f i c) e ∙ put_here) (λ (n : j ≢ i). put_else j n ∙ h)

module _ {A : Type 0} where
  pub inside : (l : List A) (i : ℕ) (a : A) → get_elem? l i ≡ some a → i < length l
  inside [] i a e = absurd (some-ne-none a (sym e))
  inside (x ∷ xs) zero a e = omega arith
  inside (x ∷ xs) (suc i) a e = let h : i < length xs = inside xs i a e in omega arith

  get_or_at : (l : List A) (i : ℕ) (a d : A) → get_elem? l i ≡ some a → get_or l i d ≡ a
  get_or_at [] i a d e = absurd (some-ne-none a (sym e))
  get_or_at (x ∷ xs) zero a d e = some-injective x a e
  get_or_at (x ∷ xs) (suc i) a d e = get_or_at xs i a d e

  pub same_place : (l : List A) (i j : ℕ) (a b : A) → i ≡ j → get_elem? l i ≡ some a → get_elem? l j ≡ some b → a ≡ b
  same_place l i j a b e p q = some-injective a b (sym p ∙ (ap (λ (k : ℕ). get_elem? l k) e ∙ q))

  -- the view at another place than i stays
  pub elsewhere : (l : List A) (i j : ℕ) (w a : A) → j ≢ i → get_elem? l j ≡ some a → get_elem? (set l i w) j ≡ some a
  elsewhere l i j w a other e = set_else l i j w other ∙ e

  at_end : (l : List A) (w a : A) (j : ℕ) → get_elem? (l ++ w ∷ []) j ≡ some a
      → (get_elem? l j ≡ some a) ⊎ ((j ≡ length l) × (w ≡ a))
  at_end [] w a zero e = inr (refl, some-injective w a e)
  at_end [] w a (suc j) e = absurd (some-ne-none a (sym e))
  at_end (x ∷ xs) w a zero e = inl e
  at_end (x ∷ xs) w a (suc j) e =
      ⊎_elim (λ t. inl t) (λ (t : (j ≡ length xs) × (w ≡ a)). inr (ap suc t.0, t.1))
      (at_end xs w a j e)

  -- P of each view after the one at i became w
  pub each_set : (P : ℕ → A → Type 0) (l : List A) (i : ℕ) (w : A) → P i w
      → ((j : ℕ) (a : A) → j ≢ i → get_elem? l j ≡ some a → P j a) → (j : ℕ) (a : A)
      → get_elem? (set l i w) j ≡ some a → P j a
  each_set P l i w here others j a e =
      ⊎_elim (λ (t : (j ≡ i) × (w ≡ a)). subst (λ (x : ℕ × A). P x.0 x.1) (λ k. (sym t.0 k, t.1 k))
      here)
      (λ (t : (j ≢ i) × (get_elem? l j ≡ some a)). others j a t.0 t.1) (at_set l i j w a e)

  -- P of each view after w came to the end
  pub each_end : (P : ℕ → A → Type 0) (l : List A) (w : A) → P (length l) w
      → ((j : ℕ) (a : A) → get_elem? l j ≡ some a → P j a) → (j : ℕ) (a : A) → get_elem? (l ++ w ∷ []) j ≡ some a
      → P j a
  each_end P l w last others j a e =
      ⊎_elim (others j a) (λ (t : (j ≡ length l) × (w ≡ a)). subst (λ (x : ℕ × A). P x.0 x.1)
      (λ k. (sym t.0 k, t.1 k)) last) (at_end l w a j e)

  pub sum-set : (f : A → ℕ) (l : List A) (i : ℕ) (a w : A) → get_elem? l i ≡ some a
      → sum_by f (set l i w) + f a ≡ sum_by f l + f w
  sum-set f l i a w e = subst (λ (x : A). sum_by f (set l i w) + f x ≡ sum_by f l + f w)
      (get_or_at l i a a e) (sum_by-set f l i w a (inside l i a e))

  pub sum-bound : (f : A → ℕ) → ((a : A) → f a ≤ 1) → (l : List A) → sum_by f l ≤ length l
  sum-bound f h [] = omega arith
  sum-bound f h (x ∷ xs) = let one = h x in let more = sum-bound f h xs in let sum = sum_by-cons f x xs in omega arith

  -- P of each element of two lists, of the two joined
  pub each_append : (P : A → Type 0) (xs ys : List A) → ((i : ℕ) (a : A) → get_elem? xs i ≡ some a → P a)
      → ((i : ℕ) (a : A) → get_elem? ys i ≡ some a → P a) → (i : ℕ) (a : A) → get_elem? (xs ++ ys) i ≡ some a → P a
  each_append P [] ys h k i a e = k i a e
  each_append P (x ∷ xs) ys h k zero a e = h 0 a e
  each_append P (x ∷ xs) ys h k (suc i) a e = each_append P xs ys (λ j. h (suc j)) k i a e

  pub each_cons : (P : A → Type 0) (x : A) (xs : List A) → P x → ((i : ℕ) (a : A) → get_elem? xs i ≡ some a → P a)
      → (i : ℕ) (a : A) → get_elem? (x ∷ xs) i ≡ some a → P a
  each_cons P x xs first h zero a e = subst P (some-injective x a e) first
  each_cons P x xs first h (suc i) a e = h i a e
