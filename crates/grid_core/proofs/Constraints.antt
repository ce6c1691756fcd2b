-- Constraints on a number t have a common solution exactly where each holds alone and each two leave room.
-- A solution u / v gives room by cross products. The other way round, one of the lower bounds is greatest and one of
-- the upper bounds is least, by induction on the list; the middle of these two meets every constraint of the list.

use Rattle.std.proofs.Common.{◌≡◌, refl, ap, subst, ◌∙◌, arith, Bool, true, false, ◌&&◌, ◌||◌, not}
use Rattle.std.proofs.Common.{List, [], ◌∷◌, IsTrue, ⊎_elim, inl, inr}
use Rattle.std.specs.Prelude.{ℤ, pos, neg_ℤ, ◌+ℤ◌, ◌-ℤ◌, ◌*ℤ◌, ◌≤ℤ◌, ◌<ℤ◌, ◌⊎◌, int_lt}
use Rattle.std.specs.List.{AllByRecursion, list_all}
use Rattle.grid_core.proofs.Signed.{signed, lt_true, lt_false, le_true, from_lt_true, from_lt_false, from_le_true}
use Rattle.grid_core.proofs.Ring.{int_mul_pos, int_mul_nonneg, int_mul_neg_pos, int_mul-neg}
use Rattle.grid_core.proofs.Ring.{int_lt_of_mul, int_le_of_mul, int_lt_or_le, int_zero-mul}
use Rattle.grid_core.proofs.Ring.{int_mul_comm}
use Rattle.grid_core.proofs.Polynomial.{V, K, ◌⊕◌, ◌⊖◌, ◌⊗◌, same_polynomial}
use Rattle.grid_core.specs.Meets.{Constraint, is_kept, holds_alone, leave_room}

-- ---- tests on lists

first_true : (a b : Bool) → (a && b) ≡ true → a ≡ true
first_true true b h = refl
first_true false b h = h

second_true : (a b : Bool) → (a && b) ≡ true → b ≡ true
second_true true b h = h
second_true false b h = cc

both_true : (a b : Bool) → a ≡ true → b ≡ true → (a && b) ≡ true
both_true true b h k = k
both_true false b h k = h

module _ {X : Type 0} where
  -- what a test of a whole list says of each element
  all_of : (p : X → Bool) (xs : List X) → list_all p xs ≡ true → AllByRecursion (λ x. p x ≡ true) xs
  all_of p [] h = tt
  all_of p (x ∷ xs) h = (first_true (p x) (list_all p xs) h, all_of p xs (second_true (p x) (list_all p xs) h))

  -- a test that is true of each element is true of the list
  all_true : (p : X → Bool) (xs : List X) → AllByRecursion (λ x. p x ≡ true) xs → list_all p xs ≡ true
  all_true p [] h = refl
  all_true p (x ∷ xs) h = both_true (p x) (list_all p xs) h.0 (all_true p xs h.1)

  -- what follows for each element
  all_then : (P Q : X → Type 0) (xs : List X) → ((x : X) → P x → Q x) → AllByRecursion P xs → AllByRecursion Q xs
  all_then P Q [] f h = tt
  all_then P Q (x ∷ xs) f h = (f x h.0, all_then P Q xs f h.1)

  -- what follows for each element of two facts
  all_both : (P Q R : X → Type 0) (xs : List X) → ((x : X) → P x → Q x → R x) → AllByRecursion P xs
      → AllByRecursion Q xs → AllByRecursion R xs
  all_both P Q R [] f h k = tt
  all_both P Q R (x ∷ xs) f h k = (f x h.0 k.0, all_both P Q R xs f h.1 k.1)

  -- for each of the one list each of the other, or the other way round
  all_turned : (P : X → X → Type 0) (xs ys : List X)
      → AllByRecursion (λ x. AllByRecursion (P x) ys) xs
      → AllByRecursion (λ y. AllByRecursion (λ x. P x y) xs) ys
  all_turned P [] [] h = tt
  all_turned P [] (y ∷ ys) h = (tt, all_turned P [] ys tt)
  all_turned P (x ∷ xs) ys h =
      all_both (P x) (λ y. AllByRecursion (λ z. P z y) xs)
      (λ y. P x y × AllByRecursion (λ z. P z y) xs) ys (λ y p q. (p, q)) h.0
      (all_turned P xs ys h.1)

-- ---- what is kept

weakly : (strict : Bool) (z : ℤ) → IsTrue (is_kept strict z) → pos 0 ≤ℤ z
weakly true z h = let p = from_lt_true (pos 0) z h in omega (arith, signed, p)
weakly false z h = from_le_true (pos 0) z h

kept_same : (strict : Bool) (y z : ℤ) → y ≡ z → IsTrue (is_kept strict y) → IsTrue (is_kept strict z)
kept_same strict y z e h = subst (λ w. IsTrue (is_kept strict w)) e h

kept_times : (strict : Bool) (k z : ℤ) → pos 0 <ℤ k → IsTrue (is_kept strict z) → IsTrue (is_kept strict (k *ℤ z))
kept_times true k z h p = lt_true (pos 0) (k *ℤ z) (int_mul_pos k z h (from_lt_true (pos 0) z p))
kept_times false k z h p = le_true (pos 0) (k *ℤ z) (int_mul_nonneg k z (omega (arith, signed, h))
    (from_le_true (pos 0) z p))

kept_of_times : (strict : Bool) (k z : ℤ) → pos 0 <ℤ k → IsTrue (is_kept strict (k *ℤ z)) → IsTrue (is_kept strict z)
kept_of_times true k z h p =
    let q = from_lt_true (pos 0) (k *ℤ z) p in
    let none = int_mul_comm k (pos 0) in
    let zero = int_zero-mul k in
    lt_true (pos 0) z (int_lt_of_mul k (pos 0) z h (omega (arith, signed, q, none, zero)))
kept_of_times false k z h p =
    let q = from_le_true (pos 0) (k *ℤ z) p in
    let none = int_mul_comm k (pos 0) in
    let zero = int_zero-mul k in
    le_true (pos 0) z (int_le_of_mul k (pos 0) z h (omega (arith, signed, q, none, zero)))

kept_plus : (strict : Bool) (y z : ℤ) → IsTrue (is_kept strict y) → pos 0 ≤ℤ z → IsTrue (is_kept strict (y +ℤ z))
kept_plus true y z h k = let p = from_lt_true (pos 0) y h in lt_true (pos 0) (y +ℤ z) (omega (arith, signed, p, k))
kept_plus false y z h k = let p = from_le_true (pos 0) y h in le_true (pos 0) (y +ℤ z) (omega (arith, signed, p, k))

kept_onto : (strict : Bool) (y z : ℤ) → pos 0 ≤ℤ y → IsTrue (is_kept strict z) → IsTrue (is_kept strict (y +ℤ z))
kept_onto strict y z h k = kept_same strict (z +ℤ y) (y +ℤ z) (omega (arith, signed)) (kept_plus strict z y k h)

kept_sum : (s t : Bool) (y z : ℤ) → IsTrue (is_kept s y) → IsTrue (is_kept t z) → IsTrue (is_kept (s || t) (y +ℤ z))
kept_sum true t y z h k = kept_plus true y z h (weakly t z k)
kept_sum false t y z h k = kept_onto t y z (weakly false y h) k

kept_first : (s t : Bool) (z : ℤ) → IsTrue (is_kept (s || t) z) → IsTrue (is_kept s z)
kept_first true t z h = h
kept_first false t z h = le_true (pos 0) z (weakly t z h)

kept_second : (s t : Bool) (z : ℤ) → IsTrue (is_kept (s || t) z) → IsTrue (is_kept t z)
kept_second true true z h = h
kept_second true false z h = le_true (pos 0) z (weakly true z h)
kept_second false t z h = h

-- ---- from a solution to room

-- u / v meets the constraint, where v is above 0
abbrev pub IsMet : ℤ → ℤ → Constraint → Type 0
IsMet u v c = IsTrue (is_kept c.strict (c.a *ℤ v +ℤ c.b *ℤ u))

one_of_three : (a b c : Bool) → (a ≡ false → b ≡ false → c ≡ true) → (a || b || c) ≡ true
one_of_three true b c f = refl
one_of_three false true c f = refl
one_of_three false false c f = f refl refl

third_of_three : (a b c : Bool) → a ≡ false → b ≡ false → (a || b || c) ≡ true → c ≡ true
third_of_three true b c h k e = cc
third_of_three false true c h k e = cc
third_of_three false false c h k e = e

if_both : (a b c : Bool) → (a ≡ true → b ≡ true → c ≡ true) → (not a || not b || c) ≡ true
if_both true true c f = f refl refl
if_both true false c f = refl
if_both false b c f = refl

of_both : (a b c : Bool) → a ≡ true → b ≡ true → (not a || not b || c) ≡ true → c ≡ true
of_both true true c h k e = e
of_both true false c h k e = cc
of_both false b c h k e = cc

alone_if_met : (u v : ℤ) → pos 0 <ℤ v → (c : Constraint) → IsMet u v c → IsTrue (holds_alone c)
alone_if_met u v h c m = one_of_three (int_lt c.b (pos 0)) (int_lt (pos 0) c.b) (is_kept c.strict c.a) by
  where
    by : int_lt c.b (pos 0) ≡ false → int_lt (pos 0) c.b ≡ false → IsTrue (is_kept c.strict c.a)
    by p q =
        let low = from_lt_false c.b (pos 0) p in
        let high = from_lt_false (pos 0) c.b q in
        let none : c.b ≡ pos 0 = omega (arith, signed, low, high) in
        let gone : c.a *ℤ v +ℤ c.b *ℤ u ≡ c.a *ℤ v +ℤ pos 0 *ℤ u = ap (λ b. c.a *ℤ v +ℤ b *ℤ u) none in
        let alone : c.a *ℤ v +ℤ c.b *ℤ u ≡ v *ℤ c.a = omega (arith, signed, gone, int_zero-mul u, int_mul_comm c.a v) in
        kept_of_times c.strict v c.a h (kept_same c.strict (c.a *ℤ v +ℤ c.b *ℤ u) (v *ℤ c.a) alone m)

negated : (b : ℤ) → neg_ℤ b ≡ pos 0 -ℤ b
negated b = omega (arith, signed)

cleared : (u v a b a' b' : ℤ) → neg_ℤ b' *ℤ (a *ℤ v +ℤ b *ℤ u) +ℤ b *ℤ (a' *ℤ v +ℤ b' *ℤ u) ≡ v *ℤ (a' *ℤ b -ℤ a *ℤ b')
cleared u v a b a' b' =
    ap (λ k. k *ℤ (a *ℤ v +ℤ b *ℤ u) +ℤ b *ℤ (a' *ℤ v +ℤ b' *ℤ u)) (negated b')
    ∙ same_polynomial (u ∷ v ∷ a ∷ b ∷ a' ∷ b' ∷ [])
    ((K (pos 0) ⊖ V 5) ⊗ (V 2 ⊗ V 1 ⊕ V 3 ⊗ V 0) ⊕ V 3 ⊗ (V 4 ⊗ V 1 ⊕ V 5 ⊗ V 0)) (V 1 ⊗ (V 4 ⊗ V 3 ⊖ V 2 ⊗ V 5)) refl

room_if_met : (u v : ℤ) → pos 0 <ℤ v → (c e : Constraint) → IsMet u v c → IsMet u v e → IsTrue (leave_room c e)
room_if_met u v h c e m n =
    if_both (int_lt (pos 0) c.b) (int_lt e.b (pos 0)) (is_kept (c.strict || e.strict) (e.a *ℤ c.b -ℤ c.a *ℤ e.b)) by
  where
    by : int_lt (pos 0) c.b ≡ true → int_lt e.b (pos 0) ≡ true
        → IsTrue (is_kept (c.strict || e.strict) (e.a *ℤ c.b -ℤ c.a *ℤ e.b))
    by p q =
        let low = from_lt_true (pos 0) c.b p in
        let high = from_lt_true e.b (pos 0) q in
        let first = kept_times c.strict (neg_ℤ e.b) (c.a *ℤ v +ℤ c.b *ℤ u) (omega (arith, signed, high)) m in
        let second = kept_times e.strict c.b (e.a *ℤ v +ℤ e.b *ℤ u) low n in
        let both =
        kept_sum c.strict e.strict (neg_ℤ e.b *ℤ (c.a *ℤ v +ℤ c.b *ℤ u))
        (c.b *ℤ (e.a *ℤ v +ℤ e.b *ℤ u)) first second in
        kept_of_times (c.strict || e.strict) v (e.a *ℤ c.b -ℤ c.a *ℤ e.b) h
        (kept_same (c.strict || e.strict) (neg_ℤ e.b *ℤ (c.a *ℤ v +ℤ c.b *ℤ u)
        +ℤ c.b *ℤ (e.a *ℤ v +ℤ e.b *ℤ u)) (v *ℤ (e.a *ℤ c.b -ℤ c.a *ℤ e.b))
        (cleared u v c.a c.b e.a e.b) both)

-- each constraint holds alone, and each two leave room
abbrev pub HasRoom : List Constraint → Type 0
HasRoom cs = IsTrue (list_all holds_alone cs && list_all (λ c. list_all (leave_room c) cs) cs)

-- constraints that u / v meets hold alone and leave room
pub room_if_all_met : (u v : ℤ) (cs : List Constraint) → pos 0 <ℤ v → AllByRecursion (IsMet u v) cs
    → HasRoom cs
room_if_all_met u v cs h m =
    both_true (list_all holds_alone cs) (list_all (λ c. list_all (leave_room c) cs) cs)
    (all_true holds_alone cs (all_then (IsMet u v) (λ c. IsTrue (holds_alone c)) cs (alone_if_met u v h) m))
    (all_true (λ c. list_all (leave_room c) cs) cs
    (all_then (IsMet u v) (λ c. IsTrue (list_all (leave_room c) cs)) cs row m))
  where
    row : (c : Constraint) → IsMet u v c → IsTrue (list_all (leave_room c) cs)
    row c k = all_true (leave_room c) cs (all_then (IsMet u v) (λ e. IsTrue (leave_room c e)) cs
        (λ e l. room_if_met u v h c e k l) m)

-- ---- from room to a solution

-- of the constraints c with f c above 0 this one bounds most
record Tightest (Φ : Constraint → Type 0) (f : Constraint → ℤ) (cs : List Constraint) : Type 0 where
  one : Constraint
  bounds : pos 0 <ℤ f one
  holds : Φ one
  tightest : AllByRecursion (λ c. pos 0 <ℤ f c → pos 0 ≤ℤ (c.a *ℤ f one -ℤ one.a *ℤ f c)) cs

tighter : (a m b n c k : ℤ) → pos 0 <ℤ m → pos 0 <ℤ n → pos 0 <ℤ k → pos 0 ≤ℤ (a *ℤ n -ℤ b *ℤ m)
    → pos 0 ≤ℤ (b *ℤ k -ℤ c *ℤ n) → pos 0 ≤ℤ (a *ℤ k -ℤ c *ℤ m)
tighter a m b n c k hm hn hk p q =
    let first = int_mul_nonneg k (a *ℤ n -ℤ b *ℤ m) (omega (arith, signed, hk)) p in
    let second = int_mul_nonneg m (b *ℤ k -ℤ c *ℤ n) (omega (arith, signed, hm)) q in
    let sum : k *ℤ (a *ℤ n -ℤ b *ℤ m) +ℤ m *ℤ (b *ℤ k -ℤ c *ℤ n) ≡ n *ℤ (a *ℤ k -ℤ c *ℤ m) =
    same_polynomial (a ∷ m ∷ b ∷ n ∷ c ∷ k ∷ [])
    (V 5 ⊗ (V 0 ⊗ V 3 ⊖ V 2 ⊗ V 1) ⊕ V 1 ⊗ (V 2 ⊗ V 5 ⊖ V 4 ⊗ V 3)) (V 3 ⊗ (V 0 ⊗ V 5 ⊖ V 4 ⊗ V 1)) refl in
    int_le_of_mul n (pos 0) (a *ℤ k -ℤ c *ℤ m) hn (omega (
      arith,
      signed,
      first,
      second,
      sum,
      int_mul_comm n (pos 0),
      int_zero-mul n,
    ))

module _ (Φ : Constraint → Type 0) (f : Constraint → ℤ) where
  tightest_of : (c : Constraint) (cs : List Constraint) → pos 0 <ℤ f c → Φ c → AllByRecursion Φ cs
      → Tightest Φ f (c ∷ cs)
  tightest_of c [] h p ps = record { one = c; bounds = h; holds = p; tightest = (λ k. omega (arith, signed), tt) }
  tightest_of c (d ∷ ds) h p ps =
      ⊎_elim
      (λ (k : pos 0 <ℤ f d).
      ⊎_elim (λ (l : (d.a *ℤ f c) <ℤ (c.a *ℤ f d)). second k l (tightest_of d ds k ps.0 ps.1))
      (λ (l : (c.a *ℤ f d) ≤ℤ (d.a *ℤ f c)). first (λ m. omega (arith, signed, l)) (tightest_of c ds h p ps.1))
      (int_lt_or_le (d.a *ℤ f c) (c.a *ℤ f d)))
      (λ (k : f d ≤ℤ pos 0). first (λ m. absurd (omega (arith, signed, k, m))) (tightest_of c ds h p ps.1))
      (int_lt_or_le (pos 0) (f d))
    where
      second : pos 0 <ℤ f d → (d.a *ℤ f c) <ℤ (c.a *ℤ f d) → Tightest Φ f (d ∷ ds) → Tightest Φ f (c ∷ d ∷ ds)
      second k l t =
          record {
            one = t.one;
            bounds = t.bounds;
            holds = t.holds;
            tightest = (
              λ m. tighter c.a (f c) d.a (f d) t.one.a (f t.one) h k t.bounds
                  (omega (arith, signed, l)) (t.tightest.0 k),
              t.tightest,
            );
          }

      first : (pos 0 <ℤ f d → pos 0 ≤ℤ (d.a *ℤ f c -ℤ c.a *ℤ f d)) → Tightest Φ f (c ∷ ds) → Tightest Φ f (c ∷ d ∷ ds)
      first l t =
          record {
            one = t.one;
            bounds = t.bounds;
            holds = t.holds;
            tightest = (
              t.tightest.0,
              (λ m. tighter d.a (f d) c.a (f c) t.one.a (f t.one) m h t.bounds (l m) (t.tightest.0 h), t.tightest.1),
            );
          }

-- what c is to the tightest lower bound l and the tightest upper bound e
record Between (l e c : Constraint) : Type 0 where
  alone : IsTrue (holds_alone c)
  above : IsTrue (leave_room l c)
  below : IsTrue (leave_room c e)
  lower : pos 0 <ℤ c.b → pos 0 ≤ℤ (c.a *ℤ l.b -ℤ l.a *ℤ c.b)
  upper : pos 0 <ℤ neg_ℤ c.b → pos 0 ≤ℤ (c.a *ℤ neg_ℤ e.b -ℤ e.a *ℤ neg_ℤ c.b)

-- the middle of a lower and an upper bound, as a fraction
abbrev middle_num : Constraint → Constraint → ℤ
middle_num l e = e.a *ℤ l.b +ℤ l.a *ℤ e.b

abbrev middle_den : Constraint → Constraint → ℤ
middle_den l e = pos 0 -ℤ pos 2 *ℤ (l.b *ℤ e.b)

middle_den_positive : (l e : Constraint) → pos 0 <ℤ l.b → e.b <ℤ pos 0 → pos 0 <ℤ middle_den l e
middle_den_positive l e h k =
    let p = int_mul_neg_pos e.b l.b k h in
    omega (arith, signed, p, int_mul_comm e.b l.b)

middle_parts : (a b p q r t : ℤ) → neg_ℤ t *ℤ (a *ℤ q -ℤ p *ℤ b) +ℤ q *ℤ (r *ℤ b -ℤ a *ℤ t)
    ≡ a *ℤ (pos 0 -ℤ pos 2 *ℤ (q *ℤ t)) +ℤ b *ℤ (r *ℤ q +ℤ p *ℤ t)
middle_parts a b p q r t =
    ap (λ k. k *ℤ (a *ℤ q -ℤ p *ℤ b) +ℤ q *ℤ (r *ℤ b -ℤ a *ℤ t)) (negated t)
    ∙ same_polynomial (a ∷ b ∷ p ∷ q ∷ r ∷ t ∷ [])
    ((K (pos 0) ⊖ V 5) ⊗ (V 0 ⊗ V 3 ⊖ V 2 ⊗ V 1) ⊕ V 3 ⊗ (V 4 ⊗ V 1 ⊖ V 0 ⊗ V 5))
    (V 0 ⊗ (K (pos 0) ⊖ K (pos 2) ⊗ (V 3 ⊗ V 5)) ⊕ V 1 ⊗ (V 4 ⊗ V 3 ⊕ V 2 ⊗ V 5)) refl

-- the middle meets every constraint between the two bounds
met_by_middle : (l e c : Constraint) → pos 0 <ℤ l.b → e.b <ℤ pos 0 → Between l e c
    → IsMet (middle_num l e) (middle_den l e) c
met_by_middle l e c h k w = by (int_lt_or_le (pos 0) c.b) (int_lt_or_le c.b (pos 0))
  where
    down : pos 0 <ℤ neg_ℤ e.b
    down = omega (arith, signed, k)

    joined : IsTrue
        (is_kept c.strict (neg_ℤ e.b *ℤ (c.a *ℤ l.b -ℤ l.a *ℤ c.b)
        +ℤ l.b *ℤ (e.a *ℤ c.b -ℤ c.a *ℤ e.b)))
        → IsMet (middle_num l e) (middle_den l e) c
    joined p = kept_same c.strict _ _ (middle_parts c.a c.b l.a l.b e.a e.b) p

    by_low : IsTrue (is_kept c.strict (c.a *ℤ l.b -ℤ l.a *ℤ c.b))
        → pos 0 ≤ℤ (e.a *ℤ c.b -ℤ c.a *ℤ e.b) → IsMet (middle_num l e) (middle_den l e) c
    by_low p q =
        joined (kept_plus c.strict (neg_ℤ e.b *ℤ (c.a *ℤ l.b -ℤ l.a *ℤ c.b)) (l.b *ℤ (e.a *ℤ c.b -ℤ c.a *ℤ e.b))
        (kept_times c.strict (neg_ℤ e.b) (c.a *ℤ l.b -ℤ l.a *ℤ c.b) down p)
        (int_mul_nonneg l.b (e.a *ℤ c.b -ℤ c.a *ℤ e.b) (omega (arith, signed, h)) q))

    by_high : pos 0 ≤ℤ (c.a *ℤ l.b -ℤ l.a *ℤ c.b)
        → IsTrue (is_kept c.strict (e.a *ℤ c.b -ℤ c.a *ℤ e.b))
        → IsMet (middle_num l e) (middle_den l e) c
    by_high p q =
        joined (kept_onto c.strict (neg_ℤ e.b *ℤ (c.a *ℤ l.b -ℤ l.a *ℤ c.b)) (l.b *ℤ (e.a *ℤ c.b -ℤ c.a *ℤ e.b))
        (int_mul_nonneg (neg_ℤ e.b) (c.a *ℤ l.b -ℤ l.a *ℤ c.b) (omega (arith, signed, down)) p)
        (kept_times c.strict l.b (e.a *ℤ c.b -ℤ c.a *ℤ e.b) h q))

    from_below : pos 0 <ℤ c.b → IsTrue (is_kept c.strict (e.a *ℤ c.b -ℤ c.a *ℤ e.b))
    from_below p =
        kept_first c.strict e.strict (e.a *ℤ c.b -ℤ c.a *ℤ e.b)
        (of_both (int_lt (pos 0) c.b) (int_lt e.b (pos 0)) (is_kept (c.strict || e.strict) (e.a *ℤ c.b -ℤ c.a *ℤ e.b))
        (lt_true (pos 0) c.b p) (lt_true e.b (pos 0) k) w.below)

    from_above : c.b <ℤ pos 0 → IsTrue (is_kept c.strict (c.a *ℤ l.b -ℤ l.a *ℤ c.b))
    from_above p =
        kept_second l.strict c.strict (c.a *ℤ l.b -ℤ l.a *ℤ c.b)
        (of_both (int_lt (pos 0) l.b) (int_lt c.b (pos 0)) (is_kept (l.strict || c.strict) (c.a *ℤ l.b -ℤ l.a *ℤ c.b))
        (lt_true (pos 0) l.b h) (lt_true c.b (pos 0) p) w.above)

    turned_upper : (a b r t : ℤ) → pos 0 ≤ℤ (a *ℤ neg_ℤ t -ℤ r *ℤ neg_ℤ b) → pos 0 ≤ℤ (r *ℤ b -ℤ a *ℤ t)
    turned_upper a b r t p = omega (arith, signed, p, int_mul-neg a t, int_mul-neg r b)

    alone : c.b ≡ pos 0 → IsTrue (is_kept c.strict c.a)
    alone z =
        third_of_three (int_lt c.b (pos 0)) (int_lt (pos 0) c.b) (is_kept c.strict c.a)
        (lt_false c.b (pos 0) (omega (arith, signed, z))) (lt_false (pos 0) c.b (omega (arith, signed, z))) w.alone

    level : c.b ≡ pos 0 → IsMet (middle_num l e) (middle_den l e) c
    level z =
        let none = ap (λ b. l.a *ℤ b) z in
        let gone = ap (λ b. e.a *ℤ b) z in
        let left = int_mul_comm l.a (pos 0) in
        let right = int_mul_comm e.a (pos 0) in
        let scaled = kept_times c.strict l.b c.a h (alone z) in
        let under = int_mul_nonneg c.a (neg_ℤ e.b) (weakly c.strict c.a (alone z)) (omega (arith, signed, down)) in
        by_low
        (kept_same c.strict (l.b *ℤ c.a) (c.a *ℤ l.b -ℤ l.a *ℤ c.b)
        (omega (arith, signed, none, left, int_zero-mul l.a, int_mul_comm l.b c.a)) scaled)
        (omega (arith, signed, gone, right, int_zero-mul e.a, under, int_mul-neg c.a e.b))

    by : (pos 0 <ℤ c.b) ⊎ (c.b ≤ℤ pos 0) → (c.b <ℤ pos 0) ⊎ (pos 0 ≤ℤ c.b) → IsMet (middle_num l e) (middle_den l e) c
    by (inl p) q = by_high (w.lower p) (from_below p)
    by (inr p) (inl q) = by_low (from_above q) (turned_upper c.a c.b e.a e.b (w.upper (omega (arith, signed, q))))
    by (inr p) (inr q) = level (omega (arith, signed, p, q))

-- a fraction u / v that meets every constraint
pub record Solution (cs : List Constraint) : Type 0 where
  pub u : ℤ
  pub v : ℤ
  pub positive : pos 0 <ℤ v
  pub meets : AllByRecursion (IsMet u v) cs

-- each of the five facts of each constraint
between_all : (l e : Constraint) (cs : List Constraint) → AllByRecursion (λ c. IsTrue (holds_alone c)) cs
    → AllByRecursion (λ c. IsTrue (leave_room l c)) cs → AllByRecursion (λ c. IsTrue (leave_room c e)) cs
    → AllByRecursion (λ c. pos 0 <ℤ c.b → pos 0 ≤ℤ (c.a *ℤ l.b -ℤ l.a *ℤ c.b)) cs
    → AllByRecursion (λ c. pos 0 <ℤ neg_ℤ c.b → pos 0 ≤ℤ (c.a *ℤ neg_ℤ e.b -ℤ e.a *ℤ neg_ℤ c.b)) cs
    → AllByRecursion (Between l e) cs
between_all l e [] alone above below lower upper = tt
between_all l e (c ∷ cs) alone above below lower upper = (
  record { alone = alone.0; above = above.0; below = below.0; lower = lower.0; upper = upper.0 },
  between_all l e cs alone.1 above.1 below.1 lower.1 upper.1,
)

module _ (cs : List Constraint) (room : HasRoom cs) where
  alone_all : AllByRecursion (λ c. IsTrue (holds_alone c)) cs
  alone_all =
      all_of holds_alone cs (first_true (list_all holds_alone cs)
      (list_all (λ c. list_all (leave_room c) cs) cs) room)

  rows : AllByRecursion (λ c. AllByRecursion (λ e. IsTrue (leave_room c e)) cs) cs
  rows =
      all_then (λ c. IsTrue (list_all (leave_room c) cs))
      (λ c. AllByRecursion (λ e. IsTrue (leave_room c e)) cs) cs
      (λ c h. all_of (leave_room c) cs h)
      (all_of (λ c. list_all (leave_room c) cs) cs (second_true (list_all holds_alone cs)
      (list_all (λ c. list_all (leave_room c) cs) cs) room))

  columns : AllByRecursion (λ e. AllByRecursion (λ c. IsTrue (leave_room c e)) cs) cs
  columns = all_turned (λ c e. IsTrue (leave_room c e)) cs cs rows

  -- the middle of the tightest two bounds
  solution_between : (c d : Constraint)
      → Tightest (λ x. AllByRecursion (λ e. IsTrue (leave_room x e)) cs) (λ x. x.b) (c ∷ cs)
      → Tightest (λ e. AllByRecursion (λ x. IsTrue (leave_room x e)) cs) (λ x. neg_ℤ x.b) (d ∷ cs) → Solution cs
  solution_between c d l e = by (omega (arith, signed, e.bounds))
    where
      by : e.one.b <ℤ pos 0 → Solution cs
      by down =
          record {
            u = middle_num l.one e.one;
            v = middle_den l.one e.one;
            positive = middle_den_positive l.one e.one l.bounds down;
            meets =
                all_then (Between l.one e.one) (IsMet (middle_num l.one e.one) (middle_den l.one e.one)) cs
                (λ x w. met_by_middle l.one e.one x l.bounds down w)
                (between_all l.one e.one cs alone_all l.holds e.holds l.tightest.1 e.tightest.1);
          }

-- constraints with room have a solution, where the first is a lower bound and the second an upper one
pub solution_of_room : (c d : Constraint) (cs : List Constraint) → pos 0 <ℤ c.b → d.b <ℤ pos 0
    → HasRoom (c ∷ d ∷ cs) → Solution (c ∷ d ∷ cs)
solution_of_room c d cs h k room =
    let across = rows (c ∷ d ∷ cs) room in
    let along = columns (c ∷ d ∷ cs) room in
    solution_between (c ∷ d ∷ cs) room c d
    (tightest_of (λ x. AllByRecursion (λ e. IsTrue (leave_room x e)) (c ∷ d ∷ cs)) (λ x. x.b) c
    (c ∷ d ∷ cs) h across.0 across)
    (tightest_of (λ e. AllByRecursion (λ x. IsTrue (leave_room x e)) (c ∷ d ∷ cs)) (λ x. neg_ℤ x.b)
    d (c ∷ d ∷ cs) (omega (arith, signed, k)) along.1.0 along)
