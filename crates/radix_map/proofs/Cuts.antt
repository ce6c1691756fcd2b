-- The entries from a key on, and those below it: of lists that lie on one side of the key, of lists in
-- a row, raised or joined, and at a key.
use Rattle.std.proofs.Common.{◌≡◌, refl, sym, ap, subst, ◌∙◌, ℕ, suc, zero, ◌+◌, ◌*◌, ◌%◌, ◌<◌, ◌≤◌, arith, ◌⊎◌, inl, inr}
use Rattle.std.proofs.Common.{List, [], ◌∷◌, ◌++◌, get_or, drop, true, false, cond}
use Rattle.std.proofs.Common.{Some, None, slice_get, rules}
use Rattle.std.proofs.Math.Nat.{zero-mod}
use Rattle.std.specs.Bool.{nat_lt, nat_le}
use Rattle.std.specs.List.Sorted.{IsPartitionPoint}
use Rattle.std.proofs.lemmas.Bool.{le-leb, lt-leb, lt-ltb, le-ltb, ltb-true, ltb-false}
use Rattle.std.proofs.lemmas.List.Elements.{filter-append}
use Rattle.radix_map.specs.Entries.{entries_from, entries_below, value_at, raised, joined, Rises}
use Rattle.radix_map.specs.Rising.{rises_lower, rises-first, rises-joined, AllRise}
use Rattle.radix_map.proofs.Keys.{rises_order, value_below, value-append_right}
use Rattle.radix_map.proofs.Values.{own_value}

-- k is above x, or at most x
pub below_or_from : (k x : ℕ) → (x < k) ⊎ (k ≤ x)
below_or_from k x = search (arith, rules)

-- ---- the first entry lies on one side

pub from_first : {V : Type 0} (k : ℕ) (e : ℕ × V) (es : List (ℕ × V)) → k ≤ e.0 → entries_from k (e ∷ es) ≡ e ∷ entries_from k es
unfolding entries_from
from_first k e es h = ap (λ t. cond t (e ∷ entries_from k es) (entries_from k es)) (le-leb k e.0 h)

pub from_later : {V : Type 0} (k : ℕ) (e : ℕ × V) (es : List (ℕ × V)) → e.0 < k → entries_from k (e ∷ es) ≡ entries_from k es
unfolding entries_from
from_later k e es h = ap (λ t. cond t (e ∷ entries_from k es) (entries_from k es)) (lt-leb k e.0 h)

pub below_first : {V : Type 0} (k : ℕ) (e : ℕ × V) (es : List (ℕ × V)) → e.0 < k → entries_below k (e ∷ es) ≡ e ∷ entries_below k es
unfolding entries_below
below_first k e es h = ap (λ t. cond t (e ∷ entries_below k es) (entries_below k es)) (lt-ltb e.0 k h)

pub below_later : {V : Type 0} (k : ℕ) (e : ℕ × V) (es : List (ℕ × V)) → k ≤ e.0 → entries_below k (e ∷ es) ≡ entries_below k es
unfolding entries_below
below_later k e es h = ap (λ t. cond t (e ∷ entries_below k es) (entries_below k es)) (le-ltb e.0 k h)

-- ---- all entries lie on one side

pub from_all : {V : Type 0} (k a b : ℕ) (es : List (ℕ × V)) → Rises a b es → k ≤ a → entries_from k es ≡ es
unfolding entries_from
from_all k a b [] h l = refl
from_all k a b (e ∷ es) h l =
    let low = h.0 in
    from_first k e es (omega arith) ∙ ap (λ t. e ∷ t) (from_all k (e.0 + 1) b es h.1 (omega arith))

pub from_none : {V : Type 0} (k a b : ℕ) (es : List (ℕ × V)) → Rises a b es → b ≤ k → entries_from k es ≡ []
unfolding entries_from
from_none k a b [] h l = refl
from_none k a b (e ∷ es) h l =
    let end = rises_order (e.0 + 1) b es h.1 in
    from_later k e es (omega arith) ∙ from_none k (e.0 + 1) b es h.1 l

pub below_all : {V : Type 0} (k a b : ℕ) (es : List (ℕ × V)) → Rises a b es → b ≤ k → entries_below k es ≡ es
unfolding entries_below
below_all k a b [] h l = refl
below_all k a b (e ∷ es) h l =
    let end = rises_order (e.0 + 1) b es h.1 in
    below_first k e es (omega arith) ∙ ap (λ t. e ∷ t) (below_all k (e.0 + 1) b es h.1 l)

pub below_none : {V : Type 0} (k a b : ℕ) (es : List (ℕ × V)) → Rises a b es → k ≤ a → entries_below k es ≡ []
unfolding entries_below
below_none k a b [] h l = refl
below_none k a b (e ∷ es) h l =
    let low = h.0 in
    below_later k e es (omega arith) ∙ below_none k (e.0 + 1) b es h.1 (omega arith)

-- all keys are from 0 on
pub from_zero : {V : Type 0} (es : List (ℕ × V)) → entries_from 0 es ≡ es
unfolding entries_from
from_zero [] = refl
from_zero (e ∷ es) = from_first 0 e es (omega arith) ∙ ap (λ t. e ∷ t) (from_zero es)

pub from_start : {V : Type 0} (m : ℕ) (es : List (ℕ × V)) → entries_from (0 % m) es ≡ es
from_start m es = ap (λ k. entries_from k es) (zero-mod m) ∙ from_zero es

-- ---- two lists in a row, and a list raised

pub from-append : {V : Type 0} (k : ℕ) (xs ys : List (ℕ × V)) → entries_from k (xs ++ ys) ≡ entries_from k xs ++ entries_from k ys
unfolding entries_from
from-append k xs ys = filter-append (λ e. nat_le k e.0) xs ys

pub from-raised : {V : Type 0} (b k : ℕ) (es : List (ℕ × V)) → entries_from (b + k) (raised b es) ≡ raised b (entries_from k es)
unfolding entries_from raised
from-raised b k [] = refl
from-raised {V} b k (e ∷ es) = by (from-raised b k es) (below_or_from k e.0)
  where
    first : ℕ × V
    first = (b + e.0, e.1)

    by : entries_from (b + k) (raised b es) ≡ raised b (entries_from k es) → (e.0 < k) ⊎ (k ≤ e.0)
        → entries_from (b + k) (first ∷ raised b es) ≡ raised b (entries_from k (e ∷ es))
    by rest (inl l) = from_later (b + k) first (raised b es) (omega arith) ∙ rest ∙ ap (raised b) (sym (from_later k e es l))
    by rest (inr l) =
        from_first (b + k) first (raised b es) (omega arith) ∙ ap (λ t. first ∷ t) rest ∙ ap (raised b) (sym (from_first k e es l))

-- ---- a list is what lies below a key, and what lies from it on

pub cut : {V : Type 0} (k a b : ℕ) (es : List (ℕ × V)) → Rises a b es → entries_below k es ++ entries_from k es ≡ es
unfolding entries_below entries_from
cut k a b [] h = refl
cut {V} k a b (e ∷ es) h = by (cut k (e.0 + 1) b es h.1) (below_or_from k e.0)
  where
    by : entries_below k es ++ entries_from k es ≡ es → (e.0 < k) ⊎ (k ≤ e.0)
        → entries_below k (e ∷ es) ++ entries_from k (e ∷ es) ≡ e ∷ es
    by rest (inl l) =
        ap (λ t. t ++ entries_from k (e ∷ es)) (below_first k e es l) ∙ ap (λ t. e ∷ entries_below k es ++ t) (from_later k e es l)
        ∙ ap (λ t. e ∷ t) rest
    by rest (inr l) =
        let from : e.0 ≤ e.0 = omega arith in
        ap (λ t. t ++ entries_from k (e ∷ es)) (below_none k e.0 b (e ∷ es) (from, h.1) l) ∙ from_all k e.0 b (e ∷ es) (from, h.1) l

pub below_rises : {V : Type 0} (k a b : ℕ) (es : List (ℕ × V)) → Rises a b es → a ≤ k → Rises a k (entries_below k es)
unfolding entries_below
below_rises k a b [] h l = l
below_rises {V} k a b (e ∷ es) h l = by (λ m. below_rises k (e.0 + 1) b es h.1 (omega arith)) (below_or_from k e.0)
  where
    by : (e.0 < k → Rises (e.0 + 1) k (entries_below k es)) → (e.0 < k) ⊎ (k ≤ e.0) → Rises a k (entries_below k (e ∷ es))
    by rest (inl m) = subst (Rises a k) (sym (below_first k e es m)) (h.0, rest m)
    by rest (inr m) =
        let from : e.0 ≤ e.0 = omega arith in
        subst (Rises a k) (sym (below_none k e.0 b (e ∷ es) (from, h.1) m)) l

pub from_rises : {V : Type 0} (k a b : ℕ) (es : List (ℕ × V)) → Rises a b es → k ≤ b → Rises k b (entries_from k es)
unfolding entries_from
from_rises k a b [] h l = l
from_rises {V} k a b (e ∷ es) h l = by (from_rises k (e.0 + 1) b es h.1 l) (below_or_from k e.0)
  where
    by : Rises k b (entries_from k es) → (e.0 < k) ⊎ (k ≤ e.0) → Rises k b (entries_from k (e ∷ es))
    by rest (inl m) = subst (Rises k b) (sym (from_later k e es m)) rest
    by rest (inr m) =
        let from : e.0 ≤ e.0 = omega arith in
        subst (Rises k b) (sym (from_all k e.0 b (e ∷ es) (from, h.1) m)) (m, h.1)

-- from whatever bound on a list rises, its part from a key on rises too
pub from_keeps : {V : Type 0} (k a b : ℕ) (es : List (ℕ × V)) → Rises a b es → Rises a b (entries_from k es)
unfolding entries_from
from_keeps k a b [] h = h
from_keeps {V} k a b (e ∷ es) h = by (from_keeps k (e.0 + 1) b es h.1) (below_or_from k e.0)
  where
    by : Rises (e.0 + 1) b (entries_from k es) → (e.0 < k) ⊎ (k ≤ e.0) → Rises a b (entries_from k (e ∷ es))
    by rest (inl m) =
        let low = h.0 in
        subst (Rises a b) (sym (from_later k e es m)) (rises_lower a (e.0 + 1) b (entries_from k es) (omega arith) rest)
    by rest (inr m) = subst (Rises a b) (sym (from_first k e es m)) (h.0, rest)

-- ---- the value at a key

-- a key at or above the bound has its value in the entries from there on
pub value_from : {V : Type 0} (k from b : ℕ) (es : List (ℕ × V)) → Rises 0 b es → from ≤ k
    → value_at k (entries_from from es) ≡ value_at k es
value_from k from b es h l =
    sym (value-append_right k 0 from (entries_below from es) (entries_from from es) (below_rises from 0 b es h (omega arith)) l)
    ∙ ap (value_at k) (cut from 0 b es h)

-- where keys are at least k, the first entry alone may have it
pub first_has : {V : Type 0} (k : ℕ) (es : List (ℕ × V)) (e : ℕ × V) → Some e ≡ slice_get es 0 → e.0 ≡ k → Some e.1 ≡ value_at k es
first_has k [] e s q = cc
first_has k (x ∷ es) e s q =
    let first : e ≡ x = cc in
    sym (own_value e.0 e.1 es) ∙ ap (λ t. value_at e.0 (t ∷ es)) first ∙ ap (λ n. value_at n (x ∷ es)) q

pub first_lacks : {V : Type 0} (k b : ℕ) (es : List (ℕ × V)) (e : ℕ × V) → Rises k b es → Some e ≡ slice_get es 0 → (e.0 ≡ k → ⊥)
    → None ≡ value_at k es
first_lacks k b [] e h s other = cc
first_lacks k b (x ∷ es) e h s other =
    let low = h.0 in
    let first : e ≡ x = cc in
    let key : e.0 ≡ x.0 = ap (λ (t : _). t.0) first in
    let above : k < x.0 = search (arith, other) in
    let own : x.0 ≤ x.0 = omega arith in
    sym (value_below k x.0 b (x ∷ es) (own, h.1) above)

pub none_lacks : {V : Type 0} (k : ℕ) (es : List (ℕ × V)) → None ≡ slice_get es 0 → None ≡ value_at k es
none_lacks k [] s = refl
none_lacks k (x ∷ es) s = cc

-- ---- maps in a row, from a key of the i-th of them on

pub from_joined : {V : Type 0} (step base i k : ℕ) (ess : List (List (ℕ × V))) → AllRise step ess → k < step
    → entries_from (base + (i * step + k)) (joined step base ess)
    ≡ raised (base + i * step) (entries_from k (get_or ess i [])) ++ joined step (base + suc i * step) (drop (suc i) ess)
unfolding joined entries_from raised
from_joined step base i k [] h l = refl
from_joined step base zero k (es ∷ ess) h l =
    let at : base + (0 * step + k) ≡ base + k = omega arith in
    let own : base ≡ base + 0 * step = omega arith in
    let next : base + step ≡ base + 1 * step = omega arith in
    let rest = joined step (base + step) ess in
    ap (λ n. entries_from n (raised base es ++ rest)) at ∙ from-append (base + k) (raised base es) rest
    ∙ ap (λ t. t ++ entries_from (base + k) rest) (from-raised base k es)
    ∙ ap (λ t. raised base (entries_from k es) ++ t)
    (from_all (base + k) (base + step) _ rest (rises-joined step (base + step) ess h.1) (omega arith))
    ∙ ap (λ n. raised n (entries_from k es) ++ rest) own ∙ ap (λ n. raised (base + 0 * step) (entries_from k es) ++ joined step n ess) next
from_joined step base (suc i) k (es ∷ ess) h l =
    let at : base + (suc i * step + k) ≡ base + step + (i * step + k) = omega arith in
    let own : base + step + i * step ≡ base + suc i * step = omega arith in
    let next : base + step + suc i * step ≡ base + suc (suc i) * step = omega arith in
    let rest = joined step (base + step) ess in
    let later = drop (suc i) ess in
    let found = entries_from k (get_or ess i []) in
    ap (λ n. entries_from n (raised base es ++ rest)) at ∙ from-append (base + step + (i * step + k)) (raised base es) rest
    ∙ ap (λ t. t ++ entries_from (base + step + (i * step + k)) rest)
    (from_none _ base (base + step) (raised base es) (rises-first step base es h.0) (omega arith))
    ∙ from_joined step (base + step) i k ess h.1 l
    ∙ ap (λ n. raised n found ++ joined step (base + step + suc i * step) later) own
    ∙ ap (λ n. raised (base + suc i * step) found ++ joined step n later) next

-- ---- where a list is parted at a key

drop-none : {X : Type 0} (n : ℕ) → drop {A = X} n [] ≡ []
drop-none zero = refl
drop-none (suc n) = refl

pub from_part : {V : Type 0} (k i : ℕ) (es : List (ℕ × V))
    → IsPartitionPoint (λ e. nat_lt e.0 k ≡ true) (λ e. nat_lt e.0 k ≡ false) es i → drop i es ≡ entries_from k es
unfolding entries_from
from_part k i [] p = drop-none i
from_part k zero (e ∷ es) p =
    let low = ltb-false e.0 k (p.1 0 e (omega arith) (omega arith)) in
    sym (from_first k e es low ∙ ap (λ t. e ∷ t) (sym (from_part k zero es (λ j d l n. absurd (omega arith), λ j d l n. p.1 (suc j) d (omega arith) (omega arith)))))
from_part k (suc i) (e ∷ es) p =
    let low = ltb-true e.0 k (p.0 0 e (omega arith) (omega arith)) in
    from_part k i es (λ j d l n. p.0 (suc j) d (omega arith) (omega arith), λ j d l n. p.1 (suc j) d (omega arith) (omega arith))
    ∙ sym (from_later k e es low)
