-- Edits key by key: the value at each key after one edit, and that the entries rise after many.
use Rattle.std.proofs.Common.{◌⊎◌, inl, inr, ◌≡◌, ℕ, ◌+◌, ◌%◌, ◌<◌, List, [], ◌∷◌, Bool, true, false, cond, is_eq, nat_cmp, option_map, Option, Some, None, refl, sym, ap, ◌∙◌, subst, arith}
use Rattle.std.proofs.Math.Nat.{mod-lt}
use Rattle.std.specs.Arc.{arc_value}
use Rattle.std.specs.declared.sync.Arc.{Arc}
use Rattle.std.specs.declared.cmp.Ordering.{Ordering}
use Rattle.std.specs.declared.cmp.Ordering.TheVariants.{Less, Equal, Greater}
use Rattle.std.specs.Ordering.{MatchOrdering, match_ordering}
use Rattle.std.specs.Cmp.{ranks, nat_cmp_is}
use Rattle.radix_map.specs.Entries.{value_at, with_key, without_key, edited, edited_within, Rises}
use Rattle.radix_map.proofs.Keys.{value_below}
use Rattle.radix_map.proofs.Trees.{edited_rises}

pub key_equal : (x : ℕ) → nat_cmp x x ≡ Equal
key_equal x = sym (nat_cmp_is x x Equal refl)

equal_by : (x y : ℕ) (r : Ordering) → MatchOrdering r (x < y) (x ≡ y) (y < x) → is_eq r ≡ true → x ≡ y
equal_by x y Less m h = cc
equal_by x y Equal m h = m
equal_by x y Greater m h = cc

pub same_key : (x y : ℕ) → is_eq (nat_cmp x y) ≡ true → x ≡ y
same_key x y h = equal_by x y (nat_cmp x y) (ranks x y) h

-- ---- the value at each key after one edit

either_first : {V : Type 0} (a b : Bool) (x y z : Option V) → (a ≡ true → b ≡ true → ⊥) → cond a x (cond b y z) ≡ cond b y (cond a x z)
either_first true true x y z h = absurd (h refl refl)
either_first true false x y z h = refl
either_first false true x y z h = refl
either_first false false x y z h = refl

hidden : {V : Type 0} (a : Bool) (x y z : Option V) → cond a x z ≡ cond a x (cond a y z)
hidden true x y z = refl
hidden false x y z = refl

one_key : (k e j : ℕ) → (e < j) ⊎ (j < e) → is_eq (nat_cmp k e) ≡ true → is_eq (nat_cmp k j) ≡ true → ⊥
one_key k e j h a b = let p = same_key k e a in let q = same_key k j b in omega arith

with_first : {V : Type 0} (k j : ℕ) (v : V) (e : ℕ × V) (es zs : List (ℕ × V)) (r : Ordering)
    → MatchOrdering r (j < e.0) (j ≡ e.0) (e.0 < j)
    → value_at k zs ≡ cond (is_eq (nat_cmp k j)) (Some v) (value_at k es)
    → value_at k (match_ordering r ((j, v) ∷ e ∷ es) ((e.0, v) ∷ es) (e ∷ zs)) ≡ cond (is_eq (nat_cmp k j)) (Some v) (cond (is_eq (nat_cmp k e.0)) (Some e.1) (value_at k es))
with_first k j v e es zs Less m h = refl
with_first k j v e es zs Equal m h =
    ap (λ n. cond (is_eq (nat_cmp k n)) (Some v) (value_at k es)) (sym m)
    ∙ hidden (is_eq (nat_cmp k j)) (Some v) (Some e.1) (value_at k es)
    ∙ ap (λ n. cond (is_eq (nat_cmp k j)) (Some v) (cond (is_eq (nat_cmp k n)) (Some e.1) (value_at k es))) m
with_first k j v e es zs Greater m h =
    ap (λ t. cond (is_eq (nat_cmp k e.0)) (Some e.1) t) h
    ∙ either_first (is_eq (nat_cmp k e.0)) (is_eq (nat_cmp k j)) (Some e.1) (Some v) (value_at k es) (one_key k e.0 j (inl m))

value_with : {V : Type 0} (k j : ℕ) (v : V) (es : List (ℕ × V)) → value_at k (with_key es j v) ≡ cond (is_eq (nat_cmp k j)) (Some v) (value_at k es)
value_with k j v [] = refl
value_with k j v (e ∷ es) = with_first k j v e es (with_key es j v) (nat_cmp j e.0) (ranks j e.0) (value_with k j v es)

gone : {V : Type 0} (k j b : ℕ) (v : V) (es : List (ℕ × V)) (t : Bool) → is_eq (nat_cmp k j) ≡ t → Rises (j + 1) b es
    → value_at k es ≡ cond t None (cond t (Some v) (value_at k es))
gone k j b v es true q h = let e = same_key k j q in value_below k (j + 1) b es h (omega arith)
gone k j b v es false q h = refl

without_first : {V : Type 0} (k j b : ℕ) (e : ℕ × V) (es zs : List (ℕ × V)) (r : Ordering) → Rises (e.0 + 1) b es
    → MatchOrdering r (j < e.0) (j ≡ e.0) (e.0 < j) → value_at k zs ≡ cond (is_eq (nat_cmp k j)) None (value_at k es)
    → value_at k (cond (is_eq r) es (e ∷ zs)) ≡ cond (is_eq (nat_cmp k j)) None (cond (is_eq (nat_cmp k e.0)) (Some e.1) (value_at k es))
without_first k j b e es zs Less g m h =
    ap (λ t. cond (is_eq (nat_cmp k e.0)) (Some e.1) t) h
    ∙ either_first (is_eq (nat_cmp k e.0)) (is_eq (nat_cmp k j)) (Some e.1) None (value_at k es) (one_key k e.0 j (inr m))
without_first k j b e es zs Equal g m h =
    gone k j b e.1 es (is_eq (nat_cmp k j)) refl (subst (λ n. Rises (n + 1) b es) (sym m) g)
    ∙ ap (λ n. cond (is_eq (nat_cmp k j)) None (cond (is_eq (nat_cmp k n)) (Some e.1) (value_at k es))) m
without_first k j b e es zs Greater g m h =
    ap (λ t. cond (is_eq (nat_cmp k e.0)) (Some e.1) t) h
    ∙ either_first (is_eq (nat_cmp k e.0)) (is_eq (nat_cmp k j)) (Some e.1) None (value_at k es) (one_key k e.0 j (inl m))

either_way : {V : Type 0} (t : Bool) (o : Option V) → o ≡ cond t o o
either_way true o = refl
either_way false o = refl

value_without : {V : Type 0} (k j a b : ℕ) (es : List (ℕ × V)) → Rises a b es
    → value_at k (without_key es j) ≡ cond (is_eq (nat_cmp k j)) None (value_at k es)
value_without k j a b [] h = either_way (is_eq (nat_cmp k j)) None
value_without k j a b (e ∷ es) h = without_first k j b e es (without_key es j) (nat_cmp j e.0) h.1 (ranks j e.0) (value_without k j (e.0 + 1) b es h.1)

pub value_edited : {V : Type 0} (k j b : ℕ) (o : Option V) (es : List (ℕ × V)) → Rises 0 b es
    → value_at k (edited es j o) ≡ cond (is_eq (nat_cmp k j)) o (value_at k es)
value_edited k j b None es h = value_without k j 0 b es h
value_edited k j b (Some v) es h = value_with k j v es

pub own_value : {V : Type 0} (k : ℕ) (v : V) (es : List (ℕ × V)) → value_at k ((k, v) ∷ es) ≡ Some v
own_value k v es = ap (λ r. cond (is_eq r) (Some v) (value_at k es)) (key_equal k)

pub within_rises : {V Z : Type 0} (w : ℕ) (es : List (ℕ × V)) (edits : List (ℕ × Option (Arc V Z))) → 0 < w
    → Rises 0 w es → Rises 0 w (edited_within w es edits)
unfolding edited_within
within_rises w es [] p h = h
within_rises w es (e ∷ edits) p h = let j = e.0 % w in let o = option_map arc_value e.1 in within_rises w (edited es j o) edits p (edited_rises 0 w j o es (omega arith) (mod-lt e.0 p) h)
