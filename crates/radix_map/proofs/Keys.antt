-- A key is looked up and changed in a list of two parts in the part where it belongs, and in a raised list at the lower key. The parts rise, and the key lies below the second or not below the end of the first.
use Rattle.std.proofs.Common.{◌≡◌, ℕ, ◌+◌, ◌<◌, ◌≤◌, List, [], ◌∷◌, ◌++◌, Bool, true, false, cond, is_eq, nat_cmp, Option, Some, None, refl, sym, ap, ◌∙◌, subst, arith}
use Rattle.std.specs.declared.cmp.Ordering.{Ordering}
use Rattle.std.specs.declared.cmp.Ordering.TheVariants.{Less, Equal, Greater}
use Rattle.std.specs.Ordering.{MatchOrdering, match_ordering}
use Rattle.std.specs.Cmp.{ranks, nat_cmp_is}
use Rattle.radix_map.specs.Entries.{value_at, with_key, without_key, edited, Rises, raised}

cmp_less : (x y : ℕ) → x < y → nat_cmp x y ≡ Less
cmp_less x y h = sym (nat_cmp_is x y Less h)

cmp_greater : (x y : ℕ) → y < x → nat_cmp x y ≡ Greater
cmp_greater x y h = sym (nat_cmp_is x y Greater h)

raised_ranks : (b x y : ℕ) (r : Ordering) → MatchOrdering r (x < y) (x ≡ y) (y < x) → MatchOrdering r (b + x < b + y) (b + x ≡ b + y) (b + y < b + x)
raised_ranks b x y Less h = omega arith
raised_ranks b x y Equal h = omega arith
raised_ranks b x y Greater h = omega arith

cmp_raised : (b x y : ℕ) → nat_cmp (b + x) (b + y) ≡ nat_cmp x y
cmp_raised b x y = sym (nat_cmp_is (b + x) (b + y) (nat_cmp x y) (raised_ranks b x y (nat_cmp x y) (ranks x y)))

-- ---- values

pub value_below : {V : Type 0} (k a b : ℕ) (es : List (ℕ × V)) → Rises a b es → k < a → value_at k es ≡ None
value_below k a b [] h l = refl
value_below k a b (e ∷ es) h l =
    let first = h.0 in
    subst (λ r. cond (is_eq r) (Some e.1) (value_at k es) ≡ None) (sym (cmp_less k e.0 (omega arith))) (value_below k (e.0 + 1) b es h.1 (omega arith))

pub value-append_left : {V : Type 0} (k b c : ℕ) (xs ys : List (ℕ × V)) → Rises b c ys → k < b → value_at k (xs ++ ys) ≡ value_at k xs
value-append_left k b c [] ys h l = value_below k b c ys h l
value-append_left k b c (e ∷ xs) ys h l = ap (λ t. cond (is_eq (nat_cmp k e.0)) (Some e.1) t) (value-append_left k b c xs ys h l)

-- the end of a list that rises is not below its start, and its keys are below it
pub rises_order : {V : Type 0} (a b : ℕ) (es : List (ℕ × V)) → Rises a b es → a ≤ b
rises_order a b [] h = h
rises_order a b (e ∷ es) h = let l = h.0 in let k = rises_order (e.0 + 1) b es h.1 in omega arith

pub value-append_right : {V : Type 0} (k a b : ℕ) (xs ys : List (ℕ × V)) → Rises a b xs → b ≤ k → value_at k (xs ++ ys) ≡ value_at k ys
value-append_right k a b [] ys h l = refl
value-append_right k a b (e ∷ xs) ys h l =
    let n = rises_order (e.0 + 1) b xs h.1 in
    subst (λ r. cond (is_eq r) (Some e.1) (value_at k (xs ++ ys)) ≡ value_at k ys) (sym (cmp_greater k e.0 (omega arith))) (value-append_right k (e.0 + 1) b xs ys h.1 l)

pub value-raised : {V : Type 0} (b k : ℕ) (es : List (ℕ × V)) → value_at (b + k) (raised b es) ≡ value_at k es
unfolding raised
value-raised b k [] = refl
value-raised b k (e ∷ es) =
    ap (λ r. cond (is_eq r) (Some e.1) (value_at (b + k) (raised b es))) (cmp_raised b k e.0)
    ∙ ap (λ t. cond (is_eq (nat_cmp k e.0)) (Some e.1) t) (value-raised b k es)

-- ---- a key set

pub with_below : {V : Type 0} (k a b : ℕ) (v : V) (es : List (ℕ × V)) → Rises a b es → k < a → with_key es k v ≡ (k, v) ∷ es
with_below k a b v [] h l = refl
with_below k a b v (e ∷ es) h l =
    let first = h.0 in
    ap (λ r. match_ordering r ((k, v) ∷ e ∷ es) ((e.0, v) ∷ es) (e ∷ with_key es k v)) (cmp_less k e.0 (omega arith))

put_at : {V : Type 0} (r : Ordering) (k : ℕ) (v : V) (e : ℕ × V) (xs ys zs ws : List (ℕ × V)) → ws ≡ zs ++ ys
    → match_ordering r ((k, v) ∷ e ∷ (xs ++ ys)) ((e.0, v) ∷ (xs ++ ys)) (e ∷ ws) ≡ match_ordering r ((k, v) ∷ e ∷ xs) ((e.0, v) ∷ xs) (e ∷ zs) ++ ys
put_at Less k v e xs ys zs ws h = refl
put_at Equal k v e xs ys zs ws h = refl
put_at Greater k v e xs ys zs ws h = ap (λ t. e ∷ t) h

with-append_left : {V : Type 0} (k b c : ℕ) (v : V) (xs ys : List (ℕ × V)) → Rises b c ys → k < b → with_key (xs ++ ys) k v ≡ with_key xs k v ++ ys
with-append_left k b c v [] ys h l = with_below k b c v ys h l
with-append_left k b c v (e ∷ xs) ys h l = put_at (nat_cmp k e.0) k v e xs ys (with_key xs k v) (with_key (xs ++ ys) k v) (with-append_left k b c v xs ys h l)

with-append_right : {V : Type 0} (k a b : ℕ) (v : V) (xs ys : List (ℕ × V)) → Rises a b xs → b ≤ k → with_key (xs ++ ys) k v ≡ xs ++ with_key ys k v
with-append_right k a b v [] ys h l = refl
with-append_right k a b v (e ∷ xs) ys h l =
    let n = rises_order (e.0 + 1) b xs h.1 in
    ap (λ r. match_ordering r ((k, v) ∷ e ∷ (xs ++ ys)) ((e.0, v) ∷ (xs ++ ys)) (e ∷ with_key (xs ++ ys) k v)) (cmp_greater k e.0 (omega arith))
    ∙ ap (λ t. e ∷ t) (with-append_right k (e.0 + 1) b v xs ys h.1 l)

put_raised : {V : Type 0} (r : Ordering) (b k : ℕ) (v : V) (e : ℕ × V) (es zs : List (ℕ × V)) (ws : List (ℕ × V))
    → ws ≡ raised b zs
    → match_ordering r ((b + k, v) ∷ (b + e.0, e.1) ∷ raised b es) ((b + e.0, v) ∷ raised b es) ((b + e.0, e.1) ∷ ws) ≡ raised b (match_ordering r ((k, v) ∷ e ∷ es) ((e.0, v) ∷ es) (e ∷ zs))
unfolding raised
put_raised Less b k v e es zs ws h = refl
put_raised Equal b k v e es zs ws h = refl
put_raised Greater b k v e es zs ws h = ap (λ t. (b + e.0, e.1) ∷ t) h

with-raised : {V : Type 0} (b k : ℕ) (v : V) (es : List (ℕ × V)) → with_key (raised b es) (b + k) v ≡ raised b (with_key es k v)
unfolding raised
with-raised b k v [] = refl
with-raised b k v (e ∷ es) =
    ap (λ r. match_ordering r ((b + k, v) ∷ (b + e.0, e.1) ∷ raised b es) ((b + e.0, v) ∷ raised b es) ((b + e.0, e.1) ∷ with_key (raised b es) (b + k) v)) (cmp_raised b k e.0)
    ∙ put_raised (nat_cmp k e.0) b k v e es (with_key es k v) (with_key (raised b es) (b + k) v) (with-raised b k v es)

-- ---- a key removed

pub without_below : {V : Type 0} (k a b : ℕ) (es : List (ℕ × V)) → Rises a b es → k < a → without_key es k ≡ es
without_below k a b [] h l = refl
without_below k a b (e ∷ es) h l =
    let first = h.0 in
    ap (λ r. cond (is_eq r) es (e ∷ without_key es k)) (cmp_less k e.0 (omega arith))
    ∙ ap (λ t. e ∷ t) (without_below k (e.0 + 1) b es h.1 (omega arith))

cond-append : {V : Type 0} (t : Bool) (e : ℕ × V) (xs ys zs ws : List (ℕ × V)) → ws ≡ zs ++ ys → cond t (xs ++ ys) (e ∷ ws) ≡ cond t xs (e ∷ zs) ++ ys
cond-append true e xs ys zs ws h = refl
cond-append false e xs ys zs ws h = ap (λ t. e ∷ t) h

without-append_left : {V : Type 0} (k b c : ℕ) (xs ys : List (ℕ × V)) → Rises b c ys → k < b → without_key (xs ++ ys) k ≡ without_key xs k ++ ys
without-append_left k b c [] ys h l = without_below k b c ys h l
without-append_left k b c (e ∷ xs) ys h l = cond-append (is_eq (nat_cmp k e.0)) e xs ys (without_key xs k) (without_key (xs ++ ys) k) (without-append_left k b c xs ys h l)

without-append_right : {V : Type 0} (k a b : ℕ) (xs ys : List (ℕ × V)) → Rises a b xs → b ≤ k → without_key (xs ++ ys) k ≡ xs ++ without_key ys k
without-append_right k a b [] ys h l = refl
without-append_right k a b (e ∷ xs) ys h l =
    let n = rises_order (e.0 + 1) b xs h.1 in
    ap (λ r. cond (is_eq r) (xs ++ ys) (e ∷ without_key (xs ++ ys) k)) (cmp_greater k e.0 (omega arith))
    ∙ ap (λ t. e ∷ t) (without-append_right k (e.0 + 1) b xs ys h.1 l)

cond-raised : {V : Type 0} (t : Bool) (b : ℕ) (e : ℕ × V) (es zs ws : List (ℕ × V)) → ws ≡ raised b zs
    → cond t (raised b es) ((b + e.0, e.1) ∷ ws) ≡ raised b (cond t es (e ∷ zs))
unfolding raised
cond-raised true b e es zs ws h = refl
cond-raised false b e es zs ws h = ap (λ t. (b + e.0, e.1) ∷ t) h

without-raised : {V : Type 0} (b k : ℕ) (es : List (ℕ × V)) → without_key (raised b es) (b + k) ≡ raised b (without_key es k)
unfolding raised
without-raised b k [] = refl
without-raised b k (e ∷ es) =
    ap (λ r. cond (is_eq r) (raised b es) ((b + e.0, e.1) ∷ without_key (raised b es) (b + k))) (cmp_raised b k e.0)
    ∙ cond-raised (is_eq (nat_cmp k e.0)) b e es (without_key es k) (without_key (raised b es) (b + k)) (without-raised b k es)

-- ---- either edit

pub edited-append_left : {V : Type 0} (k b c : ℕ) (o : Option V) (xs ys : List (ℕ × V)) → Rises b c ys → k < b
    → edited (xs ++ ys) k o ≡ edited xs k o ++ ys
edited-append_left k b c None xs ys h l = without-append_left k b c xs ys h l
edited-append_left k b c (Some v) xs ys h l = with-append_left k b c v xs ys h l

pub edited-append_right : {V : Type 0} (k a b : ℕ) (o : Option V) (xs ys : List (ℕ × V)) → Rises a b xs → b ≤ k
    → edited (xs ++ ys) k o ≡ xs ++ edited ys k o
edited-append_right k a b None xs ys h l = without-append_right k a b xs ys h l
edited-append_right k a b (Some v) xs ys h l = with-append_right k a b v xs ys h l

pub edited-raised : {V : Type 0} (b k : ℕ) (o : Option V) (es : List (ℕ × V)) → edited (raised b es) (b + k) o ≡ raised b (edited es k o)
edited-raised b k None es = without-raised b k es
edited-raised b k (Some v) es = with-raised b k v es
