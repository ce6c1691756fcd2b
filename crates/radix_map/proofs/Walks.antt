-- The entries of the slots from one on: none where all are free, and else those of the first item and
-- those behind it; and those from a key on.
use Rattle.std.proofs.Common.{◌≡◌, ℕ, suc, zero, ◌+◌, ◌*◌, ◌/◌, ◌%◌, ◌^◌, ◌-◌, ◌<◌, ◌≤◌, List, [], ◌∷◌, ◌++◌, length, take, drop, map, get_or, Bor, option_copied, Option, Some, None, refl, sym, ap, ◌∙◌, arith, length-take, length-drop}
use Rattle.std.proofs.Math.Nat.{add-mul, mul-le-mul_right, mod-lt, mod-one, div-one}
use Rattle.std.proofs.lemmas.List.{drop-map}
use Rattle.radix_map.specs.Rising.{pow_16, fits_16, rises-single, parts_rise}
use Rattle.radix_map.specs.Slots.{item_at, IsNext}
use Rattle.radix_map.specs.Entries.{raised, part, joined, entries_of, entries_behind, entries_from, single, Rises}
use Rattle.radix_map.proofs.Cuts.{from_joined, from_zero}
use Rattle.radix_map.proofs.Digits.{pow_pos}
use Rattle.radix_map.proofs.Trees.{key_in_slot, part_at}

none_joined : {T V : Type 0} (f : T → List (ℕ × V)) (step b : ℕ) (ys : List (Option T))
    → ((i : ℕ) → i < length ys → item_at ys i ≡ None) → joined step b (map (part f) ys) ≡ []
unfolding joined raised
none_joined f step b [] h = refl
none_joined f step b (None ∷ ys) h = none_joined f step (b + step) ys (λ i l. h (suc i) (omega arith))
none_joined f step b (Some x ∷ ys) h = let e = h zero (omega arith) in cc

next_joined : {T V : Type 0} (f : T → List (ℕ × V)) (step b m : ℕ) (x : T) (ys : List (Option T)) → m < length ys
    → ((i : ℕ) → i < m → item_at ys i ≡ None) → item_at ys m ≡ Some x
    → joined step b (map (part f) ys) ≡ raised (b + m * step) (f x) ++ joined step (b + suc m * step) (map (part f) (drop (suc m) ys))
unfolding joined raised
next_joined f step b m x [] l h e = absurd (omega arith)
next_joined f step b zero x (o ∷ ys) l h e =
    let at : b ≡ b + 0 * step = omega arith in
    let next : b + step ≡ b + 1 * step = omega arith in
    ap (λ t. raised b (part f t) ++ joined step (b + step) (map (part f) ys)) e
    ∙ ap (λ n. raised n (f x) ++ joined step (b + step) (map (part f) ys)) at
    ∙ ap (λ n. raised (b + 0 * step) (f x) ++ joined step n (map (part f) ys)) next
next_joined f step b (suc m) x (o ∷ ys) l h e =
    let first = h zero (omega arith) in
    let at : b + step + m * step ≡ b + suc m * step = omega arith in
    let next : b + step + suc m * step ≡ b + suc (suc m) * step = omega arith in
    ap (λ t. raised b (part f t) ++ joined step (b + step) (map (part f) ys)) first
    ∙ next_joined f step (b + step) m x ys (omega arith) (λ i k. h (suc i) (omega arith)) e
    ∙ ap (λ n. raised n (f x) ++ joined step (b + step + suc m * step) (map (part f) (drop (suc m) ys))) at
    ∙ ap (λ n. raised (b + suc m * step) (f x) ++ joined step n (map (part f) (drop (suc m) ys))) next

item_behind : {T : Type 0} (n at i : ℕ) (xs : List (Option T)) → at + i < n → item_at (drop at (take n xs)) i ≡ item_at xs (at + i)
item_behind zero at i xs h = absurd (omega arith)
item_behind (suc n) zero i [] h = refl
item_behind (suc n) zero zero (x ∷ xs) h = refl
item_behind (suc n) zero (suc i) (x ∷ xs) h = item_behind n zero i xs (omega arith) ∙ ap (λ k. item_at (x ∷ xs) k) e
  where
    e : suc (zero + i) ≡ zero + suc i
    e = omega arith
item_behind (suc n) (suc at) i [] h = refl
item_behind (suc n) (suc at) i (x ∷ xs) h =
    let e : suc (at + i) ≡ suc at + i = omega arith in
    item_behind n at i xs (omega arith) ∙ ap (λ k. item_at (x ∷ xs) k) e

pub behind_none : {T V : Type 0} (f : T → List (ℕ × V)) (step base at : ℕ) (xs : List (Option T))
    → ((k : ℕ) → at ≤ k → k < 16 → item_at xs k ≡ None) → entries_behind f step base at xs ≡ []
unfolding entries_behind
behind_none f step base at xs h =
    none_joined f step (base + at * step) (drop at (take 16 xs)) (λ i l. let a = length-drop at (take 16 xs) in let b = length-take 16 xs in let lt : at + i < 16 = omega arith in item_behind 16 at i xs lt ∙ h (at + i) (omega arith) lt)

drop-none : {T : Type 0} (m : ℕ) → drop {A = T} m [] ≡ []
drop-none zero = refl
drop-none (suc m) = refl

drop-more : {T : Type 0} (at m : ℕ) (xs : List T) → drop m (drop at xs) ≡ drop (at + m) xs
drop-more zero m xs = ap (λ k. drop k xs) e
  where
    e : m ≡ zero + m
    e = omega arith
drop-more (suc at) m [] = drop-none m ∙ sym (drop-none (suc at + m))
drop-more (suc at) m (x ∷ xs) = let e : suc (at + m) ≡ suc at + m = omega arith in drop-more at m xs ∙ ap (λ k. drop k (x ∷ xs)) e

steps : (base at m step : ℕ) → base + at * step + m * step ≡ base + (at + m) * step
steps base at m step = let e = add-mul at m step in omega arith

pub behind_next : {T V : Type 0} (f : T → List (ℕ × V)) (step base at n : ℕ) (x : T) (xs : List (Option T))
    → length xs ≡ 16 → IsNext xs at n x
    → entries_behind f step base at xs ≡ raised (base + n * step) (f x) ++ entries_behind f step base (n + 1) xs
unfolding entries_behind
behind_next f step base at n x xs w h =
    let m = n - at in
    let a = length-drop at (take 16 xs) in
    let b = length-take 16 xs in
    let le = h.behind in
    let lt = h.below in
    let sum : at + m ≡ n = omega arith in
    let e0 : base + at * step + m * step ≡ base + n * step = steps base at m step ∙ ap (λ k. base + k * step) sum in
    let e2 : at + suc m ≡ n + 1 = omega arith in
    let e1 : base + at * step + suc m * step ≡ base + (n + 1) * step = steps base at (suc m) step ∙ ap (λ k. base + k * step) e2 in
    next_joined f step (base + at * step) m x (drop at (take 16 xs)) (omega arith) (λ i l. item_behind 16 at i xs (omega arith) ∙ h.free (at + i) (omega arith) (omega arith)) (item_behind 16 at m xs (omega arith) ∙ ap (item_at xs) sum ∙ h.here)
    ∙ ap (λ k. raised k (f x) ++ joined step (base + at * step + suc m * step) (map (part f) (drop (suc m) (drop at (take 16 xs))))) e0
    ∙ ap (λ k. raised (base + n * step) (f x) ++ joined step k (map (part f) (drop (suc m) (drop at (take 16 xs))))) e1
    ∙ ap (λ ys. raised (base + n * step) (f x) ++ joined step (base + (n + 1) * step) (map (part f) ys)) (drop-more at (suc m) (take 16 xs) ∙ ap (λ k. drop k (take 16 xs)) e2)

raised-append : {V : Type 0} (b : ℕ) (xs ys : List (ℕ × V)) → raised b (xs ++ ys) ≡ raised b xs ++ raised b ys
unfolding raised
raised-append b [] ys = refl
raised-append b (e ∷ xs) ys = ap (λ t. (b + e.0, e.1) ∷ t) (raised-append b xs ys)

raised-twice : {V : Type 0} (b c : ℕ) (es : List (ℕ × V)) → raised b (raised c es) ≡ raised (b + c) es
unfolding raised
raised-twice b c [] = refl
raised-twice b c (e ∷ es) =
    let k : b + (c + e.0) ≡ b + c + e.0 = omega arith in
    ap (λ n. (n, e.1) ∷ raised b (raised c es)) k ∙ ap (λ t. (b + c + e.0, e.1) ∷ t) (raised-twice b c es)

raised-joined : {V : Type 0} (b step c : ℕ) (ess : List (List (ℕ × V))) → raised b (joined step c ess) ≡ joined step (b + c) ess
unfolding joined raised
raised-joined b step c [] = refl
raised-joined b step c (es ∷ ess) =
    let k : b + (c + step) ≡ b + c + step = omega arith in
    raised-append b (raised c es) (joined step (c + step) ess)
    ∙ ap (λ t. t ++ raised b (joined step (c + step) ess)) (raised-twice b c es)
    ∙ ap (λ t. raised (b + c) es ++ t) (raised-joined b step (c + step) ess ∙ ap (λ n. joined step n ess) k)

second_first : (base i step : ℕ) → base + (0 + suc i * step) ≡ base + (i + 1) * step
second_first base i step = omega arith

-- the entries of a node's slots from a key on: those that the key's slot has from it on, and those of the slots behind
pub behind_from : {T V : Type 0} (f : T → List (ℕ × V)) (step base key : ℕ) (xs : List (Option T))
    → ((x : T) → Rises 0 step (f x)) → 0 < step
    → raised (base + key / step % 16 * step) (entries_from (key % step) (part f (item_at xs (key / step % 16))))
    ++ entries_behind f step base (key / step % 16 + 1) xs
    ≡ raised base (entries_from (key % (16 * step)) (entries_of f step xs))
unfolding entries_behind entries_of
behind_from f step base key xs h p =
    let i = key / step % 16 in
    let k = key % step in
    let ess = map (part f) (take 16 xs) in
    let found = entries_from k (part f (item_at xs i)) in
    let later = map (part f) (drop (i + 1) (take 16 xs)) in
    let next : suc i ≡ i + 1 = omega arith in
    let own : base + (0 + i * step) ≡ base + i * step = omega arith in
    let behind = second_first base i step in
    sym (ap (λ n. raised base (entries_from n (joined step 0 ess))) (key_in_slot step key i p refl)
    ∙ ap (raised base) (from_joined step 0 i k ess (parts_rise f step h (take 16 xs)) (mod-lt key p))
    ∙ ap (λ es. raised base (raised (0 + i * step) (entries_from k es) ++ joined step (0 + suc i * step) (drop (suc i) ess)))
    (part_at f 16 xs i (mod-lt (key / step) (omega arith)))
    ∙ ap (λ ys. raised base (raised (0 + i * step) found ++ joined step (0 + suc i * step) ys))
    (ap (λ n. drop n ess) next ∙ drop-map (part f) (i + 1) (take 16 xs))
    ∙ raised-append base (raised (0 + i * step) found) (joined step (0 + suc i * step) later)
    ∙ ap (λ t. t ++ raised base (joined step (0 + suc i * step) later)) (raised-twice base (0 + i * step) found ∙ ap (λ n. raised n found) own)
    ∙ ap (λ t. raised (base + i * step) found ++ t) (raised-joined base step (0 + suc i * step) later ∙ ap (λ n. joined step n later) behind))

joined_at : {V : Type 0} (step b i : ℕ) (ess : List (List (ℕ × V)))
    → joined step b (drop i ess) ≡ raised b (get_or ess i []) ++ joined step (b + step) (drop (suc i) ess)
unfolding joined raised
joined_at step b zero [] = refl
joined_at step b (suc i) [] = refl
joined_at step b zero (es ∷ ess) = refl
joined_at step b (suc i) (es ∷ ess) = joined_at step b i ess

-- the same of a leaf, where the key's slot has at most the key
pub leaf_from : {V : Type 0} (base key : ℕ) (xs : List (Option V))
    → entries_behind single 1 base (key % 16) xs ≡ raised base (entries_from (key % 16) (entries_of single 1 xs))
unfolding entries_behind
leaf_from base key xs =
    let i = key / 1 % 16 in
    let ys = take 16 xs in
    let slot : i ≡ key % 16 = ap (λ k. k % 16) (div-one key) in
    let own = part single (item_at xs i) in
    let found = entries_from (key % 1) own in
    let all : found ≡ own = ap (λ k. entries_from k own) (mod-one key) ∙ from_zero own in
    let behind : base + i * 1 + 1 ≡ base + (i + 1) * 1 = omega arith in
    let next : suc i ≡ i + 1 = omega arith in
    ap (λ n. joined 1 (base + n * 1) (map (part single) (drop n ys))) (sym slot)
    ∙ ap (joined 1 (base + i * 1)) (sym (drop-map (part single) i ys)) ∙ joined_at 1 (base + i * 1) i (map (part single) ys)
    ∙ ap (λ es. raised (base + i * 1) es ++ joined 1 (base + i * 1 + 1) (drop (suc i) (map (part single) ys)))
    (part_at single 16 xs i (mod-lt (key / 1) (omega arith)) ∙ sym all)
    ∙ ap (λ n. raised (base + i * 1) found ++ joined 1 n (drop (suc i) (map (part single) ys))) behind
    ∙ ap (λ es. raised (base + i * 1) found ++ joined 1 (base + (i + 1) * 1) es)
    (ap (λ n. drop n (map (part single) ys)) next ∙ drop-map (part single) (i + 1) ys)
    ∙ behind_from single 1 base key xs rises-single (omega arith)

pub leaf_next : {V : Type 0} (base at n : ℕ) (v : V) (xs : List (Option V)) → length xs ≡ 16 → IsNext xs at n v
    → entries_behind single 1 base at xs ≡ (base + n, v) ∷ entries_behind single 1 base (n + 1) xs
unfolding raised
leaf_next base at n v xs w h =
    let e : base + n * 1 + 0 ≡ base + n = omega arith in
    behind_next single 1 base at n v xs w h ∙ ap (λ k. (k, v) ∷ entries_behind single 1 base (n + 1) xs) e

-- the keys of a child end with those of its slot
pub child_fits : (base n s m : ℕ) → n < 16 → base + 16 * 2 ^ (s + 4) ≤ m → base + n * 2 ^ (s + 4) + 16 * 2 ^ s ≤ m
child_fits base n s m l h =
    let p = pow_16 s in
    let le : suc n ≤ 16 = omega arith in
    let k = mul-le-mul_right (2 ^ (s + 4)) le in
    let e : suc n * 2 ^ (s + 4) ≡ n * 2 ^ (s + 4) + 2 ^ (s + 4) = omega arith in
    omega arith

pub raised_zero : {V : Type 0} (es : List (ℕ × V)) → raised 0 es ≡ es
unfolding raised
raised_zero [] = refl
raised_zero (e ∷ es) = let z : 0 + e.0 ≡ e.0 = omega arith in ap (λ n. (n, e.1) ∷ raised 0 es) z ∙ ap (λ t. e ∷ t) (raised_zero es)

-- what is left of the child in the key's slot, where there is one, and where there is none
pub begun_some : {T W V : Type 0} (f : T → List (ℕ × V)) (left : W → List (ℕ × V)) (base key : ℕ)
    {child : Option (Bor T)} {x : Bor T} {inner : Option W} {w : W} → child ≡ Some x → inner ≡ Some w → left w ≡ raised base (entries_from key (f x.now))
    → part left inner ≡ raised base (entries_from key (part f (option_copied child)))
begun_some f left base key c i e = ap (part left) i ∙ e ∙ sym (ap (λ o. raised base (entries_from key (part f (option_copied o)))) c)

pub begun_none : {T W V : Type 0} (f : T → List (ℕ × V)) (left : W → List (ℕ × V)) (base key : ℕ) {child : Option (Bor T)} {inner : Option W}
    → child ≡ None → inner ≡ None → part left inner ≡ raised base (entries_from key (part f (option_copied child)))
unfolding raised entries_from
begun_none f left base key c i = ap (part left) i ∙ sym (ap (λ o. raised base (entries_from key (part f (option_copied o)))) c)

-- what a walk over a node begins with: what is left of the child in the key's slot, and the slots behind
pub node_from : {T W V : Type 0} (f : T → List (ℕ × V)) (left : W → List (ℕ × V)) (s base key shift at : ℕ)
    (xs : List (Option T)) (inner : Option W) (child : Option T)
    → ((x : T) → Rises 0 (16 * 2 ^ s) (f x)) → shift ≡ s + 4 → at ≡ key / 2 ^ shift % 16 → child ≡ item_at xs at
    → part left inner ≡ raised (base + at * 2 ^ shift) (entries_from (key % (16 * 2 ^ s)) (part f child))
    → part left inner ++ entries_behind f (2 ^ (s + 4)) base (at + 1) xs
    ≡ raised base (entries_from (key % (16 * 2 ^ (s + 4))) (entries_of f (2 ^ (s + 4)) xs))
node_from f left s base key shift at xs inner child h level slot here begun =
    let step = 2 ^ (s + 4) in
    let i = key / step % 16 in
    let same : at ≡ i = slot ∙ ap (λ t. key / 2 ^ t % 16) level in
    ap (λ t. t ++ entries_behind f step base (at + 1) xs)
    (begun ∙ ap (λ t. raised (base + at * 2 ^ t) (entries_from (key % (16 * 2 ^ s)) (part f child))) level
    ∙ ap (λ t. raised (base + at * step) (entries_from (key % t) (part f child))) (sym (pow_16 s))
    ∙ ap (λ o. raised (base + at * step) (entries_from (key % step) (part f o))) here)
    ∙ ap (λ n. raised (base + n * step) (entries_from (key % step) (part f (item_at xs n))) ++ entries_behind f step base (n + 1) xs) same
    ∙ behind_from f step base key xs (fits_16 f s h) (pow_pos (s + 4))
