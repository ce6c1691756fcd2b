-- A key among maps in a row is looked up and changed in its own map, and so are many keys of one slot one after another.
use Rattle.std.proofs.Common.{◌≡◌, ℕ, suc, zero, ◌+◌, ◌*◌, ◌^◌, ◌/◌, ◌%◌, ◌<◌, ◌≤◌, List, [], ◌∷◌, ◌++◌, length, take, set, map, get_or, replicate, option_map, cond, nat_cmp, is_eq, Option, Some, None, Bool, true, false, refl, sym, ap, ◌∙◌, subst, arith, length-take, length-append, is_some, ◌&&◌, not, Bor, option_copied}
use Rattle.std.proofs.Math.Nat.{mod-lt, mod-one, div-one}
use Rattle.std.proofs.lemmas.List.{length-map}
use Rattle.std.specs.Arc.{arc_value}
use Rattle.std.specs.declared.sync.Arc.{Arc}
use Rattle.std.specs.declared.cmp.Ordering.{Ordering}
use Rattle.std.specs.declared.cmp.Ordering.TheVariants.{Less, Equal, Greater}
use Rattle.std.specs.Ordering.{MatchOrdering, match_ordering}
use Rattle.std.specs.Cmp.{ranks}
use lib.Arith.{mod-mul}
use Rattle.radix_map.specs.Slots.{item_at}
use Rattle.radix_map.specs.Entries.{value_at, with_key, without_key, edited, edited_within, Rises, raised, part, joined, entries_of, single, InSlot, KeysFit, Counts, keys_end}
use Rattle.radix_map.specs.Rising.{rises_lower, rises-first, rises-joined, rises-single, parts_rise, AllRise, fits_16, pow_16}
use Rattle.radix_map.proofs.Digits.{pow_pos}
use Rattle.radix_map.proofs.Keys.{value-append_left, value-append_right, value-raised, edited-append_left, edited-append_right, edited-raised}

joined_value : {V : Type 0} (step base : ℕ) (ess : List (List (ℕ × V))) (i k : ℕ) → AllRise step ess → k < step
    → value_at (base + (i * step + k)) (joined step base ess) ≡ value_at k (get_or ess i [])
unfolding joined
joined_value step base [] i k h l = refl
joined_value step base (es ∷ ess) zero k h l =
    let e : base + (0 * step + k) ≡ base + k = omega arith in
    let rest = joined step (base + step) ess in
    ap (λ n. value_at n (raised base es ++ rest)) e
    ∙ value-append_left (base + k) (base + step) (base + step + length ess * step) (raised base es) rest (rises-joined step (base + step) ess h.1) (omega arith)
    ∙ value-raised base k es
joined_value step base (es ∷ ess) (suc i) k h l =
    let e : base + (suc i * step + k) ≡ base + step + (i * step + k) = omega arith in
    let rest = joined step (base + step) ess in
    ap (λ n. value_at n (raised base es ++ rest)) e
    ∙ value-append_right (base + step + (i * step + k)) base (base + step) (raised base es) rest (rises-first step base es h.0) (omega arith)
    ∙ joined_value step (base + step) ess i k h.1 l

joined_edited : {V : Type 0} (step base : ℕ) (ess : List (List (ℕ × V))) (i k : ℕ) (o : Option V) → AllRise step ess
    → i < length ess → k < step
    → joined step base (set ess i (edited (get_or ess i []) k o)) ≡ edited (joined step base ess) (base + (i * step + k)) o
unfolding joined
joined_edited step base [] i k o h n l = absurd (omega arith)
joined_edited step base (es ∷ ess) zero k o h n l =
    let at : base + k ≡ base + (0 * step + k) = omega arith in
    let rest = joined step (base + step) ess in
    ap (λ t. t ++ rest) (sym (edited-raised base k o es))
    ∙ sym (edited-append_left (base + k) (base + step) (base + step + length ess * step) o (raised base es) rest (rises-joined step (base + step) ess h.1) (omega arith))
    ∙ ap (λ j. edited (raised base es ++ rest) j o) at
joined_edited step base (es ∷ ess) (suc i) k o h n l =
    let at : base + step + (i * step + k) ≡ base + (suc i * step + k) = omega arith in
    let rest = joined step (base + step) ess in
    ap (λ t. raised base es ++ t) (joined_edited step (base + step) ess i k o h.1 (omega arith) l)
    ∙ sym (edited-append_right (base + step + (i * step + k)) base (base + step) o (raised base es) rest (rises-first step base es h.0) (omega arith))
    ∙ ap (λ j. edited (raised base es ++ rest) j o) at

-- ---- an edit keeps the keys rising

put_rises : {V : Type 0} (r : Ordering) (a b k : ℕ) (v : V) (e : ℕ × V) (es zs : List (ℕ × V)) → a ≤ k → k < b
    → Rises a b (e ∷ es) → MatchOrdering r (k < e.0) (k ≡ e.0) (e.0 < k) → (e.0 < k → Rises (e.0 + 1) b zs)
    → Rises a b (match_ordering r ((k, v) ∷ e ∷ es) ((e.0, v) ∷ es) (e ∷ zs))
put_rises Less a b k v e es zs l n h m z = (l, (omega arith, h.1))
put_rises Equal a b k v e es zs l n h m z = h
put_rises Greater a b k v e es zs l n h m z = (h.0, z m)

with_rises : {V : Type 0} (a b k : ℕ) (v : V) (es : List (ℕ × V)) → a ≤ k → k < b → Rises a b es → Rises a b (with_key es k v)
with_rises a b k v [] l n h = (l, omega arith)
with_rises a b k v (e ∷ es) l n h = put_rises (nat_cmp k e.0) a b k v e es (with_key es k v) l n h (ranks k e.0) (λ m. with_rises (e.0 + 1) b k v es (omega arith) n h.1)

cond_rises : {V : Type 0} (t : Bool) (a b : ℕ) (e : ℕ × V) (es zs : List (ℕ × V)) → Rises a b (e ∷ es)
    → Rises (e.0 + 1) b zs → Rises a b (cond t es (e ∷ zs))
cond_rises true a b e es zs h z = let l = h.0 in rises_lower a (e.0 + 1) b es (omega arith) h.1
cond_rises false a b e es zs h z = (h.0, z)

without_rises : {V : Type 0} (a b k : ℕ) (es : List (ℕ × V)) → Rises a b es → Rises a b (without_key es k)
without_rises a b k [] h = h
without_rises a b k (e ∷ es) h = cond_rises (is_eq (nat_cmp k e.0)) a b e es (without_key es k) h (without_rises (e.0 + 1) b k es h.1)

pub edited_rises : {V : Type 0} (a b k : ℕ) (o : Option V) (es : List (ℕ × V)) → a ≤ k → k < b → Rises a b es → Rises a b (edited es k o)
edited_rises a b k None es l n h = without_rises a b k es h
edited_rises a b k (Some v) es l n h = with_rises a b k v es l n h

-- ---- many edits in one slot

all_rise-set : {V : Type 0} (step : ℕ) (ess : List (List (ℕ × V))) (i : ℕ) (es : List (ℕ × V)) → AllRise step ess
    → Rises 0 step es → AllRise step (set ess i es)
all_rise-set step [] i es h r = h
all_rise-set step (x ∷ ess) zero es h r = (r, h.1)
all_rise-set step (x ∷ ess) (suc i) es h r = (h.0, all_rise-set step ess i es h.1 r)

rise_at : {V : Type 0} (step : ℕ) (ess : List (List (ℕ × V))) (i : ℕ) → AllRise step ess → Rises 0 step (get_or ess i [])
rise_at step [] i h = omega arith
rise_at step (x ∷ ess) zero h = h.0
rise_at step (x ∷ ess) (suc i) h = rise_at step ess i h.1

pub set-own : {X : Type 0} (xs : List (List X)) (i : ℕ) → set xs i (get_or xs i []) ≡ xs
set-own [] i = refl
set-own (x ∷ xs) zero = refl
set-own (x ∷ xs) (suc i) = ap (λ t. x ∷ t) (set-own xs i)

set-twice : {X : Type 0} (xs : List X) (i : ℕ) (a b : X) → set (set xs i a) i b ≡ set xs i b
set-twice [] i a b = refl
set-twice (x ∷ xs) zero a b = refl
set-twice (x ∷ xs) (suc i) a b = ap (λ t. x ∷ t) (set-twice xs i a b)

get-set : {X : Type 0} (xs : List X) (i : ℕ) (a d : X) → i < length xs → get_or (set xs i a) i d ≡ a
get-set [] i a d h = absurd (omega arith)
get-set (x ∷ xs) zero a d h = refl
get-set (x ∷ xs) (suc i) a d h = get-set xs i a d (omega arith)

set-size : {X : Type 0} (xs : List X) (i : ℕ) (a : X) → length (set xs i a) ≡ length xs
set-size [] i a = refl
set-size (x ∷ xs) zero a = refl
set-size (x ∷ xs) (suc i) a = ap suc (set-size xs i a)

pub key_in_slot : (step k i : ℕ) → 0 < step → k / step % 16 ≡ i → k % (16 * step) ≡ 0 + (i * step + k % step)
key_in_slot step k i p e = mod-mul k (omega arith) p ∙ ap (λ j. j * step + k % step) e ∙ omega arith

joined_run : {V Z : Type 0} (step : ℕ) (ess : List (List (ℕ × V))) (i : ℕ) (edits : List (ℕ × Option (Arc V Z)))
    → 0 < step → AllRise step ess → i < length ess → InSlot step i edits
    → joined step 0 (set ess i (edited_within step (get_or ess i []) edits)) ≡ edited_within (16 * step) (joined step 0 ess) edits
unfolding edited_within
joined_run step ess i [] p h n r = ap (joined step 0) (set-own ess i)
joined_run step ess i (e ∷ edits) p h n r =
    let k = e.0 % step in
    let o = option_map arc_value e.1 in
    let es = get_or ess i [] in
    let next = set ess i (edited es k o) in
    let lt = mod-lt e.0 p in
    let rises = all_rise-set step ess i (edited es k o) h (edited_rises 0 step k o es (omega arith) lt (rise_at step ess i h)) in
    let size = set-size ess i (edited es k o) in
    let one = joined_edited step 0 ess i k o h n lt ∙ ap (λ j. edited (joined step 0 ess) j o) (sym (key_in_slot step e.0 i p r.0)) in
    ap (joined step 0) (sym (set-twice ess i (edited es k o) (edited_within step (edited es k o) edits)))
    ∙ ap (λ t. joined step 0 (set next i (edited_within step t edits))) (sym (get-set ess i (edited es k o) [] n))
    ∙ joined_run step next i edits p rises (omega arith) r.1 ∙ ap (λ t. edited_within (16 * step) t edits) one

-- ---- the same over slots

pub map-set : {X Y : Type 0} (f : X → Y) (xs : List X) (i : ℕ) (a : X) → map f (set xs i a) ≡ set (map f xs) i (f a)
map-set f [] i a = refl
map-set f (x ∷ xs) zero a = refl
map-set f (x ∷ xs) (suc i) a = ap (λ t. f x ∷ t) (map-set f xs i a)

pub take-set : {T : Type 0} (n i : ℕ) (xs : List T) (w : T) → take n (set xs i w) ≡ set (take n xs) i w
take-set zero i xs w = refl
take-set (suc n) i [] w = refl
take-set (suc n) zero (x ∷ xs) w = refl
take-set (suc n) (suc i) (x ∷ xs) w = ap (λ t. x ∷ t) (take-set n i xs w)

pub part_at : {T V : Type 0} (f : T → List (ℕ × V)) (n : ℕ) (xs : List (Option T)) (i : ℕ) → i < n
    → get_or (map (part f) (take n xs)) i [] ≡ part f (item_at xs i)
part_at f zero xs i h = absurd (omega arith)
part_at f (suc n) [] i h = refl
part_at f (suc n) (x ∷ xs) zero h = refl
part_at f (suc n) (x ∷ xs) (suc i) h = part_at f n xs i (omega arith)

pub of_value : {T V : Type 0} (f : T → List (ℕ × V)) (step : ℕ) → ((x : T) → Rises 0 step (f x)) → 0 < step
    → (xs : List (Option T)) (key : ℕ)
    → value_at (key % (16 * step)) (entries_of f step xs) ≡ value_at (key % step) (part f (item_at xs (key / step % 16)))
unfolding entries_of
of_value f step h p xs key =
    let i = key / step % 16 in
    let ess = map (part f) (take 16 xs) in
    ap (λ n. value_at n (joined step 0 ess)) (key_in_slot step key i p refl)
    ∙ joined_value step 0 ess i (key % step) (parts_rise f step h (take 16 xs)) (mod-lt key p)
    ∙ ap (value_at (key % step)) (part_at f 16 xs i (mod-lt (key / step) (omega arith)))

pub of_edited : {T V Z : Type 0} (f : T → List (ℕ × V)) (step : ℕ) → ((x : T) → Rises 0 step (f x)) → 0 < step
    → (xs : List (Option T)) (i : ℕ) (edits : List (ℕ × Option (Arc V Z))) (w : Option T) → i < 16 → length xs ≡ 16
    → InSlot step i edits → part f w ≡ edited_within step (part f (item_at xs i)) edits
    → entries_of f step (set xs i w) ≡ edited_within (16 * step) (entries_of f step xs) edits
unfolding entries_of
of_edited f step h p xs i edits w l n r e =
    let ess = map (part f) (take 16 xs) in
    let m = length-map (take 16 xs) (part f) in
    let t = length-take 16 xs in
    ap (λ ys. joined step 0 (map (part f) ys)) (take-set 16 i xs w)
    ∙ ap (joined step 0) (map-set (part f) (take 16 xs) i w)
    ∙ ap (λ es. joined step 0 (set ess i es)) (e ∙ ap (λ es. edited_within step es edits) (sym (part_at f 16 xs i l)))
    ∙ joined_run step ess i edits p (parts_rise f step h (take 16 xs)) (omega arith) r

pub of_none : {T V : Type 0} (f : T → List (ℕ × V)) (step : ℕ) → entries_of f step (replicate 16 None) ≡ []
unfolding entries_of joined raised
of_none f step = refl

-- ---- how many entries there are

length-raised : {V : Type 0} (b : ℕ) (es : List (ℕ × V)) → length (raised b es) ≡ length es
unfolding raised
length-raised b [] = refl
length-raised b (e ∷ es) = ap suc (length-raised b es)

joined_size : {V : Type 0} (step base : ℕ) (ess : List (List (ℕ × V))) (i : ℕ) (es : List (ℕ × V)) → i < length ess
    → length (joined step base (set ess i es)) + length (get_or ess i []) ≡ length (joined step base ess) + length es
unfolding joined
joined_size step base [] i es n = absurd (omega arith)
joined_size step base (x ∷ ess) zero es n =
    let rest = joined step (base + step) ess in
    let a = length-append (raised base es) rest in
    let b = length-append (raised base x) rest in
    let c = length-raised base es in
    let d = length-raised base x in
    omega arith
joined_size step base (x ∷ ess) (suc i) es n =
    let rest = joined step (base + step) ess in
    let a = length-append (raised base x) rest in
    let b = length-append (raised base x) (joined step (base + step) (set ess i es)) in
    let e = joined_size step (base + step) ess i es (omega arith) in
    omega arith

pub of_size : {T V : Type 0} (f : T → List (ℕ × V)) (step : ℕ) (xs : List (Option T)) (i : ℕ) (w : Option T) → i < 16
    → length xs ≡ 16
    → length (entries_of f step (set xs i w)) + length (part f (item_at xs i)) ≡ length (entries_of f step xs) + length (part f w)
unfolding entries_of
of_size f step xs i w l n =
    let ess = map (part f) (take 16 xs) in
    let m = length-map (take 16 xs) (part f) in
    let t = length-take 16 xs in
    let e : joined step 0 (map (part f) (take 16 (set xs i w))) ≡ joined step 0 (set ess i (part f w)) =
    ap (λ ys. joined step 0 (map (part f) ys)) (take-set 16 i xs w) ∙ ap (joined step 0) (map-set (part f) (take 16 xs) i w) in
    ap (λ es. length es + length (part f (item_at xs i))) e
    ∙ ap (λ es. length (joined step 0 (set ess i (part f w))) + length es) (sym (part_at f 16 xs i l))
    ∙ joined_size step 0 ess i (part f w) (omega arith)

-- ---- a leaf: each slot has one key

single_value : {V : Type 0} (o : Option V) → value_at 0 (part single o) ≡ o
single_value None = refl
single_value (Some v) = refl

pub leaf_value : {V : Type 0} (xs : List (Option V)) (key : ℕ) → value_at (key % 16) (entries_of single 1 xs) ≡ item_at xs (key % 16)
leaf_value xs key =
    of_value single 1 rises-single (omega arith) xs key
    ∙ ap (λ k. value_at k (part single (item_at xs (key / 1 % 16)))) (mod-one key)
    ∙ single_value (item_at xs (key / 1 % 16)) ∙ ap (λ k. item_at xs (k % 16)) (div-one key)

own_edited : {V : Type 0} (o w : Option V) → part single w ≡ edited (part single o) 0 w
own_edited None None = refl
own_edited None (Some v) = refl
own_edited (Some u) None = refl
own_edited (Some u) (Some v) = refl

pub leaf_edited : {V Z : Type 0} (xs : List (Option V)) (key : ℕ) (a : Option (Arc V Z)) → length xs ≡ 16
    → entries_of single 1 (set xs (key % 16) (option_map arc_value a)) ≡ edited (entries_of single 1 xs) (key % 16) (option_map arc_value a)
unfolding edited_within
leaf_edited xs key a n =
    let i = key % 16 in
    let here : key / 1 % 16 ≡ i = ap (λ k. k % 16) (div-one key) in
    of_edited single 1 rises-single (omega arith) xs i ((key, a) ∷ []) (option_map arc_value a) (mod-lt key (omega arith)) n (here, tt) (own_edited (item_at xs i) (option_map arc_value a) ∙ ap (λ k. edited (part single (item_at xs i)) k (option_map arc_value a)) (sym (mod-one key)))

-- 1 where b, and 0 otherwise
abbrev pub one_if : Bool → ℕ
one_if b = cond b 1 0

leaf_counts : {V : Type 0} (n m : ℕ) (o w : Option V) → m + length (part single o) ≡ n + length (part single w)
    → Counts n m (one_if (is_some w && not (is_some o))) (one_if (is_some o && not (is_some w)))
leaf_counts n m None None h = omega arith
leaf_counts n m None (Some v) h = omega arith
leaf_counts n m (Some u) None h = omega arith
leaf_counts n m (Some u) (Some v) h = omega arith

pub leaf_counted : {V : Type 0} (xs : List (Option V)) (i : ℕ) (w : Option V) → i < 16 → length xs ≡ 16
    → Counts (length (entries_of single 1 xs)) (length (entries_of single 1 (set xs i w))) (one_if (is_some w && not (is_some (item_at xs i)))) (one_if (is_some (item_at xs i) && not (is_some w)))
leaf_counted xs i w l n = leaf_counts (length (entries_of single 1 xs)) (length (entries_of single 1 (set xs i w))) (item_at xs i) w (of_size single 1 xs i w l n)

pub leaf_tally : {V : Type 0} (xs : List (Option V)) (i : ℕ) (w : Option V) (t s : Bool) → i < 16 → length xs ≡ 16
    → is_some (item_at xs i) ≡ t → is_some w ≡ s
    → Counts (length (entries_of single 1 xs)) (length (entries_of single 1 (set xs i w))) (one_if (s && not t)) (one_if (t && not s))
leaf_tally xs i w t s l n e k =
    subst (λ b. Counts (length (entries_of single 1 xs)) (length (entries_of single 1 (set xs i w))) (one_if (s && not b)) (one_if (b && not s))) e (subst (λ b. Counts (length (entries_of single 1 xs)) (length (entries_of single 1 (set xs i w))) (one_if (b && not (is_some (item_at xs i)))) (one_if (is_some (item_at xs i) && not b))) k (leaf_counted xs i w l n))

pub mapped_variant : {A B : Type 0} (f : A → B) (o : Option A) → is_some (option_map f o) ≡ is_some o
mapped_variant f None = refl
mapped_variant f (Some x) = refl

pub copied_variant : {T : Type 0} (o : Option (Bor T)) → is_some (option_copied o) ≡ is_some o
copied_variant None = refl
copied_variant (Some x) = refl

-- ---- a node, whose children slot a key by the bits below s

pub node_value : {T V : Type 0} (f : T → List (ℕ × V)) (s : ℕ) → ((x : T) → Rises 0 (16 * 2 ^ s) (f x))
    → (xs : List (Option T)) (key shift at : ℕ) (o : Option T) → shift ≡ s + 4 → at ≡ key / 2 ^ shift % 16
    → o ≡ item_at xs at
    → value_at (key % (16 * 2 ^ (s + 4))) (entries_of f (2 ^ (s + 4)) xs) ≡ value_at (key % (16 * 2 ^ s)) (part f o)
node_value f s h xs key shift at o e i p =
    of_value f (2 ^ (s + 4)) (fits_16 f s h) (pow_pos (s + 4)) xs key
    ∙ ap (λ j. value_at (key % 2 ^ (s + 4)) (part f (item_at xs j))) (sym (i ∙ ap (λ t. key / 2 ^ t % 16) e))
    ∙ ap (λ t. value_at (key % 2 ^ (s + 4)) (part f t)) (sym p) ∙ ap (λ n. value_at (key % n) (part f o)) (pow_16 s)

pub node_edited : {T V Z : Type 0} (f : T → List (ℕ × V)) (s : ℕ) → ((x : T) → Rises 0 (16 * 2 ^ s) (f x))
    → (xs : List (Option T)) (shift at : ℕ) (o w : Option T) (run : List (ℕ × Option (Arc V Z))) → shift ≡ s + 4
    → at < 16 → length xs ≡ 16 → InSlot (2 ^ shift) at run → o ≡ item_at xs at
    → part f w ≡ edited_within (16 * 2 ^ s) (part f o) run
    → entries_of f (2 ^ (s + 4)) (set xs at w) ≡ edited_within (16 * 2 ^ (s + 4)) (entries_of f (2 ^ (s + 4)) xs) run
node_edited f s h xs shift at o w run e l n r p k =
    of_edited f (2 ^ (s + 4)) (fits_16 f s h) (pow_pos (s + 4)) xs at run w l n (subst (λ t. InSlot (2 ^ t) at run) e r) (k ∙ ap (λ m. edited_within m (part f o) run) (sym (pow_16 s)) ∙ ap (λ t. edited_within (2 ^ (s + 4)) (part f t) run) p)

node_counts : (n m a b added removed : ℕ) → m + a ≡ n + b → Counts a b added removed → Counts n m added removed
node_counts n m a b added removed h k = omega arith

pub node_counted : {T V : Type 0} (f : T → List (ℕ × V)) (step : ℕ) (xs : List (Option T)) (at : ℕ) (o w : Option T) (es : List (ℕ × V)) (added removed : ℕ)
    → at < 16 → length xs ≡ 16 → o ≡ item_at xs at → part f w ≡ es
    → Counts (length (part f o)) (length es) added removed
    → Counts (length (entries_of f step xs)) (length (entries_of f step (set xs at w))) added removed
node_counted f step xs at o w es added removed l n p k c =
    node_counts (length (entries_of f step xs)) (length (entries_of f step (set xs at w))) (length (part f (item_at xs at))) (length (part f w)) added removed (of_size f step xs at w l n) (subst (λ t. Counts (length (part f t)) (length (part f w)) added removed) p (subst (λ t. Counts (length (part f o)) (length t) added removed) (sym k) c))

-- ---- edits one after another

pub in_slot_more : {V Z : Type 0} (step i : ℕ) (xs : List (ℕ × Option (Arc V Z))) (n : ℕ) (d : ℕ × Option (Arc V Z))
    → n < length xs → InSlot step i (take n xs) → (get_or xs n d).0 / step % 16 ≡ i → InSlot step i (take (suc n) xs)
in_slot_more step i [] n d l h e = absurd (omega arith)
in_slot_more step i (x ∷ xs) zero d l h e = (e, tt)
in_slot_more step i (x ∷ xs) (suc n) d l h e = (h.0, in_slot_more step i xs n d (omega arith) h.1 e)

pub within-append : {V Z : Type 0} (w : ℕ) (es : List (ℕ × V)) (xs ys : List (ℕ × Option (Arc V Z)))
    → edited_within w es (xs ++ ys) ≡ edited_within w (edited_within w es xs) ys
unfolding edited_within
within-append w es [] ys = refl
within-append w es (x ∷ xs) ys = within-append w (edited es (x.0 % w) (option_map arc_value x.1)) xs ys

pub fit_more : {V Z : Type 0} (xs : List (ℕ × Option (Arc V Z))) (n : ℕ) (d : ℕ × Option (Arc V Z)) → n < length xs
    → KeysFit (take n xs) → (get_or xs n d).0 < keys_end → KeysFit (take (suc n) xs)
fit_more [] n d l h e = absurd (omega arith)
fit_more (x ∷ xs) zero d l h e = (e, tt)
fit_more (x ∷ xs) (suc n) d l h e = (h.0, fit_more xs n d (omega arith) h.1 e)

pub fit-append : {V Z : Type 0} (xs ys : List (ℕ × Option (Arc V Z))) → KeysFit xs → KeysFit ys → KeysFit (xs ++ ys)
fit-append [] ys h k = k
fit-append (x ∷ xs) ys h k = (h.0, fit-append xs ys h.1 k)
