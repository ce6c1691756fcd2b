-- Private, proofs that members of `Level` cite. Why the entries of a leaf and of a node rise: those of a slot stay within its keys, and the slots stand in a row.
use Rattle.std.specs.Prelude.{◌≡◌, ℕ, ◌+◌, ◌*◌, ◌^◌, ◌≤◌, Option, Some, None, List, [], ◌∷◌, ◌++◌, length, map, take}
use Rattle.std.proofs.Common.{arith, subst, length-take, sym, ◌∙◌}
use Rattle.std.proofs.Math.Nat.{mul-le-mul_right, mul_comm}
use Rattle.std.proofs.lemmas.Nat.{pow-add}
use Rattle.std.proofs.lemmas.List.{length-map}
use Rattle.radix_map.specs.Entries.{Rises, raised, part, joined, entries_of, single}

pub rises_wider : {V : Type 0} (a b c : ℕ) (es : List (ℕ × V)) → Rises a b es → b ≤ c → Rises a c es
rises_wider a b c [] h k = omega arith
rises_wider a b c (e ∷ es) h k = (h.0, rises_wider (e.0 + 1) b c es h.1 k)

pub rises_lower : {V : Type 0} (a b c : ℕ) (es : List (ℕ × V)) → a ≤ b → Rises b c es → Rises a c es
rises_lower a b c [] k h = omega arith
rises_lower a b c (e ∷ es) k h = let l = h.0 in (omega arith, h.1)

pub rises-append : {V : Type 0} (a b c : ℕ) (xs ys : List (ℕ × V)) → Rises a b xs → Rises b c ys → Rises a c (xs ++ ys)
rises-append a b c [] ys h k = rises_lower a b c ys h k
rises-append a b c (e ∷ xs) ys h k = (h.0, rises-append (e.0 + 1) b c xs ys h.1 k)

pub rises-raised : {V : Type 0} (k a b : ℕ) (es : List (ℕ × V)) → Rises a b es → Rises (k + a) (k + b) (raised k es)
unfolding raised
rises-raised k a b [] h = omega arith
rises-raised k a b (e ∷ es) h =
    let l = h.0 in
    (omega arith, rises_lower (k + e.0 + 1) (k + (e.0 + 1)) (k + b) (raised k es) (omega arith) (rises-raised k (e.0 + 1) b es h.1))

-- each map rises within step keys
abbrev pub AllRise : {V : Type 0} → ℕ → List (List (ℕ × V)) → Type 0
AllRise step [] = Unit {0}
AllRise step (es ∷ ess) = Rises 0 step es × AllRise step ess

pub rises-first : {V : Type 0} (step base : ℕ) (es : List (ℕ × V)) → Rises 0 step es → Rises base (base + step) (raised base es)
rises-first step base es h = rises_lower base (base + 0) (base + step) (raised base es) (omega arith) (rises-raised base 0 step es h)

pub rises-joined : {V : Type 0} (step base : ℕ) (ess : List (List (ℕ × V))) → AllRise step ess → Rises base (base + length ess * step) (joined step base ess)
unfolding joined
rises-joined step base [] h = omega arith
rises-joined step base (es ∷ ess) h =
    let rest = rises-joined step (base + step) ess h.1 in
    rises-append base (base + step) (base + length (es ∷ ess) * step) (raised base es) (joined step (base + step) ess) (rises-first step base es h.0) (rises_wider (base + step) (base + step + length ess * step) (base + length (es ∷ ess) * step) (joined step (base + step) ess) rest (omega arith))

pub rises-part : {T V : Type 0} (f : T → List (ℕ × V)) (step : ℕ) → ((x : T) → Rises 0 step (f x)) → (o : Option T) → Rises 0 step (part f o)
rises-part f step h None = omega arith
rises-part f step h (Some x) = h x

pub parts_rise : {T V : Type 0} (f : T → List (ℕ × V)) (step : ℕ) → ((x : T) → Rises 0 step (f x)) → (xs : List (Option T)) → AllRise step (map (part f) xs)
parts_rise f step h [] = tt
parts_rise f step h (o ∷ xs) = (rises-part f step h o, parts_rise f step h xs)

pub rises-of : {T V : Type 0} (f : T → List (ℕ × V)) (step : ℕ) → ((x : T) → Rises 0 step (f x)) → (xs : List (Option T)) → Rises 0 (16 * step) (entries_of f step xs)
unfolding entries_of
rises-of f step h xs =
    let ess = map (part f) (take 16 xs) in
    let n = length-take 16 xs in
    let m = length-map (take 16 xs) (part f) in
    let few : length ess ≤ 16 = omega arith in
    rises_wider 0 (0 + length ess * step) (16 * step) (joined step 0 ess) (rises-joined step 0 ess (parts_rise f step h (take 16 xs))) (omega (arith, mul-le-mul_right step few))

pub rises-single : {V : Type 0} (v : V) → Rises 0 1 (single v)
rises-single v = (omega arith, omega arith)

pub leaf_rises : {V : Type 0} (xs : List (Option V)) → Rises 0 (16 * 2 ^ 0) (entries_of single 1 xs)
leaf_rises xs = rises-of single 1 rises-single xs

-- 16 times the keys of a slot that ends at bit s
pub pow_16 : (s : ℕ) → 2 ^ (s + 4) ≡ 16 * 2 ^ s
pow_16 s = pow-add 2 s 4 ∙ mul_comm (2 ^ s) 16

pub fits_16 : {T V : Type 0} (f : T → List (ℕ × V)) (s : ℕ) → ((x : T) → Rises 0 (16 * 2 ^ s) (f x)) → (x : T) → Rises 0 (2 ^ (s + 4)) (f x)
fits_16 f s h x = subst (λ n. Rises 0 n (f x)) (sym (pow_16 s)) (h x)

pub node_rises : {T V : Type 0} (f : T → List (ℕ × V)) (s : ℕ) → ((x : T) → Rises 0 (16 * 2 ^ s) (f x)) → (xs : List (Option T)) → Rises 0 (16 * 2 ^ (s + 4)) (entries_of f (2 ^ (s + 4)) xs)
node_rises f s h xs = rises-of f (2 ^ (s + 4)) (fits_16 f s h) xs

-- as many entries as keys at most
pub rises-length : {V : Type 0} (a b : ℕ) (es : List (ℕ × V)) → Rises a b es → length es + a ≤ b
rises-length a b [] h = omega arith
rises-length a b (e ∷ es) h = let l = h.0 in let k = rises-length (e.0 + 1) b es h.1 in omega arith
