-- The slots of a node after one of them was filled or freed: its items are those below, the new one, and those above.
use Rattle.std.proofs.Common.{◌≡◌, ℕ, suc, zero, ◌+◌, ◌<◌, List, [], ◌∷◌, ◌++◌, length, take, drop, map, set, insert, remove, Option, Some, None, is_some, option_to_list, refl, sym, ap, ◌∙◌, subst, arith, length-append, length-drop}
use Rattle.std.proofs.lemmas.List.{take-append-drop, take-map, drop-map, length-map, length-take-le, map-append}
use Rattle.std.specs.Int.{bit_at}
use Rattle.radix_map.specs.Slots.{slots_of, taken, digit_of, Replaces}
use Rattle.radix_map.proofs.Digits.{slot_replaced, taken_replaced, room, same_digit}

length_own : {T : Type 0} (w : Option T) → length (option_to_list w) ≡ digit_of (is_some w)
length_own None = refl
length_own (Some x) = refl

pub record IsCopy {T : Type 0} (i b c : ℕ) (ys zs : List T) (w : Option T) : Type 0 where
  pub counted : length zs ≡ taken 16 c
  pub slotd : slots_of 16 c zs ≡ set (slots_of 16 b ys) i w

rebuilt : {T : Type 0} (i b c : ℕ) (ys zs : List T) (w : Option T) → i < 16 → length ys ≡ taken 16 b → Replaces i (bit_at b i) (digit_of (is_some w)) b c → zs ≡ take (taken i b) ys ++ (option_to_list w ++ drop (taken i b + bit_at b i) ys) → IsCopy i b c ys zs w
rebuilt i b c ys zs w h size r all =
    let fits = room 16 i b h in
    let low_size : length (take (taken i b) ys) ≡ taken i b = length-take-le (taken i b) ys (omega arith) in
    let count = taken_replaced 16 i (bit_at b i) (digit_of (is_some w)) b c h r in
    let sum : length zs ≡ length (take (taken i b) ys) + (length (option_to_list w) + length (drop (taken i b + bit_at b i) ys)) =
    ap length all ∙ length-append (take (taken i b) ys) _ ∙ ap (λ t. length (take (taken i b) ys) + t) (length-append (option_to_list w) (drop (taken i b + bit_at b i) ys)) in
    let own = length_own w in
    let high_size = length-drop (taken i b + bit_at b i) ys in
    record {
      counted = omega arith;
      slotd = ap (slots_of 16 c) all ∙ slot_replaced 16 i b c w ys h size r;
    }

mapped : {A T : Type 0} (f : A → T) (r s : ℕ) (xs ms : List A) → map f (take r xs ++ (ms ++ drop s xs)) ≡ take r (map f xs) ++ (map f ms ++ drop s (map f xs))
mapped f r s xs ms =
    map-append f (take r xs) (ms ++ drop s xs) ∙ ap (λ t. t ++ map f (ms ++ drop s xs)) (sym (take-map f r xs)) ∙ ap (λ t. take r (map f xs) ++ t) (map-append f ms (drop s xs) ∙ ap (λ t. map f ms ++ t) (sym (drop-map f s xs)))

-- a free slot is filled
pub filled : {A T : Type 0} (f : A → T) (i b c : ℕ) (xs zs : List A) (a : A) → i < 16 → length xs ≡ taken 16 b → bit_at b i ≡ 0 → Replaces i (bit_at b i) 1 b c → zs ≡ insert xs (taken i b) a → IsCopy i b c (map f xs) (map f zs) (Some (f a))
filled f i b c xs zs a h e z r q =
    let none : taken i b ≡ taken i b + bit_at b i = omega arith in
    rebuilt i b c (map f xs) (map f zs) (Some (f a)) h (length-map xs f ∙ e) r (ap (map f) q ∙ mapped f (taken i b) (taken i b) xs (a ∷ []) ∙ ap (λ s. take (taken i b) (map f xs) ++ (f a ∷ drop s (map f xs))) none)

-- a taken slot is freed
pub freed : {A T : Type 0} (f : A → T) (i b c : ℕ) (xs zs : List A) → i < 16 → length xs ≡ taken 16 b → bit_at b i ≡ 1 → Replaces i (bit_at b i) 0 b c → zs ≡ remove xs (taken i b) → IsCopy i b c (map f xs) (map f zs) None
freed f i b c xs zs h e z r q =
    let one : suc (taken i b) ≡ taken i b + bit_at b i = omega arith in
    rebuilt i b c (map f xs) (map f zs) None h (length-map xs f ∙ e) r (ap (map f) q ∙ mapped f (taken i b) (suc (taken i b)) xs [] ∙ ap (λ s. take (taken i b) (map f xs) ++ drop s (map f xs)) one)

set_split : {A : Type 0} (xs : List A) (r : ℕ) (a : A) → r < length xs → set xs r a ≡ take r xs ++ (a ∷ drop (suc r) xs)
set_split [] r a h = absurd (omega arith)
set_split (x ∷ xs) zero a h = refl
set_split (x ∷ xs) (suc r) a h = ap (λ t. x ∷ t) (set_split xs r a (omega arith))

-- a taken slot has another item
pub refilled : {A T : Type 0} (f : A → T) (i b : ℕ) (xs zs : List A) (a : A) → i < 16 → length xs ≡ taken 16 b → bit_at b i ≡ 1 → zs ≡ set xs (taken i b) a → IsCopy i b b (map f xs) (map f zs) (Some (f a))
refilled f i b xs zs a h e z q =
    let fits = room 16 i b h in
    let one : suc (taken i b) ≡ taken i b + bit_at b i = omega arith in
    rebuilt i b b (map f xs) (map f zs) (Some (f a)) h (length-map xs f ∙ e) (subst (λ d. Replaces i d 1 b b) (sym z) (same_digit i 1 b z)) (ap (map f) (q ∙ set_split xs (taken i b) a (omega arith)) ∙ mapped f (taken i b) (suc (taken i b)) xs (a ∷ []) ∙ ap (λ s. take (taken i b) (map f xs) ++ (f a ∷ drop s (map f xs))) one)

-- a free slot stays free
pub stays_free : {T : Type 0} (i b : ℕ) (ys : List T) → i < 16 → length ys ≡ taken 16 b → bit_at b i ≡ 0 → slots_of 16 b ys ≡ set (slots_of 16 b ys) i None
stays_free i b ys h e z =
    let c = rebuilt i b b ys ys None h e (subst (λ d. Replaces i d 0 b b) (sym z) (same_digit i 0 b z)) (sym (take-append-drop (taken i b) ys) ∙ ap (λ s. take (taken i b) ys ++ drop s ys) none) in
    c.slotd
  where
    none : taken i b ≡ taken i b + bit_at b i
    none = omega arith
