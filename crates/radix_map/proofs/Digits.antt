-- The slots of a node when one of them changes, by induction on the slot: its digit and its item change, and all others stay.
use Rattle.std.proofs.Common.{◌⊎◌, inl, inr, ◌≡◌, ℕ, zero, suc, ◌+◌, ◌-◌, ◌*◌, ◌/◌, ◌%◌, ◌^◌, ◌<◌, ◌≤◌, List, [], ◌∷◌, ◌++◌, length, set, Option, Some, None, option_to_list, refl, sym, ap, ◌∙◌, subst, arith, count_ones, replicate, is_some, take, drop, get_or, bit_and, bit_or}
use Rattle.std.specs.Int.{bit_at, trailing_zeros}
use mir.Syntax.{w32}
use Rattle.std.proofs.lemmas.Nat.Bits.{bit_at-suc, bit_at_lowest, bit_at-lt, bit_at-zero, bit_at_above, bit_at-trailing_zeros, and_pow}
use Rattle.std.proofs.Math.Nat.{pow-suc, mod-one, div-div-eq-div-mul}
use Rattle.std.proofs.Math.Seq.{drop-cons}
use Rattle.std.proofs.lemmas.List.{take-append-drop, length-take-le}
use Rattle.std.proofs.lemmas.Nat.{one_shl, and-not, shr_le, pow-add}
use Rattle.std.proofs.Math.Pow.{pow-lt}
use lib.Bits.{or_add_and, and_comm}
use lib.Arith.{mod-mul}
use lib.Count.{ones, ones_step}
use Rattle.radix_map.specs.Slots.{first_if, rest_if, slots_of, taken, item_at, digit_of, Replaces, IsNextDigit}

pub pow_pos : (n : ℕ) → 0 < 2 ^ n
pow_pos zero = omega arith
pow_pos (suc n) = let e = pow-suc 2 n in let h = pow_pos n in omega arith

pub taken_ones : (n b : ℕ) → count_ones (b % 2 ^ n) ≡ taken n b
unfolding taken ones
taken_ones zero b = ap count_ones (mod-one b)
taken_ones (suc n) b =
    let m = b % 2 ^ suc n in
    let q = b / 2 % 2 ^ n in
    let e : m ≡ q * 2 + b % 2 = ap (λ (k : ℕ). b % k) (pow-suc 2 n) ∙ mod-mul b (pow_pos n) (omega arith) in
    let low : m % 2 ≡ b % 2 = omega arith in
    let high : m / 2 ≡ q = omega arith in
    ones_step m ∙ ap (λ (k : ℕ). k + count_ones (m / 2)) low ∙ ap (λ (k : ℕ). b % 2 + count_ones k) high
    ∙ ap (λ (k : ℕ). b % 2 + k) (taken_ones n (b / 2))

pub same_digit : (i p b : ℕ) → bit_at b i ≡ p → Replaces i p p b b
same_digit zero p b h = let e : b % 2 ≡ p = sym (bit_at_lowest b) ∙ h in (e, e, refl)
same_digit (suc i) p b h = (refl, same_digit i p (b / 2) (sym (bit_at-suc b i) ∙ h))

pub set_digit : (i b c : ℕ) → bit_at b i ≡ 0 → c ≡ b + 2 ^ i → Replaces i 0 1 b c
set_digit zero b c h e = let l : b % 2 ≡ 0 = sym (bit_at_lowest b) ∙ h in (l, omega arith, omega arith)
set_digit (suc i) b c h e =
    let two = pow-suc 2 i in
    (omega arith, set_digit i (b / 2) (c / 2) (sym (bit_at-suc b i) ∙ h) (omega arith))

pub clear_digit : (i b c : ℕ) → bit_at b i ≡ 1 → b ≡ c + 2 ^ i → Replaces i 1 0 b c
clear_digit zero b c h e = let l : b % 2 ≡ 1 = sym (bit_at_lowest b) ∙ h in (l, omega arith, omega arith)
clear_digit (suc i) b c h e =
    let two = pow-suc 2 i in
    (omega arith, clear_digit i (b / 2) (c / 2) (sym (bit_at-suc b i) ∙ h) (omega arith))

pub taken_replaced : (n i p q b c : ℕ) → i < n → Replaces i p q b c → taken n c + p ≡ taken n b + q
unfolding taken
taken_replaced zero i p q b c h r = omega arith
taken_replaced (suc n) zero p q b c h r = let e = ap (λ (k : ℕ). taken n k) r.2 in omega arith
taken_replaced (suc n) (suc i) p q b c h r =
    let e = taken_replaced n i p q (b / 2) (c / 2) (omega arith) r.1 in let d = r.0 in omega arith

pub taken_below : (n i p b : ℕ) → i < n → Replaces i p p b b → taken i b + p ≤ taken n b
unfolding taken
taken_below zero i p b h r = omega arith
taken_below (suc n) zero p b h r = let d = r.0 in omega arith
taken_below (suc n) (suc i) p b h r = let e = taken_below n i p (b / 2) (omega arith) r.1 in omega arith

abbrev digit : {T : Type 0} → Option T → ℕ
digit o = digit_of (is_some o)

first_own : {T : Type 0} (o : Option T) (bs : List T) → first_if (digit o) (option_to_list o ++ bs) ≡ o
first_own None bs = refl
first_own (Some x) bs = refl

rest_own : {T : Type 0} (o : Option T) (bs : List T) → rest_if (digit o) (option_to_list o ++ bs) ≡ bs
rest_own None bs = refl
rest_own (Some x) bs = refl

-- one more slot below, of digit d
below_more : {T : Type 0} (d k i : ℕ) (o w : Option T) (xs ys : List T) (f g : List T → List (Option T)) → d < 2
    → length xs ≡ d + k
    → ((zs : List T) → length zs ≡ k → f (zs ++ (option_to_list w ++ ys)) ≡ set (g (zs ++ (option_to_list o ++ ys))) i w)
    → first_if d (xs ++ (option_to_list w ++ ys)) ∷ f (rest_if d (xs ++ (option_to_list w ++ ys))) ≡ first_if d (xs ++ (option_to_list o ++ ys)) ∷ set (g (rest_if d (xs ++ (option_to_list o ++ ys)))) i w
below_more zero k i o w xs ys f g h e ih = ap (λ t. None ∷ t) (ih xs (omega arith))
below_more (suc zero) k i o w [] ys f g h e ih = absurd (omega arith)
below_more (suc zero) k i o w (x ∷ xs) ys f g h e ih = ap (λ t. Some x ∷ t) (ih xs (omega arith))
below_more (suc (suc d)) k i o w xs ys f g h e ih = absurd (omega arith)

pub slots_replaced : {T : Type 0} (n i b c : ℕ) (o w : Option T) (xs ys : List T) → i < n
    → Replaces i (digit o) (digit w) b c → length xs ≡ taken i b
    → slots_of n c (xs ++ (option_to_list w ++ ys)) ≡ set (slots_of n b (xs ++ (option_to_list o ++ ys))) i w
unfolding slots_of taken
slots_replaced zero i b c o w xs ys h r e = absurd (omega arith)
slots_replaced (suc n) zero b c o w [] ys h r e =
    let first : first_if (c % 2) (option_to_list w ++ ys) ≡ w = subst (λ d. first_if d (option_to_list w ++ ys) ≡ w) (sym r.1) (first_own w ys) in
    let rest : rest_if (c % 2) (option_to_list w ++ ys) ≡ rest_if (b % 2) (option_to_list o ++ ys) =
    subst (λ d. rest_if d (option_to_list w ++ ys) ≡ rest_if (b % 2) (option_to_list o ++ ys)) (sym r.1) (subst (λ d. rest_if (digit w) (option_to_list w ++ ys) ≡ rest_if d (option_to_list o ++ ys)) (sym r.0) (rest_own w ys ∙ sym (rest_own o ys))) in
    ap (λ t. t ∷ slots_of n (c / 2) (rest_if (c % 2) (option_to_list w ++ ys))) first
    ∙ ap (λ k. w ∷ slots_of n k (rest_if (c % 2) (option_to_list w ++ ys))) (sym r.2)
    ∙ ap (λ zs. w ∷ slots_of n (b / 2) zs) rest
slots_replaced (suc n) zero b c o w (x ∷ xs) ys h r e = absurd (omega arith)
slots_replaced (suc n) (suc i) b c o w xs ys h r e =
    subst (λ d. first_if d (xs ++ (option_to_list w ++ ys)) ∷ slots_of n (c / 2) (rest_if d (xs ++ (option_to_list w ++ ys))) ≡ first_if (b % 2) (xs ++ (option_to_list o ++ ys)) ∷ set (slots_of n (b / 2) (rest_if (b % 2) (xs ++ (option_to_list o ++ ys)))) i w) r.0 (below_more (b % 2) (taken i (b / 2)) i o w xs ys (slots_of n (c / 2)) (slots_of n (b / 2)) (omega arith) e (λ zs k. slots_replaced n i (b / 2) (c / 2) o w zs ys (omega arith) r.1 k))

below_item : {T : Type 0} (d k i : ℕ) (o : Option T) (xs ys : List T) (f : List T → List (Option T)) → d < 2
    → length xs ≡ d + k → ((zs : List T) → length zs ≡ k → item_at (f (zs ++ (option_to_list o ++ ys))) i ≡ o)
    → item_at (f (rest_if d (xs ++ (option_to_list o ++ ys)))) i ≡ o
below_item zero k i o xs ys f h e ih = ih xs (omega arith)
below_item (suc zero) k i o [] ys f h e ih = absurd (omega arith)
below_item (suc zero) k i o (x ∷ xs) ys f h e ih = ih xs (omega arith)
below_item (suc (suc d)) k i o xs ys f h e ih = absurd (omega arith)

pub item_own : {T : Type 0} (n i b : ℕ) (o : Option T) (xs ys : List T) → i < n → Replaces i (digit o) (digit o) b b
    → length xs ≡ taken i b → item_at (slots_of n b (xs ++ (option_to_list o ++ ys))) i ≡ o
unfolding slots_of taken
item_own zero i b o xs ys h r e = absurd (omega arith)
item_own (suc n) zero b o [] ys h r e = subst (λ d. first_if d (option_to_list o ++ ys) ≡ o) (sym r.1) (first_own o ys)
item_own (suc n) zero b o (x ∷ xs) ys h r e = absurd (omega arith)
item_own (suc n) (suc i) b o xs ys h r e =
    below_item (b % 2) (taken i (b / 2)) i o xs ys (slots_of n (b / 2)) (omega arith) e (λ zs k. item_own n i (b / 2) o zs ys (omega arith) r.1 k)

pub slots-length : {T : Type 0} (n b : ℕ) (xs : List T) → length (slots_of n b xs) ≡ n
unfolding slots_of
slots-length zero b xs = refl
slots-length (suc n) b xs = ap suc (slots-length n (b / 2) (rest_if (b % 2) xs))

pub no_slots : {T : Type 0} (n : ℕ) (xs : List T) → slots_of n 0 xs ≡ replicate n None
unfolding slots_of
no_slots zero xs = refl
no_slots (suc n) xs = ap (λ t. None ∷ t) (no_slots n xs)

pub none_taken : (n : ℕ) → taken n 0 ≡ 0
unfolding taken
none_taken zero = refl
none_taken (suc n) = let e = none_taken n in omega arith

abbrev Own : {T : Type 0} → ℕ → ℕ → List T → Type 0
Own {T} r d xs = (o : Option T) × (digit o ≡ d) × (xs ≡ take r xs ++ (option_to_list o ++ drop (r + d) xs))

split_own : {T : Type 0} (r d : ℕ) (xs : List T) → d < 2 → r + d ≤ length xs → Own r d xs
split_own zero zero xs h k = (None, refl, refl)
split_own zero (suc zero) [] h k = absurd (omega arith)
split_own zero (suc zero) (x ∷ xs) h k = (Some x, refl, refl)
split_own zero (suc (suc d)) xs h k = absurd (omega arith)
split_own (suc r) d [] h k = absurd (omega arith)
split_own (suc r) d (x ∷ xs) h k =
    let o = split_own r d xs h (omega arith) in
    let e : suc r + d ≡ suc (r + d) = omega arith in
    (o.0, o.1, subst (λ m. x ∷ xs ≡ x ∷ (take r xs ++ (option_to_list o.0 ++ drop m (x ∷ xs)))) (sym e) (ap (λ t. x ∷ t) o.2))

pub room : (n i b : ℕ) → i < n → taken i b + bit_at b i ≤ taken n b
room n i b h = taken_below n i (bit_at b i) b h (same_digit i (bit_at b i) b refl)

-- slot i, whose item stands at the number of taken slots below it
pub slot_replaced : {T : Type 0} (n i b c : ℕ) (w : Option T) (xs : List T) → i < n → length xs ≡ taken n b
    → Replaces i (bit_at b i) (digit w) b c
    → slots_of n c (take (taken i b) xs ++ (option_to_list w ++ drop (taken i b + bit_at b i) xs)) ≡ set (slots_of n b xs) i w
slot_replaced n i b c w xs h e r =
    let d = bit_at b i in
    let k = room n i b h in
    let o = split_own (taken i b) d xs (bit_at-lt b i) (omega arith) in
    let l : length (take (taken i b) xs) ≡ taken i b = length-take-le (taken i b) xs (omega arith) in
    slots_replaced n i b c o.0 w _ _ h (subst (λ p. Replaces i p (digit w) b c) (sym o.1) r) l ∙ ap (λ zs. set (slots_of n b zs) i w) (sym o.2)

pub free_slot : {T : Type 0} (n i b : ℕ) (xs : List T) → i < n → length xs ≡ taken n b → bit_at b i ≡ 0 → item_at (slots_of n b xs) i ≡ None
free_slot n i b xs h e z =
    let k = room n i b h in
    let l : length (take (taken i b) xs) ≡ taken i b = length-take-le (taken i b) xs (omega arith) in
    ap (λ zs. item_at (slots_of n b zs) i) (sym (take-append-drop (taken i b) xs)) ∙ item_own n i b None _ _ h (same_digit i 0 b z) l

pub taken_slot : {T : Type 0} (n i b : ℕ) (x : T) (xs : List T) → i < n → length xs ≡ taken n b → bit_at b i ≡ 1
    → x ≡ get_or xs (taken i b) x → item_at (slots_of n b xs) i ≡ Some x
taken_slot n i b x xs h e z g =
    let k = room n i b h in
    let l : length (take (taken i b) xs) ≡ taken i b = length-take-le (taken i b) xs (omega arith) in
    let s : xs ≡ take (taken i b) xs ++ (x ∷ drop (suc (taken i b)) xs) =
    sym (take-append-drop (taken i b) xs)
    ∙ ap (λ t. take (taken i b) xs ++ t) (drop-cons xs (taken i b) x (omega arith) ∙ ap (λ y. y ∷ drop (suc (taken i b)) xs) (sym g)) in
    ap (λ zs. item_at (slots_of n b zs) i) s ∙ item_own n i b (Some x) _ _ h (same_digit i 1 b z) l

pub taken-le : (n b : ℕ) → taken n b ≤ n
unfolding taken
taken-le zero b = omega arith
taken-le (suc n) b = let e = taken-le n (b / 2) in omega arith

-- the digit set, and cleared, as the code does both
pub Replaces-or : (i b : ℕ) → Replaces i (bit_at b i) 1 b (bit_or b (2 ^ i))
Replaces-or i b = by_digit (bit_at b i) refl
  where
    by_digit : (d : ℕ) → bit_at b i ≡ d → Replaces i d 1 b (bit_or b (2 ^ i))
    by_digit zero e = let s = or_add_and b (2 ^ i) in let a = and_pow b i ∙ ap (λ k. k * 2 ^ i) e in set_digit i b _ e (omega arith)
    by_digit (suc zero) e =
        let s = or_add_and b (2 ^ i) in let a = and_pow b i ∙ ap (λ k. k * 2 ^ i) e in
        let same : bit_or b (2 ^ i) ≡ b = omega arith in
        subst (λ c. Replaces i 1 1 b c) (sym same) (same_digit i 1 b e)
    by_digit (suc (suc d)) e = let l = bit_at-lt b i in absurd (omega arith)

pub Replaces-and_not : (i b c : ℕ) → c + bit_and b (2 ^ i) ≡ b → Replaces i (bit_at b i) 0 b c
Replaces-and_not i b c s = by_digit (bit_at b i) refl
  where
    by_digit : (d : ℕ) → bit_at b i ≡ d → Replaces i d 0 b c
    by_digit zero e =
        let a = and_pow b i ∙ ap (λ k. k * 2 ^ i) e in
        let same : c ≡ b = omega arith in
        subst (λ c. Replaces i 0 0 b c) (sym same) (same_digit i 0 b e)
    by_digit (suc zero) e = let a = and_pow b i ∙ ap (λ k. k * 2 ^ i) e in clear_digit i b c e (omega arith)
    by_digit (suc (suc d)) e = let l = bit_at-lt b i in absurd (omega arith)

pub Replaces-set : (i b : ℕ) → i < 16 → Replaces i (bit_at b i) 1 b (bit_or b (1 * 2 ^ i % 65536))
Replaces-set i b h = subst (λ m. Replaces i (bit_at b i) 1 b (bit_or b m)) (sym (one_shl i 16 h)) (Replaces-or i b)

pub Replaces-cleared : (i b : ℕ) → i < 16 → b < 65536 → Replaces i (bit_at b i) 0 b (bit_and b (65535 - 1 * 2 ^ i % 65536))
Replaces-cleared i b h k =
    let lt : 2 ^ i < 2 ^ 16 = pow-lt h in
    subst (λ m. Replaces i (bit_at b i) 0 b (bit_and b (65535 - m))) (sym (one_shl i 16 h)) (Replaces-and_not i b _ (ap (λ m. m + bit_and b (2 ^ i)) (and_comm b (65535 - 2 ^ i)) ∙ ap (λ m. bit_and (65535 - 2 ^ i) b + m) (and_comm b (2 ^ i)) ∙ and-not 16 (2 ^ i) b lt k))

bit_at_higher : (d i j : ℕ) → bit_at (d / 2 ^ i) j ≡ bit_at d (i + j)
bit_at_higher d i j = ap (λ n. n % 2) (div-div-eq-div-mul d (2 ^ i) (2 ^ j) ∙ ap (λ p. d / p) (sym (pow-add 2 i j)))

pub no_digit : (d i k : ℕ) → d / 2 ^ i ≡ 0 → i ≤ k → bit_at d k ≡ 0
no_digit d i k z l =
    let e : i + (k - i) ≡ k = omega arith in
    ap (bit_at d) (sym e) ∙ sym (bit_at_higher d i (k - i)) ∙ ap (λ n. bit_at n (k - i)) z ∙ bit_at-zero (k - i)

one_not_zero : (d n : ℕ) → bit_at d n ≡ 1 → bit_at d n ≡ 0 → ⊥
one_not_zero d n h k = omega arith

lt_or_ge : (n m : ℕ) → (n < m) ⊎ (m ≤ n)
lt_or_ge n zero = inr (omega arith)
lt_or_ge zero (suc m) = inl (omega arith)
lt_or_ge (suc n) (suc m) = elim (lt_or_ge n m) [ inl l ↦ inl (omega arith) | inr g ↦ inr (omega arith) ]

below_16 : (d n : ℕ) → d < 65536 → bit_at d n ≡ 1 → n < 16
below_16 d n h e = elim (lt_or_ge n 16) [ inl l ↦ l | inr g ↦ absurd (one_not_zero d n e (bit_at_above d 16 n h g)) ]

pub next_digit : (d i : ℕ) → d < 65536 → (d / 2 ^ i ≡ 0 → ⊥) → IsNextDigit d i (i + trailing_zeros w32 (d / 2 ^ i))
next_digit d i h z =
    let m = d / 2 ^ i in
    let le = shr_le d i in
    let t = bit_at-trailing_zeros w32 m (omega arith) (omega arith) in
    let here = sym (bit_at_higher d i (trailing_zeros w32 m)) ∙ t.1 in
    record {
      behind = omega arith;
      below = below_16 d (i + trailing_zeros w32 m) h here;
      free = λ k l n. let e : i + (k - i) ≡ k = omega arith in ap (bit_at d) (sym e) ∙ sym (bit_at_higher d i (k - i)) ∙ t.2 (k - i) (omega arith);
      here = here;
    }
