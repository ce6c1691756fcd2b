-- Noted edits that are carried one after another, or run by run: how the first of them, and then the next, make what all of them make.
use Rattle.std.proofs.Common.{◌≡◌, ℕ, ◌+◌, ◌*◌, ◌^◌, ◌<◌, ◌≤◌, List, [], ◌∷◌, ◌-◌, length, take, take_all, drop, length-drop, set, get_or, suc, zero, Option, Some, Result, Ok, Err, OnErr, IsSome, refl, sym, ap, ◌∙◌, arith}
use Rattle.std.proofs.Math.Seq.{take-add, drop-cons}
use Rattle.std.specs.declared.sync.Arc.{Arc}
use Rattle.radix_map.specs.Entries.{edited_within, entries_of, Rises, InSlot, Counts}
use Rattle.radix_map.specs.Pending.{IsCarried}
use Rattle.radix_map.specs.Slots.{item_at}
use Rattle.radix_map.proofs.Carried.{at_err}
use Rattle.radix_map.proofs.Trees.{within-append, node_edited}
use Rattle.radix_map.proofs.Edits.{IsChange}

drop-none : {A : Type 0} (m : ℕ) → drop {A = A} m [] ≡ []
drop-none zero = refl
drop-none (suc m) = refl

pub drop-more : {A : Type 0} (n m : ℕ) (xs : List A) → drop m (drop n xs) ≡ drop (n + m) xs
drop-more zero m xs = let e : m ≡ 0 + m = omega arith in ap (λ k. drop k xs) e
drop-more (suc n) m [] = drop-none m ∙ sym (drop-none (suc n + m))
drop-more (suc n) m (x ∷ xs) = let e : suc (n + m) ≡ suc n + m = omega arith in drop-more n m xs ∙ ap (λ k. drop k (x ∷ xs)) e

-- the first n noted edits are carried: they made the entries now of the entries es
pub record Carrying {V Z : Type 0} (w : ℕ) (es now : List (ℕ × V)) (noted left : List (ℕ × Option (Arc V Z))) (n added removed : ℕ) : Type 0 where
  pub made : now ≡ edited_within w es (take n noted)
  pub rest : left ≡ drop n noted
  pub counted : Counts (length es) (length now) added removed
  pub few_added : added ≤ n
  pub few_removed : removed ≤ n

pub carrying_none : {V Z : Type 0} (w : ℕ) (es : List (ℕ × V)) (noted : List (ℕ × Option (Arc V Z))) → Carrying w es es noted noted 0 0 0
unfolding edited_within
carrying_none w es noted = record {
  made = refl;
  rest = refl;
  counted = refl;
  few_added = omega arith;
  few_removed = omega arith;
}

both_made : {V Z : Type 0} (w : ℕ) (es now next : List (ℕ × V)) (noted left : List (ℕ × Option (Arc V Z))) (n k : ℕ) → now ≡ edited_within w es (take n noted) → left ≡ drop n noted → next ≡ edited_within w now (take k left) → next ≡ edited_within w es (take (n + k) noted)
both_made w es now next noted left n k e r h =
    h ∙ ap (λ t. edited_within w t (take k left)) e ∙ ap (λ t. edited_within w (edited_within w es (take n noted)) (take k t)) r ∙ sym (within-append w es (take n noted) (take k (drop n noted))) ∙ ap (edited_within w es) (sym (take-add n k noted))

pub carrying_more : {V Z : Type 0} (w : ℕ) (es now next : List (ℕ × V)) (noted left later : List (ℕ × Option (Arc V Z))) (n added removed k a r : ℕ) → Carrying w es now noted left n added removed → next ≡ edited_within w now (take k left) → later ≡ drop k left → Counts (length now) (length next) a r → a ≤ k → r ≤ k → Carrying w es next noted later (n + k) (added + a) (removed + r)
carrying_more w es now next noted left later n added removed k a r c e q m f g =
    let before = c.counted in
    let low = c.few_added in
    let high = c.few_removed in
    record {
      made = both_made w es now next noted left n k c.made c.rest e;
      rest = q ∙ ap (drop k) c.rest ∙ drop-more n k noted;
      counted = omega arith;
      few_added = omega arith;
      few_removed = omega arith;
    }

-- n edits were carried, and some of the next k
pub carrying_part : {V Z : Type 0} (w : ℕ) (es now next : List (ℕ × V)) (count : ℕ) (noted left later : List (ℕ × Option (Arc V Z))) (n added removed k : ℕ) → Carrying w es now noted left n added removed → IsCarried w now next k left later → n + k ≤ count → IsCarried w es next count noted later
carrying_part w es now next count noted left later n added removed k c p l =
    let few = p.few in
    record {
      done = n + p.done;
      few = omega arith;
      made = both_made w es now next noted left n p.done c.made c.rest p.made;
      rest = p.rest ∙ ap (drop p.done) c.rest ∙ drop-more n p.done noted;
    }

pub carried_nothing : {V Z : Type 0} (w : ℕ) (es now : List (ℕ × V)) (count : ℕ) (noted : List (ℕ × Option (Arc V Z))) → now ≡ es → IsCarried w es now count noted noted
unfolding edited_within
carried_nothing w es now count noted e = record {
  done = 0;
  few = omega arith;
  made = e;
  rest = refl;
}

pub stopped_before : {X E V Z : Type 0} (r : Result X E) (w : ℕ) (es : List (ℕ × V)) (count : ℕ) (noted : List (ℕ × Option (Arc V Z))) → OnErr r (IsCarried w es es count noted noted)
stopped_before r w es count noted = at_err r (carried_nothing w es es count noted refl)

-- ---- into one slot of a node

slot_first : {V Z : Type 0} (step i n m : ℕ) (xs : List (ℕ × Option (Arc V Z))) → m ≤ n → InSlot step i (take n xs) → InSlot step i (take m xs)
slot_first step i n zero xs l h = tt
slot_first step i zero (suc m) xs l h = absurd (omega arith)
slot_first step i (suc n) (suc m) [] l h = tt
slot_first step i (suc n) (suc m) (x ∷ xs) l h = (h.0, slot_first step i n m xs (omega arith) h.1)

pub change_part : {T V Z E X : Type 0} (r : Result X E) (f : T → List (ℕ × V)) (s : ℕ) → ((x : T) → Rises 0 (16 * 2 ^ s) (f x)) → (xs ys : List (Option T)) (shift i : ℕ) (a b : T) (n : ℕ) (noted left : List (ℕ × Option (Arc V Z))) → shift ≡ s + 4 → i < 16 → InSlot (2 ^ shift) i (take n noted) → IsChange xs ys i a b → OnErr r (IsCarried (16 * 2 ^ s) (f a) (f b) n noted left) → OnErr r (IsCarried (16 * 2 ^ (s + 4)) (entries_of f (2 ^ (s + 4)) xs) (entries_of f (2 ^ (s + 4)) ys) n noted left)
change_part (Ok x) f s h xs ys shift i a b n noted left e l p c k = k
change_part (Err x) f s h xs ys shift i a b n noted left e l p c k = record {
  done = k.done;
  few = k.few;
  made = ap (entries_of f (2 ^ (s + 4))) c.is ∙ node_edited f s h xs shift i (Some a) (Some b) (take k.done noted) e l c.wide (slot_first (2 ^ shift) i n k.done noted k.few p) (sym c.was) k.made;
  rest = k.rest;
}

pub item_set : {T : Type 0} (xs : List (Option T)) (i : ℕ) (x : T) → i < length xs → IsSome (item_at (set xs i (Some x)) i)
item_set [] i x l = absurd (omega arith)
item_set (y ∷ xs) zero x l = refl
item_set (y ∷ xs) (suc i) x l = item_set xs i x (omega arith)

-- ---- the edits of a note, of which some are carried

pub first_of : {A : Type 0} (xs ys : List A) (i : ℕ) (x : A) → drop i xs ≡ ys → i < length xs → x ≡ get_or xs i x → take 1 ys ≡ x ∷ []
first_of xs ys i x v l e = ap (take 1) (sym v ∙ drop-cons xs i x l) ∙ ap (λ t. t ∷ []) (sym e)

pub in_note : {A : Type 0} (xs ys : List A) (i : ℕ) → drop i xs ≡ ys → 0 < length ys → i < length xs
in_note xs ys i v l = let n = length-drop i xs in let m = ap length v in omega arith

-- a run begins with the first edit
pub run_front : {A : Type 0} (xs : List A) (k : ℕ) (x : A) → 0 < length xs → x ≡ get_or xs 0 x → take (k + 1) xs ≡ x ∷ take k (take (length xs - 1) (drop 1 xs))
run_front [] k x l e = absurd (omega arith)
run_front (z ∷ xs) k x l e =
    let next : k + 1 ≡ suc k = omega arith in
    let size : length xs ≤ length (z ∷ xs) - 1 = omega arith in
    ap (λ n. take n (z ∷ xs)) next ∙ ap (λ t. t ∷ take k xs) (sym e) ∙ ap (λ t. x ∷ take k t) (sym (take_all (length (z ∷ xs) - 1) xs size))
