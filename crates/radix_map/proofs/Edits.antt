-- One child of a node was changed where it stands: what the node's entries became follows from what the child's became.
use Rattle.std.proofs.Common.{◌≡◌, ℕ, suc, zero, ◌+◌, ◌*◌, ◌^◌, ◌<◌, List, length, take, set, map, get_or, Option, Some, Result, Ok, Err, OnOk, OnErr, IfOk, IsSome, refl, sym, ap, ◌∙◌, subst, arith}
use Rattle.std.specs.Int.{bit_at}
use Rattle.std.specs.declared.sync.Arc.{Arc}
use Rattle.std.proofs.lemmas.Bool.{false≢true}
use Rattle.std.proofs.lemmas.List.{length-map}
use Rattle.std.proofs.Math.ListN.{get_or-map}
use Rattle.std.proofs.lemmas.Nat.Bits.{bit_at-lt}
use Rattle.radix_map.specs.Slots.{item_at, slots_of, taken}
use Rattle.radix_map.specs.Entries.{edited_within, entries_of, part, joined, Rises, InSlot, Counts, IsEdited}
use Rattle.radix_map.proofs.Digits.{free_slot, taken_slot, slots-length}
use Rattle.radix_map.proofs.Copied.{refilled}
use Rattle.radix_map.proofs.Trees.{map-set, take-set, set-own, part_at, node_edited, node_counted}

-- b took the slot of a
pub record IsChange {T : Type 0} (xs ys : List (Option T)) (i : ℕ) (a b : T) : Type 0 where
  pub wide : length xs ≡ 16
  pub was : item_at xs i ≡ Some a
  pub is : ys ≡ set xs i (Some b)

pub node_same : {T V : Type 0} (f : T → List (ℕ × V)) (step i : ℕ) (xs : List (Option T)) (w : Option T) → i < 16 → part f w ≡ part f (item_at xs i) → entries_of f step (set xs i w) ≡ entries_of f step xs
unfolding entries_of
node_same f step i xs w l e =
    let ess = map (part f) (take 16 xs) in
    ap (λ ys. joined step 0 (map (part f) ys)) (take-set 16 i xs w) ∙ ap (joined step 0) (map-set (part f) (take 16 xs) i w) ∙ ap (λ es. joined step 0 (set ess i es)) (e ∙ sym (part_at f 16 xs i l)) ∙ ap (joined step 0) (set-own ess i)

pub change_ok : {T V Z E X : Type 0} (r : Result X E) (f : T → List (ℕ × V)) (s : ℕ) → ((x : T) → Rises 0 (16 * 2 ^ s) (f x)) → (xs ys : List (Option T)) (shift i : ℕ) (a b : T) (run : List (ℕ × Option (Arc V Z))) → shift ≡ s + 4 → i < 16 → InSlot (2 ^ shift) i run → IsChange xs ys i a b → OnOk r (f b ≡ edited_within (16 * 2 ^ s) (f a) run) → OnOk r (entries_of f (2 ^ (s + 4)) ys ≡ edited_within (16 * 2 ^ (s + 4)) (entries_of f (2 ^ (s + 4)) xs) run)
change_ok (Ok x) f s h xs ys shift i a b run e l n c k =
    ap (entries_of f (2 ^ (s + 4))) c.is ∙ node_edited f s h xs shift i (Some a) (Some b) run e l c.wide n (sym c.was) k
change_ok (Err x) f s h xs ys shift i a b run e l n c k = k

pub change_err : {T V E X : Type 0} (r : Result X E) (f : T → List (ℕ × V)) (step : ℕ) (xs ys : List (Option T)) (i : ℕ) (a b : T) → i < 16 → IsChange xs ys i a b → OnErr r (f b ≡ f a) → OnErr r (entries_of f step ys ≡ entries_of f step xs)
change_err (Ok x) f step xs ys i a b l c k = k
change_err (Err x) f step xs ys i a b l c k = ap (entries_of f step) c.is ∙ node_same f step i xs (Some b) l (k ∙ ap (part f) (sym c.was))

pub change_counted : {T V E X : Type 0} (r : Result X E) (added removed : X → ℕ) (f : T → List (ℕ × V)) (step : ℕ) (xs ys : List (Option T)) (i : ℕ) (a b : T) → i < 16 → IsChange xs ys i a b → IfOk r (λ t. Counts (length (f a)) (length (f b)) (added t) (removed t)) → IfOk r (λ t. Counts (length (entries_of f step xs)) (length (entries_of f step ys)) (added t) (removed t))
change_counted (Ok x) added removed f step xs ys i a b l c k =
    subst (λ t. Counts (length (entries_of f step xs)) (length (entries_of f step t)) (added x) (removed x)) (sym c.is) (node_counted f step xs i (Some a) (Some b) (f b) (added x) (removed x) l c.wide (sym c.was) refl k)
change_counted (Err x) added removed f step xs ys i a b l c k = k

pub change_edited : {T V Z E X : Type 0} (r : Result X E) (added removed : X → ℕ) (f : T → List (ℕ × V)) (s : ℕ) → ((x : T) → Rises 0 (16 * 2 ^ s) (f x)) → (xs ys : List (Option T)) (shift i : ℕ) (a b : T) (run : List (ℕ × Option (Arc V Z))) → shift ≡ s + 4 → i < 16 → InSlot (2 ^ shift) i run → IsChange xs ys i a b → IfOk r (λ t. IsEdited (16 * 2 ^ s) (f a) (f b) run (added t) (removed t)) → IfOk r (λ t. IsEdited (16 * 2 ^ (s + 4)) (entries_of f (2 ^ (s + 4)) xs) (entries_of f (2 ^ (s + 4)) ys) run (added t) (removed t))
change_edited {E = E} (Ok x) added removed f s h xs ys shift i a b run e l n c k = record {
  made = change_ok {E = E} (Ok x) f s h xs ys shift i a b run e l n c k.made;
  counted = change_counted {E = E} (Ok x) added removed f (2 ^ (s + 4)) xs ys i a b l c k.counted;
  few_added = k.few_added;
  few_removed = k.few_removed;
}
change_edited (Err x) added removed f s h xs ys shift i a b run e l n c k = k

-- a slot that has an item is taken
pub taken_digit : {T : Type 0} (i b : ℕ) (ys : List T) → i < 16 → length ys ≡ taken 16 b → IsSome (item_at (slots_of 16 b ys) i) → bit_at b i ≡ 1
taken_digit i b ys l n h = by_digit (bit_at b i) refl
  where
    by_digit : (d : ℕ) → bit_at b i ≡ d → d ≡ 1
    by_digit zero e = absurd (false≢true (subst IsSome (free_slot 16 i b ys l n e) h))
    by_digit (suc zero) e = refl
    by_digit (suc (suc d)) e = let k = bit_at-lt b i in absurd (omega arith)

-- the item of a taken slot, which stands at the number of taken slots below it, was changed
pub item_changed : {A T : Type 0} (f : A → T) (i b low : ℕ) (xs : List A) (old new : A) (now : List (Option T)) → slots_of 16 b (map f xs) ≡ now → length xs ≡ taken 16 b → i < 16 → IsSome (item_at now i) → low ≡ taken i b → old ≡ get_or xs low old → IsChange now (slots_of 16 b (map f (set xs low new))) i (f old) (f new)
item_changed f i b low xs old new now v n l t k o =
    let size = length-map xs f ∙ n in
    let one = taken_digit i b (map f xs) l size (subst (λ ys. IsSome (item_at ys i)) (sym v) t) in
    let read = ap f (o ∙ ap (λ j. get_or xs j old) k) ∙ sym (get_or-map f xs (taken i b) old) in
    let e = refilled f i b xs (set xs low new) new l n one (ap (λ j. set xs j new) k) in
    record {
      wide = ap length (sym v) ∙ slots-length 16 b (map f xs);
      was = ap (λ ys. item_at ys i) (sym v) ∙ taken_slot 16 i b (f old) (map f xs) l size one read;
      is = e.slotd ∙ ap (λ ys. set ys i (Some (f new))) v;
    }
