-- A level carries its edits run by run: those that are done have made its entries, and the rest is as it came.
use Rattle.std.proofs.Common.{◌≡◌, ℕ, suc, ◌+◌, ◌%◌, ◌<◌, ◌≤◌, List, [], ◌∷◌, ◌++◌, length, drop, get_or, option_map, Option, Result, Ok, Err, OnErr, refl, sym, ap, ◌∙◌, arith, length-append, append_assoc}
use Rattle.std.proofs.Math.Seq.{drop-cons}
use Rattle.std.specs.Arc.{arc_value}
use Rattle.std.specs.declared.sync.Arc.{Arc}
use Rattle.radix_map.specs.Entries.{edited, edited_within, KeysFit, Counts, IsEdited}
use Rattle.radix_map.proofs.Trees.{within-append, fit-append}

-- of the edits all but the rest are done, and made the entries es those of now
pub record Carried {V Z : Type 0} (w : ℕ) (es now : List (ℕ × V)) (edits rest : List (ℕ × Option (Arc V Z))) (added removed : ℕ) : Type 0 where
  pub done : List (ℕ × Option (Arc V Z))
  pub all : edits ≡ done ++ rest
  pub is : now ≡ edited_within w es done
  pub fit : KeysFit done
  pub counted : Counts (length es) (length now) added removed
  pub few_added : added ≤ length done
  pub few_removed : removed ≤ length done

pub carried_none : {V Z : Type 0} (w : ℕ) (es : List (ℕ × V)) (edits : List (ℕ × Option (Arc V Z))) → Carried w es es edits edits 0 0
unfolding edited_within
carried_none w es edits = record {
  done = [];
  all = refl;
  is = refl;
  fit = tt;
  counted = refl;
  few_added = omega arith;
  few_removed = omega arith;
}

pub carried_more : {V Z : Type 0} (w : ℕ) (es now next : List (ℕ × V)) (edits rest run later : List (ℕ × Option (Arc V Z))) (added removed a r : ℕ) → Carried w es now edits rest added removed → rest ≡ run ++ later → KeysFit run → IsEdited w now next run a r → Carried w es next edits later (added + a) (removed + r)
carried_more w es now next edits rest run later added removed a r c e fit did =
    let size = length-append c.done run in
    let before = c.counted in
    let after = did.counted in
    let low = c.few_added in
    let high = c.few_removed in
    let more = did.few_added in
    let less = did.few_removed in
    record {
      done = c.done ++ run;
      all = c.all ∙ ap (λ t. c.done ++ t) e ∙ sym (append_assoc c.done run later);
      is = did.made ∙ ap (λ t. edited_within w t run) c.is ∙ sym (within-append w es c.done run);
      fit = fit-append c.done run c.fit fit;
      counted = omega arith;
      few_added = omega arith;
      few_removed = omega arith;
    }

none_before : {V Z : Type 0} (w : ℕ) (es : List (ℕ × V)) (xs : List (ℕ × Option (Arc V Z))) → length xs ≡ 0 → edited_within w es xs ≡ es
unfolding edited_within
none_before w es [] h = refl
none_before w es (x ∷ xs) h = absurd (omega arith)

-- one edit alone, which stopped: nothing was done before it
pub carried_alone : {V Z : Type 0} (w : ℕ) (es now part : List (ℕ × V)) (edits rest run later : List (ℕ × Option (Arc V Z))) (added removed : ℕ) → Carried w es now edits rest added removed → rest ≡ run ++ later → 0 < length run → (length run ≤ 1 → part ≡ now) → length edits ≤ 1 → part ≡ es
carried_alone w es now part edits rest run later added removed c e p k n =
    let size = ap length c.all ∙ length-append c.done rest in
    let rest_size = ap length e ∙ length-append run later in
    let none : length c.done ≡ 0 = omega arith in
    k (omega arith) ∙ c.is ∙ none_before w es c.done none

-- what holds whatever came holds after want of memory
pub at_err : {X E P : Type 0} (r : Result X E) → P → OnErr r P
at_err (Ok x) p = tt
at_err (Err x) p = p

-- ---- a leaf takes its edits one by one

pub next_edit : {X : Type 0} (xs : List X) (i : ℕ) (x : X) → i < length xs → x ≡ get_or xs i x → drop i xs ≡ (x ∷ []) ++ drop (suc i) xs
next_edit xs i x h e = drop-cons xs i x h ∙ ap (λ y. y ∷ drop (suc i) xs) (sym e)

pub one_within : {V Z : Type 0} (w : ℕ) (es : List (ℕ × V)) (e : ℕ × Option (Arc V Z)) → edited_within w es (e ∷ []) ≡ edited es (e.0 % w) (option_map arc_value e.1)
unfolding edited_within
one_within w es e = refl
