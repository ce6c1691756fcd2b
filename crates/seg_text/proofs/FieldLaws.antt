-- The fields of what is left of a line, one byte on and one run on.
use Rattle.std.proofs.Common.{◌≡◌, ℕ, ◌+◌, ◌-◌, ◌<◌, ◌≤◌, Bool, true, false, not, nat_lt, ◌&&◌, ◌⊎◌, inl, inr, subst, List, [], ◌∷◌, ◌++◌, length, take, drop, filter, get_or, refl, sym, ap, ◌∙◌, arith}
use Rattle.std.specs.List.{All}
use Rattle.std.proofs.lemmas.Bool.{cases_lt, false≢true}
use Rattle.std.proofs.lemmas.Bool.Decides.{nat_tests}
use Rattle.std.proofs.lemmas.List.{drop_more, drop_all, take_all, take-append-drop, length-take, get_or-take, get_or-drop, length-drop, drop-drop}
use Rattle.std.proofs.lemmas.List.Elements.{All-from_get_or}
use Rattle.std.proofs.lemmas.List.Splits.{slice_split_none, slice_split_at}
use Rattle.seg_text.specs.Fields.{is_blank, has_bytes, fields_of, runs_on, fields_from, IsRun}

-- a space or a tab in front makes no field
fields_of-blank : (b : ℕ) (bs : List ℕ) → is_blank b ≡ true → fields_of (b ∷ bs) ≡ fields_of bs
unfolding fields_of
fields_of-blank b bs e = simp e

-- a byte further on, where it is a space or a tab
pub blank_step : (line : List ℕ) (k : ℕ)
    → k < length line
    → is_blank (get_or line k 0) ≡ true
    → fields_of (drop k line) ≡ fields_of (drop (k + 1) line)
blank_step line k within e =
    ap fields_of (drop_more line k 0 within) ∙ fields_of-blank (get_or line k 0) (drop (k + 1) line) e

-- a run without a space or a tab that is all is one field
whole_run : (bs : List ℕ)
    → 0 < length bs
    → All (λ b. is_blank b ≡ false) bs
    → fields_of bs ≡ bs ∷ []
unfolding fields_of
whole_run [] some all = absurd (omega arith)
whole_run (b ∷ bs) some all = ap (filter has_bytes) (slice_split_none is_blank (b ∷ bs) all)

-- a run that a space or a tab ends is one field
ended_run : (bs : List ℕ) (y : ℕ) (ys : List ℕ)
    → 0 < length bs
    → All (λ b. is_blank b ≡ false) bs
    → is_blank y ≡ true
    → fields_of (bs ++ y ∷ ys) ≡ bs ∷ fields_of (y ∷ ys)
unfolding fields_of
ended_run [] y ys some all e = absurd (omega arith)
ended_run (b ∷ bs) y ys some all e =
    ap (filter has_bytes) (slice_split_at is_blank (b ∷ bs) y ys all e) ∙ simp e

-- no byte of a run is a space or a tab
run_bytes : (line : List ℕ) (from end : ℕ)
    → IsRun line from end
    → All (λ b. is_blank b ≡ false) (take (end - from) (drop from line))
run_bytes line from end h =
    All-from_get_or (λ b. is_blank b ≡ false) (take (end - from) (drop from line)) 0 (λ i l.
    let within : i < end - from = omega (arith, length-take (end - from) (drop from line)) in
    let inside : from + i < end = omega arith in
    let e : get_or (take (end - from) (drop from line)) i 0 ≡ get_or line (from + i) 0 =
    get_or-take (end - from) (drop from line) i 0 within ∙ get_or-drop from line i 0 in
    ap is_blank e ∙ h.run (from + i) (omega arith) inside)

-- what stands from a run on: the run, and what stands behind it
run_and_rest : (line : List ℕ) (from end : ℕ)
    → from ≤ end
    → take (end - from) (drop from line) ++ drop end line ≡ drop from line
run_and_rest line from end h =
    let e : from + (end - from) ≡ end = omega arith in
    ap (λ bs. take (end - from) (drop from line) ++ bs)
    (ap (λ n. drop n line) (sym e) ∙ sym (drop-drop (end - from) from line))
    ∙ take-append-drop (end - from) (drop from line)

pub no_fields : fields_of [] ≡ []
unfolding fields_of
no_fields = refl

run_cases : (line : List ℕ) (from end : ℕ)
    → IsRun line from end
    → from < end
    → (end < length line) ⊎ (length line ≤ end)
    → fields_of (drop from line) ≡ take (end - from) (drop from line) ∷ fields_of (drop end line)
run_cases line from end h some (inr ended) =
    let all : take (end - from) (drop from line) ≡ drop from line =
    take_all (end - from) (drop from line) (omega (arith, length-drop from line)) in
    let left : 0 < length (drop from line) = simp length-drop (omega (arith, h.within)) in
    let bytes : All (λ b. is_blank b ≡ false) (drop from line) =
    let P : List ℕ → Type 0 = λ bs. All (λ b. is_blank b ≡ false) bs in
    subst P all (run_bytes line from end h) in
    whole_run (drop from line) left bytes ∙ rw (all, drop_all end line ended, no_fields)
run_cases line from end h some (inl more) =
    let run = take (end - from) (drop from line) in
    let left : 0 < length run = simp (length-take, length-drop) (omega (arith, h.within)) in
    ap fields_of (sym (run_and_rest line from end h.after) ∙ ap (λ bs. run ++ bs) (drop_more line end 0 more))
    ∙ ended_run run (get_or line end 0) (drop (end + 1) line) left (run_bytes line from end h) (h.ended more)
    ∙ ap (λ bs. run ∷ fields_of bs) (sym (drop_more line end 0 more))

-- a run that isn't empty is the first field from its start on
pub run_step : (line : List ℕ) (from end : ℕ)
    → IsRun line from end
    → from < end
    → fields_of (drop from line) ≡ take (end - from) (drop from line) ∷ fields_of (drop end line)
run_step line from end h some = run_cases line from end h some (cases_lt end (length line))

past_the_end : (a p q : Bool) → (a && false && p && q) ≡ false
past_the_end true p q = refl
past_the_end false p q = refl

blank_before : (a b q : Bool) → (a && b && false && q) ≡ false
blank_before true true q = refl
blank_before true false q = refl
blank_before false b q = refl

blank_there : (a b p : Bool) → (a && b && p && false) ≡ false
blank_there true true true = refl
blank_there true true false = refl
blank_there true false p = refl
blank_there false b p = refl

-- where no field runs on, the fields are those of what is left
pub fields_left : (line : List ℕ) (at : ℕ) → runs_on line at ≡ false → fields_from line at ≡ fields_of (drop at line)
unfolding fields_from
fields_left line at e = simp e

-- at the end of a run no field runs on
pub run_closes : (line : List ℕ) (from end : ℕ) → IsRun line from end → runs_on line end ≡ false
run_closes line from end h =
    elim (cases_lt end (length line)) [
      | inl more ↦
          let e = h.ended more in
          simp e (blank_there (nat_lt 0 end) (nat_lt end (length line)) (not (is_blank (get_or line (end - 1) 0))))
      | inr past ↦
          let e : nat_lt end (length line) ≡ false = grind (arith, nat_tests) in
          simp e (past_the_end (nat_lt 0 end) (not (is_blank (get_or line (end - 1) 0))) (not (is_blank (get_or line end 0))))
    ]

-- behind a space or a tab, and at the start, no field runs on
pub blank_closes : (line : List ℕ) (at : ℕ) → is_blank (get_or line (at - 1) 0) ≡ true → runs_on line at ≡ false
blank_closes line at e =
    simp e (blank_before (nat_lt 0 at) (nat_lt at (length line)) (not (is_blank (get_or line at 0))))

-- a field that runs on goes, and those behind it are left
pub run_goes : (line : List ℕ) (from end : ℕ)
    → IsRun line from end
    → 0 < from
    → is_blank (get_or line (from - 1) 0) ≡ false
    → fields_from line from ≡ fields_of (drop end line)
unfolding fields_from
run_goes line from end h some before =
    elim (cases_lt from end) [
      | inl more ↦
          let first : nat_lt 0 from ≡ true = grind (arith, nat_tests) in
          let inside : nat_lt from (length line) ≡ true = grind (arith, nat_tests, h.within) in
          let there = h.run from (omega arith) more in
          simp (first, inside, before, there, run_step line from end h more)
      | inr none ↦
          let same : from ≡ end = omega (arith, h.after) in
          let P : ℕ → Type 0 = λ n. fields_from line n ≡ fields_of (drop end line) in
          subst P (sym same) (fields_left line end (run_closes line from end h))
    ]

-- at the start of a line no field runs on
pub start_closes : (line : List ℕ) (at : ℕ) → at ≤ 0 → runs_on line at ≡ false
start_closes line at h =
    let e : at ≡ 0 = omega arith in
    let P : ℕ → Type 0 = λ n. runs_on line n ≡ false in
    subst P (sym e) refl

-- the first of the fields that begin at or after `from`, and those behind it
pub first_and_rest : (line : List ℕ) (from left start end : ℕ)
    → fields_from line from ≡ fields_of (drop left line)
    → fields_of (drop left line) ≡ fields_of (drop start line)
    → IsRun line start end
    → start < end
    → fields_from line from ≡ take (end - start) (drop start line) ∷ fields_from line end
first_and_rest line from left start end opened skipped run some =
    opened ∙ skipped ∙ run_step line start end run some
    ∙ ap (λ fields. take (end - start) (drop start line) ∷ fields) (sym (fields_left line end (run_closes line start end run)))

-- a run from a byte that is neither a space nor a tab isn't empty
pub some_run : (line : List ℕ) (start end : ℕ)
    → IsRun line start end
    → start < length line
    → is_blank (get_or line start 0) ≡ false
    → start < end
some_run line start end run within e =
    elim (cases_lt start end) [
      | inl some ↦ some
      | inr none ↦
          let same : start ≡ end = omega (arith, run.after) in
          let P : ℕ → Type 0 = λ n. is_blank (get_or line n 0) ≡ false in
          absurd (false≢true (sym (subst P same e) ∙ run.ended (omega arith)))
    ]

-- past the last byte there are no fields
pub none_left : (line : List ℕ) (from left start : ℕ)
    → fields_from line from ≡ fields_of (drop left line)
    → fields_of (drop left line) ≡ fields_of (drop start line)
    → length line ≤ start
    → fields_from line from ≡ []
none_left line from left start opened skipped past =
    opened ∙ skipped ∙ ap fields_of (drop_all start line past) ∙ no_fields

-- all fields of a line begin at or after its start
pub all_fields : (line : List ℕ) → fields_from line 0 ≡ fields_of line
all_fields line = fields_left line 0 refl
