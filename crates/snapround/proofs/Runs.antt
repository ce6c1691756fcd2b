-- The loop over the lines of an input. What was written so far, and the texts that answer the lines that are left, are
-- the whole output; so at each end of the loop a front of the output was written, or all of it.
use Rattle.std.proofs.Common.{◌≡◌, ℕ, ◌+◌, ◌<◌, ◌≤◌, min, Bool, false, ◌||◌, List, [], ◌∷◌, ◌++◌, length, drop, slice_range, Option, refl, sym, ap, ◌∙◌, subst, arith, append_assoc, append-nil, eq-zero-or-pos, ◌⊎◌, inl, inr}
use Rattle.std.specs.List.{list_any}
use Rattle.std.proofs.Math.Bool.{or_assoc, or-false}
use Rattle.std.proofs.lemmas.List.{take_all, take_min, take-append-le, drop_all}
use Rattle.std.specs.Io.KnownBytes.{Appends}
use Rattle.std.proofs.KnownBytes.{Appends-nil, Appends-trans}
use Rattle.io_ports.specs.Transfers.{WritesPrefix}
use Rattle.io_ports.proofs.Pieces.{prefix_more}
use Rattle.script_read.specs.Lines.{NumberedLine, IsLineSpan, lines_of, line_of, numbered_from}
use Rattle.session_core.specs.Machine.{State, start}
use Rattle.session_core.specs.World.{WorldState}
use Rattle.session_core.specs.Output.{after_line, line_text, texts, is_bad, output, has_bad_line}
use Rattle.snapround.specs.Play.{sizes}

-- the lines from place `from` of the input on; `number` lines stand before them
abbrev pub lines_left : List ℕ → ℕ → ℕ → List NumberedLine
lines_left input number from = numbered_from (number + 1) (lines_of (drop from input))

-- some of the lines are bad
abbrev pub some_bad_of : List NumberedLine → Bool
some_bad_of ls = list_any (λ l. is_bad l.line) ls

-- `number` lines were answered, those before place `from`, and `some` says whether one of them was bad
pub record IsAnswered (input : List ℕ) (w : WorldState) (number from : ℕ) (some : Bool) (old new : Option (List ℕ)) : Type 0 where
  pub sized : w.profile ≡ sizes
  pub counted : number ≤ from
  pub within : from ≤ length input
  pub replied : (done : List ℕ) × Appends old new done × (output sizes input ≡ done ++ texts sizes w.state (lines_left input number from))
  pub bad : has_bad_line input ≡ (some || some_bad_of (lines_left input number from))

-- nothing is answered yet
pub begins : (input : List ℕ) (w : WorldState) (k : Option (List ℕ))
    → w ≡ record { profile = sizes; state = start }
    → IsAnswered input w 0 0 false k k
begins input w k e =
    subst (λ x. IsAnswered input x 0 0 false k k) (sym e) (record {
      sized = refl;
      counted = omega arith;
      within = omega arith;
      replied = ([], Appends-nil k, refl);
      bad = refl;
    })

-- the first of some lines is answered, and then the others
first_answered : (st : State) (l : NumberedLine) (ls : List NumberedLine)
    → texts sizes st (l ∷ ls) ≡ line_text sizes st l.number l.line ++ texts sizes (after_line sizes st l.line) ls
unfolding texts
first_answered st l ls = refl

-- what is left is answered by a text for the next line, and texts for the lines behind it
next_answered : {input : List ℕ} {w : WorldState} {number from : ℕ} {some : Bool} {old new : Option (List ℕ)} (end next : ℕ) (text : List ℕ)
    → (h : IsAnswered input w number from some old new)
    → lines_of (drop from input) ≡ slice_range input from end ∷ lines_of (drop next input)
    → text ≡ line_text w.profile w.state (number + 1) (line_of (slice_range input from end))
    → output sizes input ≡ (h.replied.0 ++ text) ++ texts sizes (after_line sizes w.state (line_of (slice_range input from end))) (lines_left input (number + 1) next)
next_answered {input} {w} {number} {from} end next text h lines is_text =
    let line = line_of (slice_range input from end) in
    let further = texts sizes (after_line sizes w.state line) (lines_left input (number + 1) next) in
    let numbered : lines_left input number from ≡ record { number = number + 1; line = line } ∷ lines_left input (number + 1) next =
    ap (numbered_from (number + 1)) lines in
    let same : text ≡ line_text sizes w.state (number + 1) line = is_text ∙ ap (λ pr. line_text pr w.state (number + 1) line) h.sized in
    let split : texts sizes w.state (lines_left input number from) ≡ text ++ further =
    ap (texts sizes w.state) numbered
    ∙ first_answered w.state (record { number = number + 1; line = line }) (lines_left input (number + 1) next)
    ∙ ap (λ t. t ++ further) (sym same) in
    h.replied.2 ∙ ap (λ l. h.replied.0 ++ l) split ∙ sym (append_assoc h.replied.0 text further)

-- the text that answers the next line was written
pub goes_on : {input : List ℕ} {w : WorldState} {number from : ℕ} {some : Bool} {old mid : Option (List ℕ)} (new : Option (List ℕ)) (w' : WorldState) (end next : ℕ) (text : List ℕ) (bad : Bool)
    → IsAnswered input w number from some old mid
    → lines_of (drop from input) ≡ slice_range input from end ∷ lines_of (drop next input)
    → IsLineSpan input from end next
    → w'.profile ≡ w.profile
    → w'.state ≡ after_line w.profile w.state (line_of (slice_range input from end))
    → text ≡ line_text w.profile w.state (number + 1) (line_of (slice_range input from end))
    → bad ≡ is_bad (line_of (slice_range input from end))
    → Appends mid new text
    → IsAnswered input w' (number + 1) next (some || bad) old new
goes_on {input} {w} {number} {from} {some} {old} {mid} new w' end next text bad h lines span profile state is_text bad_line p =
    let line = line_of (slice_range input from end) in
    let left = lines_left input (number + 1) next in
    let after : w'.state ≡ after_line sizes w.state line = state ∙ ap (λ pr. after_line pr w.state line) h.sized in
    let numbered : lines_left input number from ≡ record { number = number + 1; line = line } ∷ left = ap (numbered_from (number + 1)) lines in
    let bads : has_bad_line input ≡ (some || bad || some_bad_of left) =
    h.bad
    ∙ ap (λ ls. some || some_bad_of ls) numbered
    ∙ ap (λ b. some || (b || some_bad_of left)) (sym bad_line)
    ∙ sym (or_assoc some bad (some_bad_of left)) in
    record {
      sized = profile ∙ h.sized;
      counted = omega (arith, h.counted, span.more);
      within = span.within;
      replied = (
        h.replied.0 ++ text,
        Appends-trans old mid new h.replied.0 text h.replied.1 p,
        next_answered end next text h lines is_text ∙ ap (λ st. (h.replied.0 ++ text) ++ texts sizes st left) (sym after),
      );
      bad = bads;
    }

-- a front of a list is a front of a longer one
prefix_longer : (old new : Option (List ℕ)) (bs more : List ℕ)
    → WritesPrefix old new bs
    → WritesPrefix old new (bs ++ more)
prefix_longer old new bs more p =
    (min p.0 (length bs), subst (Appends old new) (sym (take-append-le (min p.0 (length bs)) bs more (omega arith) ∙ take_min p.0 bs)) p.1)

-- a prefix of the text that answers the next line was written
pub fails : {input : List ℕ} {w : WorldState} {number from : ℕ} {some : Bool} {old mid : Option (List ℕ)} (new : Option (List ℕ)) (end next : ℕ) (text : List ℕ)
    → IsAnswered input w number from some old mid
    → lines_of (drop from input) ≡ slice_range input from end ∷ lines_of (drop next input)
    → text ≡ line_text w.profile w.state (number + 1) (line_of (slice_range input from end))
    → WritesPrefix mid new text
    → WritesPrefix old new (output sizes input)
fails {input} {w} {number} {from} {some} {old} {mid} new end next text h lines is_text p =
    let further = texts sizes (after_line sizes w.state (line_of (slice_range input from end))) (lines_left input (number + 1) next) in
    subst (WritesPrefix old new) (sym (next_answered end next text h lines is_text)) (prefix_longer old new (h.replied.0 ++ text) further (prefix_more old mid new h.replied.0 text h.replied.1 p))

-- nothing was written of the text that answers the next line
pub stops : {input : List ℕ} {w : WorldState} {number from : ℕ} {some : Bool} {old new : Option (List ℕ)}
    → IsAnswered input w number from some old new
    → WritesPrefix old new (output sizes input)
stops {input} {w} {number} {from} {some} {old} {new} h =
    let done = h.replied.0 in
    let front : WritesPrefix old new done = (length done, subst (Appends old new) (sym (take_all (length done) done (omega arith))) h.replied.1) in
    subst (WritesPrefix old new) (sym h.replied.2) (prefix_longer old new done (texts sizes w.state (lines_left input number from)) front)

none_left : (st : State) (n : ℕ) → (texts sizes st (numbered_from n (lines_of [])) ≡ []) × (some_bad_of (numbered_from n (lines_of [])) ≡ false)
unfolding texts lines_of
none_left st n = (refl, refl)

-- no line is left
pub ends : {input : List ℕ} {w : WorldState} {number from : ℕ} {some : Bool} {old new : Option (List ℕ)}
    → IsAnswered input w number from some old new
    → from ≡ length input
    → Appends old new (output sizes input) × (some ≡ has_bad_line input)
ends {input} {w} {number} {from} {some} {old} {new} h end =
    let done = h.replied.0 in
    let empty : drop from input ≡ [] = drop_all from input (omega (arith, end)) in
    let none = none_left w.state (number + 1) in
    let all : output sizes input ≡ done =
    h.replied.2
    ∙ ap (λ bs. done ++ texts sizes w.state (numbered_from (number + 1) (lines_of bs))) empty
    ∙ ap (λ l. done ++ l) none.0
    ∙ append-nil done in
    let bads : has_bad_line input ≡ some =
    h.bad
    ∙ ap (λ bs. some || some_bad_of (numbered_from (number + 1) (lines_of bs))) empty
    ∙ ap (λ b. some || b) none.1
    ∙ or-false some in
    (subst (Appends old new) (sym all) h.replied.1, sym bads)

-- where n bytes were handed on, or none and nothing is changed, a sink that was open is open
pub open_after : {K : Type 0} (shut : K → Bool) (n : ℕ) (old new : K)
    → (0 < n → shut new ≡ false)
    → (n ≡ 0 → new ≡ old)
    → shut old ≡ false
    → shut new ≡ false
open_after shut n old new some none was =
    elim (eq-zero-or-pos n) [
      | inl empty ↦ ap shut (none empty) ∙ was
      | inr more ↦ some more
    ]

-- no fault was counted before, and none at a call that didn't fail
pub still_none : {F : Type 0} (first old new : ℕ) → (F → ⊥) → F ⊎ (new ≡ old) → old ≡ first → new ≡ first
still_none first old new never (inr same) e = same ∙ e
still_none first old new never (inl failed) e = absurd (never failed)
