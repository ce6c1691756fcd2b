-- The lines of an input: the first ends at the first line feed, and without one there is one line.
-- Both are proved by induction on the bytes.
use Rattle.std.proofs.Common.{◌≡◌, ℕ, ◌+◌, ◌-◌, ◌<◌, ◌≤◌, ◌==◌, nat_lt, Bool, true, false, cond, not, subst, List, [], ◌∷◌, length, take, drop, Option, Some, None, position, refl, sym, ap, ◌∙◌, arith, one-add}
use Rattle.std.specs.List.{position_or_len, onto_first}
use Rattle.std.proofs.lemmas.Option.{cond_some}
use Rattle.std.proofs.lemmas.Bool.Decides.{nat_tests}
use Rattle.std.proofs.lemmas.List.{take_rest, drop_all, drop-drop}
use Rattle.std.proofs.lemmas.List.Sums.{position_or_len_is}
use Rattle.memchr.specs.Find.{IsFirstByte, is_byte}
use Rattle.script_read.specs.Lines.{lines_of}

-- where the first line feed stands, or the length
abbrev line_len : List ℕ → ℕ
line_len bs = position_or_len (λ b. b == 10) bs

no_lines : lines_of [] ≡ []
unfolding lines_of
no_lines = refl

step : (b : ℕ) (bs : List ℕ) → lines_of (b ∷ bs) ≡ cond (b == 10) ([] ∷ lines_of bs) (onto_first b (lines_of bs))
unfolding lines_of
step b bs = refl

-- one byte more in front, which is a line feed or isn't
ended_step : (feed : Bool) (b n : ℕ) (bs : List ℕ)
    → (n < length bs → lines_of bs ≡ take n bs ∷ lines_of (drop (n + 1) bs))
    → cond (not feed) (1 + n) 0 < length (b ∷ bs)
    → cond feed ([] ∷ lines_of bs) (onto_first b (lines_of bs))
    ≡ take (cond (not feed) (1 + n) 0) (b ∷ bs) ∷ lines_of (drop (cond (not feed) (1 + n) 0 + 1) (b ∷ bs))
ended_step true b n bs h k = refl
ended_step false b n bs h k =
    let within : n < length bs = omega arith in
    let e : 1 + n + 1 ≡ 1 + (n + 1) = omega arith in
    let front : take (1 + n) (b ∷ bs) ≡ b ∷ take n bs = rw one-add in
    let back : drop (1 + n + 1) (b ∷ bs) ≡ drop (n + 1) bs = rw (e, one-add) in
    ap (onto_first b) (h within) ∙ rw (front, back)

ended : (bs : List ℕ)
    → line_len bs < length bs
    → lines_of bs ≡ take (line_len bs) bs ∷ lines_of (drop (line_len bs + 1) bs)
ended [] h = absurd (omega arith)
ended (b ∷ bs) h = step b bs ∙ ended_step (b == 10) b (line_len bs) bs (ended bs) h

-- one byte more in front, where the rest is one line or empty
last_step : (feed : Bool) (b : ℕ) (bs : List ℕ)
    → (length bs ≤ line_len bs → onto_first b (lines_of bs) ≡ (b ∷ bs) ∷ [])
    → length (b ∷ bs) ≤ cond (not feed) (1 + line_len bs) 0
    → cond feed ([] ∷ lines_of bs) (onto_first b (lines_of bs)) ≡ (b ∷ bs) ∷ []
last_step true b bs h k = absurd (omega arith)
last_step false b bs h k = h (omega arith)

in_front_of_last : (b : ℕ) (bs : List ℕ) → length bs ≤ line_len bs → onto_first b (lines_of bs) ≡ (b ∷ bs) ∷ []
in_front_of_last b [] h = ap (onto_first b) no_lines
in_front_of_last b (c ∷ cs) h =
    ap (onto_first b) (step c cs ∙ last_step (c == 10) c cs (in_front_of_last c cs) h)

-- the first line ends at the first line feed
line_ended : (bs : List ℕ) (i : ℕ)
    → position (λ b. b == 10) bs ≡ Some i
    → lines_of bs ≡ take i bs ∷ lines_of (drop (i + 1) bs)
line_ended bs i h =
    let n = line_len bs in
    let found = cond_some (nat_lt n (length bs)) n i h in
    let within : n < length bs = grind (arith, nat_tests, found.0) in
    let P : ℕ → Type 0 = λ k. lines_of bs ≡ take k bs ∷ lines_of (drop (k + 1) bs) in
    subst P found.1 (ended bs within)

never_found : (found : Bool) (n : ℕ) → cond found (Some n) None ≡ None → found ≡ false
never_found true n h = cc
never_found false n h = refl

-- bytes without a line feed are one line
line_alone : (bs : List ℕ)
    → 0 < length bs
    → position (λ b. b == 10) bs ≡ None
    → lines_of bs ≡ bs ∷ []
line_alone [] h k = absurd (omega arith)
line_alone (b ∷ bs) h k =
    let n = line_len (b ∷ bs) in
    let missed = never_found (nat_lt n (length (b ∷ bs))) n k in
    let past : length (b ∷ bs) ≤ line_len (b ∷ bs) = grind (arith, nat_tests, missed) in
    step b bs ∙ last_step (b == 10) b bs (in_front_of_last b bs) past

-- of what is left of an input from `from` on, the first line ends at the first line feed
pub first_line : (input : List ℕ) (from i : ℕ)
    → Some i ≡ position (λ b. b == 10) (drop from input)
    → lines_of (drop from input) ≡ take (from + i - from) (drop from input) ∷ lines_of (drop (from + i + 1) input)
first_line input from i found =
    let len : from + i - from ≡ i = omega arith in
    let next : from + (i + 1) ≡ from + i + 1 = omega arith in
    let rest : drop (i + 1) (drop from input) ≡ drop (from + i + 1) input =
    drop-drop (i + 1) from input ∙ ap (λ n. drop n input) next in
    line_ended (drop from input) i (sym found) ∙ rw (len, rest)

-- what is left of an input without a line feed is its last line
pub last_line : (input : List ℕ) (from : ℕ)
    → 0 < length (drop from input)
    → None ≡ position (λ b. b == 10) (drop from input)
    → lines_of (drop from input) ≡ take (length input - from) (drop from input) ∷ lines_of (drop (length input) input)
last_line input from some missed =
    let none : drop (length input) input ≡ [] = drop_all (length input) input (omega arith) in
    line_alone (drop from input) some (sym missed) ∙ rw (take_rest input from, none, no_lines)

-- what isn't true is false
not_true : (b : Bool) → ¬ (b ≡ true) → b ≡ false
not_true true h = absurd (h refl)
not_true false h = refl

-- the first place whose byte is a line feed, as a position
pub feed_position : (bs : List ℕ) (r : Option ℕ)
    → IsFirstByte (is_byte 10) bs r
    → r ≡ position (λ b. b == 10) bs
feed_position bs None none =
    let p : ℕ → Bool = λ b. b == 10 in
    let len = position_or_len_is p bs (length bs) 0 (omega arith) (λ k within. not_true _ (none k (omega arith) within)) (λ within. absurd (omega arith)) in
    let past : nat_lt (length bs) (length bs) ≡ false = grind (arith, nat_tests) in
    rw (len, past)
feed_position bs (Some i) found =
    let p : ℕ → Bool = λ b. b == 10 in
    let len = position_or_len_is p bs i 0 (omega (arith, found.0.high)) (λ k before. not_true _ (found.0.before k (omega arith) before)) (λ _. found.1) in
    let within : nat_lt i (length bs) ≡ true = grind (arith, nat_tests, found.0.high) in
    rw (len, within)
