-- What a buffer begins with, and what it began with before more was appended; three parts appended
-- one behind the other, and what the buffer begins with where the last failed.
use Rattle.std.proofs.Common.{◌≡◌, ◌++◌, ◌≤◌, List, ℕ, length, take, sym, ◌∙◌, ap, arith, length-append, append_assoc}
use Rattle.std.specs.Prelude.{Result, OnOk, OnErr}
use Rattle.std.proofs.lemmas.List.{take-take, take_at}
use Rattle.std.proofs.lemmas.Result.{on_ok_weaker, on_err_weaker}
use Rattle.seg_text.specs.Text.{BeginsWith}

-- bytes begin with a part of what they begin with
pub begins_less : (bytes longer front more : List ℕ)
    → longer ≡ front ++ more
    → BeginsWith bytes longer
    → BeginsWith bytes front
begins_less bytes longer front more e h =
    let shorter : length front ≤ length longer = simp (e, length-append) (omega arith) in
    record {
      begins =
          sym (take-take (length front) (length longer) bytes shorter)
          ∙ ap (take (length front)) (h.begins ∙ e)
          ∙ take_at front more (length front) (λ _. length front);
    }

-- the last of three parts was appended
pub in_three : {T E : Type 0} (r : Result T E) (old a one b two c new : List ℕ)
    → one ≡ old ++ a
    → two ≡ one ++ b
    → OnOk r (new ≡ two ++ c)
    → OnOk r (new ≡ old ++ (a ++ b ++ c))
in_three r old a one b two c new first second third =
    on_ok_weaker r (λ e. e ∙ simp (second, first, append_assoc)) third

-- the last of three parts failed
pub fails_in_three : {T E : Type 0} (r : Result T E) (old a one b two new : List ℕ)
    → one ≡ old ++ a
    → two ≡ one ++ b
    → OnErr r (BeginsWith new two)
    → OnErr r (BeginsWith new old)
fails_in_three r old a one b two new first second third =
    on_err_weaker r (λ h. begins_less new one old a first (begins_less new two one b second h)) third
