-- Lists that stand one behind the other in one list: the one at an index, and one more.
-- Each law goes by induction on the ends, with the rest of the one list behind the first end.
use Rattle.std.proofs.Common.{◌≡◌, refl, ap, sym, ◌∙◌, ℕ, zero, suc, ◌+◌, ◌-◌, ◌<◌, ◌≤◌, arith, List, [], ◌∷◌, ◌++◌, length, get_or, take, drop, length-append, length-drop, subst, zero-add, inl, inr}
use Rattle.std.specs.Prelude.{sum_by, ◌⊎◌}
use Rattle.std.proofs.lemmas.List.{take-append-le, drop-append-le, drop-drop, take_all, length-take}
use Rattle.std.proofs.lemmas.List.Sums.{sum_by-cons}
use Rattle.hot_tile.specs.Rows.{cut, AreEnds, start_at}

-- the ends don't come before the first
pub ends_rise : (from : ℕ) (es : List ℕ) (n : ℕ) → AreEnds from es n → from ≤ n
ends_rise from [] n h = omega (arith, h)
ends_rise from (e ∷ es) n h = omega (arith, h.0, ends_rise e es n h.1)

-- an end is one of the numbers between
pub end_within : (from : ℕ) (es : List ℕ) (n i : ℕ) → AreEnds from es n → i < length es
    → (from ≤ get_or es i 0) × (get_or es i 0 ≤ n)
end_within from [] n i h lt = absurd (omega arith)
end_within from (e ∷ es) n zero h lt = (h.0, ends_rise e es n h.1)
end_within from (e ∷ es) n (suc i) h lt =
    let rest = end_within e es n i h.1 (omega (arith, lt)) in (omega (arith, h.0, rest.0), rest.1)

-- there is a list for each end
pub length-cut : (from : ℕ) (es ws : List ℕ) → length (cut from es ws) ≡ length es
length-cut from [] ws = refl
length-cut from (e ∷ es) ws = ap suc (length-cut e es (drop (e - from) ws))

-- together they have all numbers
pub sum-cut : (from : ℕ) (es ws : List ℕ) → AreEnds from es (from + length ws) → sum_by length (cut from es ws) ≡ length ws
sum-cut from [] ws h = omega (arith, h)
sum-cut from (e ∷ es) ws h =
    let top = ends_rise e es (from + length ws) h.1 in
    let same : from + length ws ≡ e + length (drop (e - from) ws) = omega (arith, top, h.0, length-drop (e - from) ws) in
    omega (
      arith,
      sum_by-cons length (take (e - from) ws) (cut e es (drop (e - from) ws)),
      sum-cut e es (drop (e - from) ws) (subst (AreEnds e es) same h.1),
      length-take (e - from) ws,
      length-drop (e - from) ws,
      top,
      h.0,
    )

-- the start of a list behind the first
pub start_before : (from e : ℕ) (es : List ℕ) (n i : ℕ) → from ≤ e → AreEnds e es n → i < suc (length es)
    → (start_at from (e ∷ es) (suc i) ≡ start_at e es i) × (e ≤ start_at e es i)
start_before from e es n zero h a lt = (refl, omega arith)
start_before from e es n (suc i) h a lt = (refl, (end_within e es n i a (omega (arith, lt))).0)

-- the list at an index stands between the end before it and its own
pub row_read : (from : ℕ) (es ws : List ℕ) (i : ℕ) → AreEnds from es (from + length ws) → i < length es
    → get_or (cut from es ws) i [] ≡ take (get_or es i 0 - start_at from es i) (drop (start_at from es i - from) ws)
row_read from [] ws i h lt = absurd (omega arith)
row_read from (e ∷ es) ws zero h lt =
    let none : from - from ≡ 0 = omega arith in
    sym (ap (λ k. take (e - from) (drop k ws)) none)
row_read from (e ∷ es) ws (suc i) h lt =
    let top = ends_rise e es (from + length ws) h.1 in
    let same : from + length ws ≡ e + length (drop (e - from) ws) = omega (arith, top, h.0, length-drop (e - from) ws) in
    let lt' : i < suc (length es) = omega (arith, lt) in
    let first = start_before from e es (from + length ws) i h.0 h.1 lt' in
    let further : (e - from) + (start_at e es i - e) ≡ start_at from (e ∷ es) (suc i) - from =
    omega (arith, first.0, first.1, h.0) in
    row_read e es (drop (e - from) ws) i (subst (AreEnds e es) same h.1) (omega (arith, lt))
    ∙ ap (take (get_or es i 0 - start_at e es i)) (drop-drop (start_at e es i - e) (e - from) ws)
    ∙ ap (λ k. take (get_or es i 0 - start_at e es i) (drop k ws)) further
    ∙ ap (λ k. take (get_or es i 0 - k) (drop (start_at from (e ∷ es) (suc i) - from) ws)) (sym first.0)

pub nothing : (ws : List ℕ) → length ws ≡ 0 → ws ≡ []
nothing [] e = refl
nothing (w ∷ ws) e = absurd (omega (arith, e))

-- a list more behind the others
pub row_pushed : (from : ℕ) (es ws r : List ℕ) (n m : ℕ) → AreEnds from es n → n ≡ from + length ws
    → m ≡ from + length (ws ++ r) → cut from (es ++ m ∷ []) (ws ++ r) ≡ cut from es ws ++ r ∷ []
row_pushed from [] ws r n m h e f =
    let none : length ws ≡ 0 = omega (arith, h, e) in
    let bare : ws ≡ [] = nothing ws none in
    let whole : m - from ≡ length r = omega (arith, f, length-append ws r, none) in
    ap (λ us. us ∷ []) (ap (λ us. take (m - from) (us ++ r)) bare ∙ take_all (m - from) r (omega (arith, whole)))
row_pushed from (x ∷ es) ws r n m h e f =
    let top = ends_rise x es n h.1 in
    let within : x - from ≤ length ws = omega (arith, top, e) in
    let rest = row_pushed x es (drop (x - from) ws) r n m h.1 (omega (arith, e, top, h.0, length-drop (x - from) ws))
    (omega (arith, f, top, e, h.0, length-append ws r, length-append (drop (x - from) ws) r, length-drop (x - from) ws)) in
    (λ k. take-append-le (x - from) ws r within k ∷ cut x (es ++ m ∷ []) (drop-append-le (x - from) ws r within k))
    ∙ ap (λ us. take (x - from) ws ∷ us) rest

-- its end is an end more
pub end_pushed : (from : ℕ) (es : List ℕ) (n m : ℕ) → AreEnds from es n → n ≤ m → AreEnds from (es ++ m ∷ []) m
end_pushed from [] n m h le = (omega (arith, h, le), refl)
end_pushed from (e ∷ es) n m h le = (h.0, end_pushed e es n m h.1 le)

-- ---- from the beginning

ends_in_order : (from : ℕ) (es : List ℕ) (n i : ℕ) → AreEnds from es n → suc i < length es → get_or es i 0 ≤ get_or es (suc i) 0
ends_in_order from [] n i h lt = absurd (omega (arith, lt))
ends_in_order from (e ∷ es) n zero h lt = (end_within e es n 0 h.1 (omega (arith, lt))).0
ends_in_order from (e ∷ es) n (suc i) h lt = ends_in_order e es n i h.1 (omega (arith, lt))

-- the list at an index, by where it starts and stops
pub row_is : (es ws : List ℕ) (i start stop : ℕ) → AreEnds 0 es (length ws) → i < length es
    → ((i ≡ 0) × (start ≡ 0)) ⊎ ((i ≡ 0 → ⊥) × (start ≡ get_or es (i - 1) 0)) → stop ≡ get_or es i 0
    → (start ≤ stop) × (stop ≤ length ws) × (take (stop - start) (drop start ws) ≡ get_or (cut 0 es ws) i [])
row_is es ws zero start stop h lt (inl e) s =
    let ends = end_within 0 es (length ws) 0 h lt in
    let read = row_read 0 es ws 0 (subst (AreEnds 0 es) (sym (zero-add (length ws))) h) lt in (
      omega (arith, e.1),
      omega (arith, s, ends.1),
      (λ k. take (s k - e.1 k) (drop (e.1 k) ws)) ∙ sym read,
    )
row_is es ws zero start stop h lt (inr e) s = absurd (e.0 refl)
row_is es ws (suc i) start stop h lt (inl e) s = absurd (omega (arith, e.0))
row_is es ws (suc i) start stop h lt (inr e) s =
    let one : suc i - 1 ≡ i = omega arith in
    let before : start ≡ get_or es i 0 = e.1 ∙ ap (λ n. get_or es n 0) one in
    let ends = end_within 0 es (length ws) (suc i) h lt in
    let rises = ends_in_order 0 es (length ws) i h lt in
    let read = row_read 0 es ws (suc i) (subst (AreEnds 0 es) (sym (zero-add (length ws))) h) lt in
    let none : get_or es i 0 - 0 ≡ get_or es i 0 = omega arith in (
      omega (arith, before, s, rises),
      omega (arith, s, ends.1),
      (λ k. take (s k - before k) (drop (before k) ws)) ∙ ap (λ n. take (get_or es (suc i) 0 - get_or es i 0) (drop n ws)) (sym none)
          ∙ sym read,
    )

-- all lists together
pub total_length : (es ws : List ℕ) → AreEnds 0 es (length ws) → sum_by length (cut 0 es ws) ≡ length ws
total_length es ws h = sum-cut 0 es ws (subst (AreEnds 0 es) (sym (zero-add (length ws))) h)

-- a list more
pub pushed : (es ws r : List ℕ) → AreEnds 0 es (length ws)
    → cut 0 (es ++ length (ws ++ r) ∷ []) (ws ++ r) ≡ cut 0 es ws ++ r ∷ []
pushed es ws r h =
    row_pushed 0 es ws r (length ws) (length (ws ++ r)) h (sym (zero-add (length ws))) (sym (zero-add (length (ws ++ r))))

pub pushed_ends : (es ws r : List ℕ) → AreEnds 0 es (length ws) → AreEnds 0 (es ++ length (ws ++ r) ∷ []) (length (ws ++ r))
pushed_ends es ws r h = end_pushed 0 es (length ws) (length (ws ++ r)) h (omega (arith, length-append ws r))
