-- Rows that stand one behind the other: a run of them behind others.
-- A run is cut from its part of the list as it was from the whole, and its ends move by one number.
use Rattle.std.proofs.Common.{◌≡◌, refl, ap, sym, ◌∙◌, ℕ, zero, suc, ◌+◌, ◌-◌, ◌<◌, ◌≤◌, arith, List, [], ◌∷◌, ◌++◌, map, length, take, drop, length-append, length-drop, subst, zero-add}
use Rattle.std.specs.Prelude.{All}
use Rattle.std.specs.List.{AllByRecursion}
use Rattle.std.proofs.lemmas.List.Elements.{All-from_recursion}
use Rattle.std.proofs.lemmas.List.{take-append-le, drop-append-le, drop-drop, drop-take, get_or-drop, length-take}
use Rattle.hot_tile.specs.Rows.{cut, AreEnds, start_at}
use Rattle.hot_tile.proofs.RowLaws.{ends_rise, start_before, nothing}

-- ---- others behind

-- rows behind others are cut from where the first ended
pub cut-append : (from : ℕ) (es fs ws vs : List ℕ) → AreEnds from es (from + length ws)
    → cut from (es ++ fs) (ws ++ vs) ≡ cut from es ws ++ cut (from + length ws) fs vs
cut-append from [] fs ws vs h =
    let none : length ws ≡ 0 = omega (arith, h) in
    ap (λ us. cut from fs (us ++ vs)) (nothing ws none) ∙ ap (λ n. cut n fs vs) h
cut-append from (e ∷ es) fs ws vs h =
    let top = ends_rise e es (from + length ws) h.1 in
    let within : e - from ≤ length ws = omega (arith, top) in
    let same : from + length ws ≡ e + length (drop (e - from) ws) = omega (arith, top, h.0, length-drop (e - from) ws) in
    (λ k. take-append-le (e - from) ws vs within k ∷ cut e (es ++ fs) (drop-append-le (e - from) ws vs within k))
    ∙ ap (λ us. take (e - from) ws ∷ us)
    (cut-append e es fs (drop (e - from) ws) vs (subst (AreEnds e es) same h.1)
    ∙ ap (λ n. cut e es (drop (e - from) ws) ++ cut n fs vs) (sym same))

pub ends-append : (from : ℕ) (es fs : List ℕ) (n m : ℕ) → AreEnds from es n → AreEnds n fs m → AreEnds from (es ++ fs) m
ends-append from [] fs n m h k = subst (λ j. AreEnds j fs m) (sym h) k
ends-append from (e ∷ es) fs n m h k = (h.0, ends-append e es fs n m h.1 k)

-- ---- moved

-- the end of a row that began s further on, and begins b further on now
abbrev pub moved : ℕ → ℕ → ℕ → ℕ
moved b s e = b + (e - s)

pub cut_moved : (b s p : ℕ) (es ws : List ℕ) (n : ℕ) → s ≤ p → AreEnds p es n
    → cut (moved b s p) (map (moved b s) es) ws ≡ cut p es ws
cut_moved b s p [] ws n le h = refl
cut_moved b s p (e ∷ es) ws n le h =
    let same : moved b s e - moved b s p ≡ e - p = omega (arith, le, h.0) in
    (λ k. take (same k) ws ∷ cut (moved b s e) (map (moved b s) es) (drop (same k) ws))
    ∙ ap (λ us. take (e - p) ws ∷ us) (cut_moved b s e es (drop (e - p) ws) n (omega (arith, le, h.0)) h.1)

pub ends_moved : (b s p : ℕ) (es : List ℕ) (n : ℕ) → s ≤ p → AreEnds p es n
    → AreEnds (moved b s p) (map (moved b s) es) (moved b s n)
ends_moved b s p [] n le h = ap (moved b s) h
ends_moved b s p (e ∷ es) n le h = (omega (arith, le, h.0), ends_moved b s e es n (omega (arith, le, h.0)) h.1)

-- ---- a part

take-cut : (k p : ℕ) (es ws : List ℕ) → take k (cut p es ws) ≡ cut p (take k es) ws
take-cut zero p es ws = refl
take-cut (suc k) p [] ws = refl
take-cut (suc k) p (e ∷ es) ws = ap (λ us. take (e - p) ws ∷ us) (take-cut k e es (drop (e - p) ws))

drop-cut : (i p : ℕ) (es ws : List ℕ) (n : ℕ) → AreEnds p es n → i ≤ length es
    → (drop i (cut p es ws) ≡ cut (start_at p es i) (drop i es) (drop (start_at p es i - p) ws)) × (p ≤ start_at p es i)
drop-cut zero p es ws n h le =
    let none : p - p ≡ 0 = omega arith in (ap (λ k. cut p es (drop k ws)) (sym none), omega arith)
drop-cut (suc i) p [] ws n h le = absurd (omega (arith, le))
drop-cut (suc i) p (e ∷ es) ws n h le =
    let rest = drop-cut i e es (drop (e - p) ws) n h.1 (omega (arith, le)) in
    let first = (start_before p e es n i h.0 h.1 (omega (arith, le))).0 in
    let further : (e - p) + (start_at e es i - e) ≡ start_at e es i - p = omega (arith, rest.1, h.0) in (
      rest.0 ∙ ap (cut (start_at e es i) (drop i es)) (drop-drop (start_at e es i - e) (e - p) ws ∙ ap (λ k. drop k ws) further)
          ∙ ap (λ k. cut k (drop i es) (drop (k - p) ws)) (sym first),
      omega (arith, first, rest.1, h.0),
    )

ends_dropped : (i p : ℕ) (es : List ℕ) (n : ℕ) → AreEnds p es n → i ≤ length es → AreEnds (start_at p es i) (drop i es) n
ends_dropped zero p es n h le = h
ends_dropped (suc i) p [] n h le = absurd (omega (arith, le))
ends_dropped (suc i) p (e ∷ es) n h le =
    subst (λ k. AreEnds k (drop i es) n) (sym (start_before p e es n i h.0 h.1 (omega (arith, le))).0)
    (ends_dropped i e es n h.1 (omega (arith, le)))

ends_taken : (k p : ℕ) (es : List ℕ) (n : ℕ) → AreEnds p es n → k ≤ length es → AreEnds p (take k es) (start_at p es k)
ends_taken zero p es n h le = refl
ends_taken (suc k) p [] n h le = absurd (omega (arith, le))
ends_taken (suc k) p (e ∷ es) n h le =
    (h.0, subst (AreEnds e (take k es)) (sym (start_before p e es n k h.0 h.1 (omega (arith, le))).0) (ends_taken k e es n h.1 (omega (arith, le))))

-- rows up to an end are cut from what stands before it
cut_within : (p : ℕ) (es ws : List ℕ) (n : ℕ) → AreEnds p es n → cut p es (take (n - p) ws) ≡ cut p es ws
cut_within p [] ws n h = refl
cut_within p (e ∷ es) ws n h =
    let top = ends_rise e es n h.1 in
    let split : n - p ≡ (e - p) + (n - e) = omega (arith, top, h.0) in
    (λ k. take_first (e - p) (n - p) ws (omega (arith, top)) k ∷ cut e es (drop (e - p) (take (split k) ws)))
    ∙ ap (λ us. take (e - p) ws ∷ us) (ap (cut e es) (drop-take (e - p) (n - e) ws) ∙ cut_within e es (drop (e - p) ws) n h.1)
  where
    take_first : (k m : ℕ) (ws : List ℕ) → k ≤ m → take k (take m ws) ≡ take k ws
    take_first zero m ws le = refl
    take_first (suc k) zero ws le = absurd (omega (arith, le))
    take_first (suc k) (suc m) [] le = refl
    take_first (suc k) (suc m) (w ∷ ws) le = ap (λ us. w ∷ us) (take_first k m ws (omega (arith, le)))

-- the start of a row of a part
start_dropped : (p : ℕ) (es : List ℕ) (i k : ℕ) → start_at (start_at p es i) (drop i es) k ≡ start_at p es (i + k)
start_dropped p es i zero = ap (start_at p es) (omega arith)
start_dropped p es i (suc k) =
    let next : suc (i + k) ≡ i + suc k = omega arith in get_or-drop i es k 0 ∙ ap (start_at p es) next

pub between : (p : ℕ) (es : List ℕ) (n : ℕ) → AreEnds p es n → AllByRecursion (λ e. (p ≤ e) × (e ≤ n)) es
between p [] n h = tt
between p (e ∷ es) n h = ((h.0, ends_rise e es n h.1), lower es (between e es n h.1))
  where
    lower : (fs : List ℕ) → AllByRecursion (λ x. (e ≤ x) × (x ≤ n)) fs → AllByRecursion (λ x. (p ≤ x) × (x ≤ n)) fs
    lower [] a = tt
    lower (x ∷ fs) a = ((omega (arith, h.0, a.0.0), a.0.1), lower fs a.1)

-- ---- a run

-- rows from one index to another, of which the numbers stand from `start` to `stop`
module _ (fs vs : List ℕ) (from to : ℕ) (others : AreEnds 0 fs (length vs)) (order : from ≤ to) (within : to ≤ length fs) where
  abbrev start : ℕ
  start = start_at 0 fs from

  abbrev stop : ℕ
  stop = start_at 0 fs to

  abbrev gs : List ℕ
  gs = take (to - from) (drop from fs)

  pub stop_within : stop ≤ length vs
  stop_within = ends_rise stop (drop to fs) (length vs) (ends_dropped to 0 fs (length vs) others within)

  pub run_ends : AreEnds (start_at 0 fs from) (take (to - from) (drop from fs)) (start_at 0 fs to)
  run_ends =
      let there : from + (to - from) ≡ to = omega (arith, order) in
      subst (AreEnds start gs) (start_dropped 0 fs from (to - from) ∙ ap (start_at 0 fs) there)
      (ends_taken (to - from) start (drop from fs) (length vs) (ends_dropped from 0 fs (length vs) others (omega (arith, order, within)))
      (omega (arith, within, length-drop from fs)))

  pub start_before_stop : start ≤ stop
  start_before_stop = ends_rise start gs stop run_ends

  -- all its ends are behind its start
  pub run_behind : All (λ e. start_at 0 fs from ≤ e) (take (to - from) (drop from fs))
  run_behind = All-from_recursion (λ e. start ≤ e) gs (each gs (between start gs stop run_ends))
    where
      each : (es : List ℕ) → AllByRecursion (λ e. (start ≤ e) × (e ≤ stop)) es → AllByRecursion (λ e. start ≤ e) es
      each [] a = tt
      each (e ∷ es) a = (a.0.0, each es a.1)

  -- and none is moved past where the last is
  pub run_fits : (base n : ℕ) → base + (start_at 0 fs to - start_at 0 fs from) < n
      → All (λ e. base + (e - start_at 0 fs from) < n) (take (to - from) (drop from fs))
  run_fits base n lt = All-from_recursion (λ e. base + (e - start) < n) gs (each gs (between start gs stop run_ends))
    where
      each : (es : List ℕ) → AllByRecursion (λ e. (start ≤ e) × (e ≤ stop)) es → AllByRecursion (λ e. base + (e - start) < n) es
      each [] a = tt
      each (e ∷ es) a = (omega (arith, lt, a.0.0, a.0.1), each es a.1)

  module _ (es ws : List ℕ) (h : AreEnds 0 es (length ws)) where
    abbrev b : ℕ
    b = length ws

    abbrev run : List ℕ
    run = take (stop - start) (drop start vs)

    pub run_whole : length (ws ++ take (start_at 0 fs to - start_at 0 fs from) (drop (start_at 0 fs from) vs))
        ≡ length ws + (start_at 0 fs to - start_at 0 fs from)
    run_whole =
        omega (
          arith,
          length-append ws run,
          length-take (stop - start) (drop start vs),
          length-drop start vs,
          start_before_stop,
          stop_within,
        )

    -- the rows of a run behind others
    pub run_pushed : cut 0 (es ++ map (λ e. length ws + (e - start_at 0 fs from)) (take (to - from) (drop from fs)))
        (ws ++ take (start_at 0 fs to - start_at 0 fs from) (drop (start_at 0 fs from) vs))
        ≡ cut 0 es ws ++ take (to - from) (drop from (cut 0 fs vs))
    run_pushed =
        let first : 0 + b ≡ moved b start start = omega arith in
        let whole : start - 0 ≡ start = omega arith in
        cut-append 0 es (map (moved b start) gs) ws run (subst (AreEnds 0 es) (sym (zero-add b)) h)
        ∙ ap (λ us. cut 0 es ws ++ us)
        (ap (λ n. cut n (map (moved b start) gs) run) first
        ∙ cut_moved b start start gs run stop (omega arith) run_ends
        ∙ cut_within start gs (drop start vs) stop run_ends
        ∙ sym (take-cut (to - from) start (drop from fs) (drop start vs))
        ∙ ap (take (to - from))
        (ap (λ n. cut start (drop from fs) (drop n vs)) (sym whole)
        ∙ sym (drop-cut from 0 fs vs (length vs) others (omega (arith, order, within))).0))

    pub run_pushed_ends : AreEnds 0 (es ++ map (λ e. length ws + (e - start_at 0 fs from)) (take (to - from) (drop from fs)))
        (length (ws ++ take (start_at 0 fs to - start_at 0 fs from) (drop (start_at 0 fs from) vs)))
    run_pushed_ends =
        let first : moved b start start ≡ b = omega arith in
        ends-append 0 es (map (moved b start) gs) b (length (ws ++ run)) h
        (subst (λ n. AreEnds n (map (moved b start) gs) (length (ws ++ run))) first
        (subst (AreEnds (moved b start start) (map (moved b start) gs)) (sym run_whole)
        (ends_moved b start start gs stop (omega arith) run_ends)))

-- a run of rows, by where its numbers start and stop
pub record IsRun (fs vs : List ℕ) (from to start stop : ℕ) : Type 0 where
  pub others : AreEnds 0 fs (length vs)
  pub order : from ≤ to
  pub within : to ≤ length fs
  pub starts : start ≡ start_at 0 fs from
  pub stops : stop ≡ start_at 0 fs to

module _ {fs vs : List ℕ} {from to start stop : ℕ} (r : IsRun fs vs from to start stop) where
  pub rises : (start ≤ stop) × (stop ≤ length vs)
  rises =
      let a = start_before_stop fs vs from to r.others r.order r.within in
      let b = stop_within fs vs from to r.others r.order r.within in
      (omega (arith, a, r.starts, r.stops), omega (arith, b, r.stops))

  pub behind : All (λ e. start ≤ e) (take (to - from) (drop from fs))
  behind = subst (λ n. All (λ e. n ≤ e) (take (to - from) (drop from fs))) (sym r.starts) (run_behind fs vs from to r.others r.order r.within)

  pub fits : (base n : ℕ) → base + (stop - start) < n → All (λ e. base + (e - start) < n) (take (to - from) (drop from fs))
  fits base n lt =
      subst (λ k. All (λ e. base + (e - k) < n) (take (to - from) (drop from fs))) (sym r.starts)
      (run_fits fs vs from to r.others r.order r.within base n (omega (arith, lt, r.starts, r.stops)))

  module _ (es ws : List ℕ) (h : AreEnds 0 es (length ws)) where
    pub put_behind : cut 0 (es ++ map (λ e. length ws + (e - start)) (take (to - from) (drop from fs))) (ws ++ take (stop - start) (drop start vs))
        ≡ cut 0 es ws ++ take (to - from) (drop from (cut 0 fs vs))
    put_behind =
        (λ k. cut 0 (es ++ map (λ e. length ws + (e - r.starts k)) (take (to - from) (drop from fs)))
        (ws ++ take (r.stops k - r.starts k) (drop (r.starts k) vs)))
        ∙ run_pushed fs vs from to r.others r.order r.within es ws h

    pub ends_put_behind : AreEnds 0 (es ++ map (λ e. length ws + (e - start)) (take (to - from) (drop from fs)))
        (length (ws ++ take (stop - start) (drop start vs)))
    ends_put_behind =
        subst (λ (p : ℕ × ℕ). AreEnds 0 (es ++ map (λ e. length ws + (e - p.0)) (take (to - from) (drop from fs)))
        (length (ws ++ take (p.1 - p.0) (drop p.0 vs)))) (λ k. (sym r.starts k, sym r.stops k))
        (run_pushed_ends fs vs from to r.others r.order r.within es ws h)
