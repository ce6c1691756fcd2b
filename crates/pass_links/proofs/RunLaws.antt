-- A run of pixels linked one behind the other: after i of them, what is left of the run, put behind the
-- last one that was linked, gives the list that the whole run gives.
use Rattle.std.proofs.Common.{◌≡◌, refl, ap, sym, ◌∙◌, subst, ℕ, ◌+◌, Bool, true, false, cond, ◌||◌, true≢false, List, [], ◌∷◌, ◌++◌, append-nil, take, drop, Option, None, Some}
use Rattle.std.proofs.lemmas.Bool.{or_parts}
use Rattle.grid_core.specs.declared.point.Point.{Point}
use Rattle.grid_core.specs.Vector.{point_eq}
use Rattle.grid_core.specs.Name.{Label, label_eq}
use Rattle.pass_links.specs.Passes.{PassLists, pixels_of, names_at, has_pixel, put_behind, linked_behind, put_run, run_behind, AreFresh, with_name}
use Rattle.pass_links.specs.declared.node.Node.{Node}
use Rattle.pass_links.specs.Chain.{IsPlace}
use Rattle.pass_links.specs.Node.{along_at, name_at, pixel_at}
use Rattle.pass_links.specs.Lists.{pixels_from, names_from}
use Rattle.pass_links.specs.Positions.{IsThrough}
use Rattle.pass_links.specs.Filing.{AreFiled, AreLonger}
use Rattle.std.proofs.Math.Bool.{or-false}
use Rattle.grid_core.proofs.Comparisons.{itself, point_decides}
use Rattle.std.proofs.lemmas.List.Folds.{list_any-append}
use Rattle.pass_links.proofs.LinkedLaws.{has_linked}

-- ---- lists

-- no run
run_none : (last : Option Point) (ps : List Point) → run_behind last [] ps ≡ ps
run_none None ps = refl
run_none (Some a) [] = refl
run_none (Some a) (p ∷ ps) = by (run_none (Some a) ps) (point_eq a p)
  where
    by : put_run a [] ps ≡ ps → (b : Bool) → cond b (p ∷ ps) (p ∷ put_run a [] ps) ≡ p ∷ ps
    by rest true = refl
    by rest false = ap (λ l. p ∷ l) rest

-- a run put behind the first of the list
run_first : (p : Point) (run ps : List Point) → put_run p run (p ∷ ps) ≡ p ∷ (run ++ ps)
run_first p run ps = ap (λ b. cond b (p ∷ (run ++ ps)) (p ∷ put_run p run ps)) (itself point_eq point_decides p)

-- the first of a run linked, and the others behind it
run_step : (last : Option Point) (p : Point) (run ps : List Point) → has_pixel ps p ≡ false
    → run_behind last (p ∷ run) ps ≡ run_behind (Some p) run (linked_behind last p ps)
run_step None p run ps fresh = sym (run_first p run ps)
run_step (Some a) p run [] fresh = ap (λ l. p ∷ l) (sym (append-nil run)) ∙ sym (run_first p run [])
run_step (Some a) p run (q ∷ ps) fresh = by (run_step (Some a) p run ps (or_parts (point_eq p q) (has_pixel ps p) fresh).1) (point_eq a q)
  where
    apart : (point_eq p q ≡ false) × (has_pixel ps p ≡ false)
    apart = or_parts (point_eq p q) (has_pixel ps p) fresh

    past : (rs : List Point) → put_run p run (q ∷ rs) ≡ q ∷ put_run p run rs
    past rs = ap (λ b. cond b (q ∷ (run ++ rs)) (q ∷ put_run p run rs)) apart.0

    by : run_behind (Some a) (p ∷ run) ps ≡ run_behind (Some p) run (linked_behind (Some a) p ps) → (b : Bool)
        → cond b (q ∷ ((p ∷ run) ++ ps)) (q ∷ put_run a (p ∷ run) ps) ≡ put_run p run (cond b (q ∷ p ∷ ps) (q ∷ put_behind a p ps))
    by rest true = ap (λ l. q ∷ l) (sym (run_first p run ps)) ∙ sym (past (p ∷ ps))
    by rest false = ap (λ l. q ∷ l) rest ∙ sym (past (put_behind a p ps))

-- two pixels that are two, the other way round
turned : (p q : Point) → point_eq p q ≡ false → point_eq q p ≡ false
turned p q e = by (point_eq q p) refl
  where
    by : (b : Bool) → point_eq q p ≡ b → b ≡ false
    by true t = absurd (true≢false (sym ((point_decides p q).1 (sym ((point_decides q p).0 t))) ∙ e))
    by false t = refl

-- the others are still fresh once the first is linked
fresh_step : (last : Option Point) (p : Point) (run ps : List Point) → has_pixel run p ≡ false → AreFresh run ps → AreFresh run (linked_behind last p ps)
fresh_step last p [] ps apart h = tt
fresh_step last p (q ∷ run) ps apart h =
    let parts = or_parts (point_eq p q) (has_pixel run p) apart in
    (has_linked q last p ps ∙ ap (λ b. b || has_pixel ps q) (turned p q parts.0) ∙ h.0, h.1, fresh_step last p run ps parts.1 h.2)

-- ---- a run that is being linked

-- so many of the run's pixels are linked
pub record LinksRun (name : Label) (after : Option Point) (run : List Point) (old : PassLists) (i : ℕ) (slots : List (Option Node))
    (start : Label → ℕ) (start' : Point → ℕ) (before : Option ℕ) (at : ℕ) : Type 0 where
  pub lists : AreFiled slots start start'
  pub place : IsPlace (along_at slots) start (name_at slots) name before at
  pub last : Option Point
  pub through : IsThrough (pixel_at slots) last before
  pub segment : run_behind last (drop i run) (pixels_from slots (start name)) ≡ run_behind after run (pixels_of old name)
  pub segments : (n : Label) → label_eq n name ≡ false → pixels_from slots (start n) ≡ pixels_of old n
  pub here : (p : Point) → has_pixel (take i run) p ≡ true → names_from slots (start' p) ≡ with_name name (names_at old p)
  pub others : (p : Point) → has_pixel (take i run) p ≡ false → names_from slots (start' p) ≡ names_at old p
  pub linked : (p : Point) → has_pixel (take i run) p ≡ true → has_pixel (pixels_from slots (start name)) p ≡ true
  pub fresh : AreFresh (drop i run) (pixels_from slots (start name))

module _ (name : Label) (after : Option Point) (run : List Point) (old : PassLists) where
  -- none yet
  pub run_begun : (slots : List (Option Node)) (start : Label → ℕ) (start' : Point → ℕ) (before : Option ℕ) (at : ℕ) → AreFiled slots start start'
      → IsPlace (along_at slots) start (name_at slots) name before at → IsThrough (pixel_at slots) after before
      → ((n : Label) → pixels_of old n ≡ pixels_from slots (start n)) → ((p : Point) → names_at old p ≡ names_from slots (start' p))
      → AreFresh run (pixels_of old name) → LinksRun name after run old 0 slots start start' before at
  run_begun slots start start' before at lists place through was had fresh = record {
    lists = lists;
    place = place;
    last = after;
    through = through;
    segment = ap (run_behind after run) (sym (was name));
    segments = λ n apart. sym (was n);
    here = λ p e. absurd (true≢false (sym e));
    others = λ p e. sym (had p);
    linked = λ p e. absurd (true≢false (sym e));
    fresh = subst (AreFresh run) (was name) fresh;
  }

  -- one more
  pub run_more : {i : ℕ} {slots slots' : List (Option Node)} {start next : Label → ℕ} {start' next' : Point → ℕ} {before : Option ℕ} {at : ℕ} (pixel : Point) (key : ℕ)
      → LinksRun name after run old i slots start start' before at → drop i run ≡ pixel ∷ drop (i + 1) run → take (i + 1) run ≡ take i run ++ pixel ∷ []
      → ((last : Option Point) → IsThrough (pixel_at slots) last before → AreLonger slots slots' start next start' next' name pixel last)
      → IsPlace (along_at slots') next (name_at slots') name (Some key) at → pixel_at slots' key ≡ Some pixel
      → LinksRun name after run old (i + 1) slots' next next' (Some key) at
  run_more {i} {slots} {slots'} {start} {next} {start'} {next'} pixel key h left taken longer place through = record {
    lists = more.filed;
    place = place;
    last = Some pixel;
    through = (key, refl, through);
    segment =
        ap (run_behind (Some pixel) (drop (i + 1) run)) more.segment
        ∙ sym (run_step h.last pixel (drop (i + 1) run) (pixels_from slots (start name)) fresh.0)
        ∙ ap (λ ps. run_behind h.last ps (pixels_from slots (start name))) (sym left) ∙ h.segment;
    segments = λ n apart. more.segments n apart ∙ h.segments n apart;
    here = λ p e. here p (point_eq p pixel) refl (sym (has_more p) ∙ e);
    others = λ p e. others p (or_parts (has_pixel (take i run) p) (point_eq p pixel) (sym (has_more p) ∙ e));
    linked = λ p e. linked p (point_eq p pixel) refl (sym (has_more p) ∙ e);
    fresh =
        subst (AreFresh (drop (i + 1) run)) (sym more.segment)
        (fresh_step h.last pixel (drop (i + 1) run) (pixels_from slots (start name)) fresh.1 fresh.2);
  }
    where
      more : AreLonger slots slots' start next start' next' name pixel h.last
      more = longer h.last h.through

      fresh : AreFresh (pixel ∷ drop (i + 1) run) (pixels_from slots (start name))
      fresh = subst (λ ps. AreFresh ps (pixels_from slots (start name))) left h.fresh

      has_more : (p : Point) → has_pixel (take (i + 1) run) p ≡ (has_pixel (take i run) p || point_eq p pixel)
      has_more p = ap (λ ps. has_pixel ps p) taken ∙ list_any-append (point_eq p) (take i run) (pixel ∷ []) ∙ ap (λ b. has_pixel (take i run) p || b) (or-false (point_eq p pixel))

      -- the pixel wasn't among those before
      new : has_pixel (take i run) pixel ≡ false
      new = by (has_pixel (take i run) pixel) refl
        where
          by : (b : Bool) → has_pixel (take i run) pixel ≡ b → b ≡ false
          by true e = absurd (true≢false (sym (h.linked pixel e) ∙ fresh.0))
          by false e = refl

      here : (p : Point) (b : Bool) → point_eq p pixel ≡ b → (has_pixel (take i run) p || b) ≡ true → names_from slots' (next' p) ≡ with_name name (names_at old p)
      here p true e _ =
          let same : p ≡ pixel = (point_decides p pixel).0 e in
          ap (λ q. names_from slots' (next' q)) same ∙ more.here ∙ ap (with_name name) (h.others pixel new) ∙ ap (λ q. with_name name (names_at old q)) (sym same)
      here p false e t = more.pixels p e ∙ h.here p (sym (or-false (has_pixel (take i run) p)) ∙ t)

      others : (p : Point) → (has_pixel (take i run) p ≡ false) × (point_eq p pixel ≡ false) → names_from slots' (next' p) ≡ names_at old p
      others p apart = more.pixels p apart.1 ∙ h.others p apart.0

      linked : (p : Point) (b : Bool) → point_eq p pixel ≡ b → (has_pixel (take i run) p || b) ≡ true → has_pixel (pixels_from slots' (next name)) p ≡ true
      linked p b e t =
          ap (λ ps. has_pixel ps p) more.segment ∙ has_linked p h.last pixel (pixels_from slots (start name)) ∙ ap (λ c. c || has_pixel (pixels_from slots (start name)) p) e ∙ by b t
        where
          by : (b : Bool) → (has_pixel (take i run) p || b) ≡ true → (b || has_pixel (pixels_from slots (start name)) p) ≡ true
          by true t = refl
          by false t = h.linked p (sym (or-false (has_pixel (take i run) p)) ∙ t)

  -- all of them
  pub run_linked : {i : ℕ} {slots : List (Option Node)} {start : Label → ℕ} {start' : Point → ℕ} {before : Option ℕ} {at : ℕ}
      → LinksRun name after run old i slots start start' before at → drop i run ≡ [] → pixels_from slots (start name) ≡ run_behind after run (pixels_of old name)
  run_linked {slots = slots} {start = start} h done =
      sym (ap (λ ps. run_behind h.last ps (pixels_from slots (start name))) done ∙ run_none h.last (pixels_from slots (start name))) ∙ h.segment
