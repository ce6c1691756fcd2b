-- The walk from a half-edge comes back to it. The half-edges after 0, 1, 2 .. steps are half-edges of the
-- drawing; if the walk weren't back after as many steps as there are half-edges, all of them would differ,
-- since two that are one come from one, step by step back to the first; but there are one more than
-- half-edges.
use Rattle.std.proofs.Common.{◌≡◌, ◌≢◌, refl, sym, ap, subst, ◌∙◌, ℕ, zero, suc, ◌+◌, ◌-◌, ◌<◌, ◌≤◌, arith}
use Rattle.std.proofs.Common.{Bool, true, false, not, true≢false, List, length, get_or, Contains}
use Rattle.std.specs.List.{IsDistinct, list_any, prefix_len}
use Rattle.std.proofs.lemmas.Cmp.{eq_by_cmp_equiv}
use Rattle.std.proofs.lemmas.Bool.{false_from_ne_true}
use Rattle.std.proofs.lemmas.List.{length-take-le, get_or-take}
use Rattle.std.proofs.lemmas.List.Sums.{prefix_len-le-length, prefix_len_passes, prefix_len_stops}
use Rattle.std.proofs.lemmas.Map.Keys.{IsDistinct-from_apart}
use Rattle.std.proofs.lemmas.Map.Made.{length-le_from_is_member}
use Rattle.std.proofs.lemmas.Map.Views.{Contains-from_any, list_any-from_Contains}
use Rattle.grid_core.specs.Edge.{EdgeEnds}
use Rattle.grid_core.specs.Contours.{HalfEdge, half_edges, half_edge_eq, next, steps_after, walk}
use Rattle.std.specs.Prelude.{option_map, Some}
use Rattle.std.proofs.lemmas.Option.{slice_get-get_or}
use Rattle.face_trace.specs.Laws.{ComesBack}
use Rattle.face_trace.proofs.HalfEdgeLists.{half_decides, half_total}
use Rattle.face_trace.proofs.NextAround.{next_is_half_edge, next_is_one_to_one}

module _ (es : List EdgeEnds) where
  -- the half-edge n steps after h
  pub after : HalfEdge → ℕ → HalfEdge
  after h zero = h
  after h (suc n) = after (next es h) n

  -- one step more
  pub after_next : (h : HalfEdge) (n : ℕ) → after h (suc n) ≡ next es (after h n)
  unfolding after
  after_next h zero = refl
  after_next h (suc n) = after_next (next es h) n

  pub after_start : (h : HalfEdge) → after h 0 ≡ h
  unfolding after
  after_start h = refl

  -- the n half-edges after h
  step_at : (n k : ℕ) (h d : HalfEdge) → k < n → get_or (steps_after es n h) k d ≡ after h (suc k)
  unfolding after steps_after
  step_at zero k h d l = absurd (omega (arith, l))
  step_at (suc n) zero h d l = refl
  step_at (suc n) (suc k) h d l = step_at n k (next es h) d (omega (arith, l))

  count_steps : (n : ℕ) (h : HalfEdge) → length (steps_after es n h) ≡ n
  unfolding steps_after
  count_steps zero h = refl
  count_steps (suc n) h = let rest = count_steps n (next es h) in omega (arith, rest)

  -- all are half-edges of the drawing
  pub after_member : (h : HalfEdge) (n : ℕ) → Contains (half_edges es) h → Contains (half_edges es) (after h n)
  unfolding after
  after_member h zero c = c
  after_member h (suc n) c = after_member (next es h) n (next_is_half_edge es h c)

  -- two that are one come from one, back to the first
  back : (h : HalfEdge) (m n : ℕ) → Contains (half_edges es) h → after h (m + n) ≡ after h m → after h n ≡ h
  back h zero n c e = ap (after h) (zero_plus n) ∙ e ∙ after_start h
    where
      zero_plus : (k : ℕ) → k ≡ 0 + k
      zero_plus k = omega arith
  back h (suc m) n c e =
      back h m n c
      (next_is_one_to_one es (after h (m + n)) (after h m) (after_member h (m + n) c) (after_member h m c)
      (sym (after_next h (m + n)) ∙ ap (after h) (suc_plus m n) ∙ e ∙ after_next h m))
    where
      suc_plus : (j k : ℕ) → suc (j + k) ≡ suc j + k
      suc_plus j k = omega arith

  -- w is the orbit of h: the half-edges after 0, 1, 2 .. steps, each once, and then h again
  pub record IsOrbit (h : HalfEdge) (w : List HalfEdge) : Type 0 where
    pub some : 0 < length w
    pub at : (k : ℕ) (d : HalfEdge) → k < length w → get_or w k d ≡ after h k
    pub once : (i j : ℕ) → i < j → j < length w → after h i ≢ after h j
    pub comes_back : after h (length w) ≡ h

  -- the walk from a half-edge of the drawing is its orbit
  pub walk_is_orbit : (h : HalfEdge) → Contains (half_edges es) h → IsOrbit h (walk es h)
  walk_is_orbit h c =
      record {
        some = omega arith;
        at = at;
        once = λ i j k l. once i j k (omega (arith, l, count));
        comes_back = ap (after h) count ∙ sym (step_at n m h h short) ∙ last;
      }
    where
      n : ℕ
      n = length (half_edges es)

      test : HalfEdge → Bool
      test g = not (half_edge_eq g h)

      m : ℕ
      m = prefix_len test (steps_after es n h)

      within : m ≤ n
      within = omega (arith, prefix_len-le-length test (steps_after es n h), count_steps n h)

      count : length (walk es h) ≡ suc m
      count = let e = length-take-le m (steps_after es n h) (omega (arith, within, count_steps n h)) in omega (arith, e)

      at : (k : ℕ) (d : HalfEdge) → k < length (walk es h) → get_or (walk es h) k d ≡ after h k
      at zero d l = sym (after_start h)
      at (suc k) d l =
          get_or-take m (steps_after es n h) k d (omega (arith, l, count))
          ∙ step_at n k h d (omega (arith, l, count, within))

      -- none of the first m steps is back
      away : (k : ℕ) → k < m → after h (suc k) ≢ h
      away k l e =
          let passes : not (half_edge_eq (after h (suc k)) h) ≡ true =
          ap (λ g. not (half_edge_eq g h)) (sym (step_at n k h h (omega (arith, l, within))))
          ∙ prefix_len_passes test (steps_after es n h) k h l in
          true≢false (sym passes ∙ ap not ((half_decides (after h (suc k)) h).1 e))

      once : (i j : ℕ) → i < j → j < suc m → after h i ≢ after h j
      once i j k l e = by (j - i) (omega arith) (omega arith)
        where
          by : (p : ℕ) → i + p ≡ j → 0 < p → ⊥
          by zero q r = omega (arith, r)
          by (suc p) q r = away p (omega (arith, q, l, k)) (back h i (suc p) c (ap (after h) q ∙ sym e))

      apart : IsDistinct half_edge_eq (walk es h)
      apart = IsDistinct-from_apart half_edge_eq (walk es h)
          (λ i j d k l. false_from_ne_true _ (λ t. once i j k (omega (arith, l, count))
          (sym (at i d (omega (arith, k, l))) ∙ (half_decides _ _).0 t ∙ at j d l)))

      inside : (q : HalfEdge) → list_any (half_edge_eq q) (walk es h) ≡ true
          → list_any (half_edge_eq q) (half_edges es) ≡ true
      inside q t =
          let k = Contains-from_any (λ x y e. (half_decides x y).0 e) q (walk es h) t in
          list_any-from_Contains (eq_by_cmp_equiv half_total) q (half_edges es)
          (subst (Contains (half_edges es)) (sym (at k.0 q k.1) ∙ k.2) (after_member h k.0 c))

      short : m < n
      short =
          let fits = length-le_from_is_member (eq_by_cmp_equiv half_total) (walk es h) (half_edges es) apart inside in
          omega (arith, fits, count)

      turned : (b : Bool) → not b ≡ false → b ≡ true
      turned true e = refl
      turned false e = absurd (true≢false e)

      last : get_or (steps_after es n h) m h ≡ h
      last = (half_decides _ _).0 (turned (half_edge_eq (get_or (steps_after es n h) m h) h)
          (prefix_len_stops test (steps_after es n h) h (omega (arith, short, count_steps n h))))

  -- the orbit as the law tells it
  pub comes_back : (h : HalfEdge) → Contains (half_edges es) h → ComesBack es h
  comes_back h c =
      let orbit = walk_is_orbit h c in
      record {
        begins = refl;
        goes_on = λ k l.
            slice_get-get_or (walk es h) (k + 1) h l
            ∙ ap Some (orbit.at (k + 1) h l ∙ ap (after h) (one_more k) ∙ after_next h k
            ∙ ap (next es) (sym (orbit.at k h (omega (arith, l)))))
            ∙ sym (ap (option_map (next es)) (slice_get-get_or (walk es h) k h (omega (arith, l))));
        once = IsDistinct-from_apart half_edge_eq (walk es h)
            (λ i j d k l. false_from_ne_true _ (λ t. orbit.once i j k l
            (sym (orbit.at i d (omega (arith, k, l))) ∙ (half_decides _ _).0 t ∙ orbit.at j d l)));
        comes_back =
            ap (option_map (next es)) (slice_get-get_or (walk es h) (length (walk es h) - 1) h (omega (arith, orbit.some)))
            ∙ ap Some (ap (next es) (orbit.at (length (walk es h) - 1) h (omega (arith, orbit.some)))
            ∙ sym (after_next h (length (walk es h) - 1))
            ∙ ap (after h) (last_more (length (walk es h)) orbit.some)
            ∙ orbit.comes_back);
      }
    where
      one_more : (n : ℕ) → n + 1 ≡ suc n
      one_more n = omega arith

      last_more : (n : ℕ) → 0 < n → suc (n - 1) ≡ n
      last_more n l = omega arith
