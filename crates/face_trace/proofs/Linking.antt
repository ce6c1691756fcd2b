-- From the spokes, clockwise around their starts, to the next of each half-edge.
-- The spoke behind another of its start, or the first where there is none, ends in the neighbour that
-- follows: what lies between two points around a start lies between their spokes.
use Rattle.std.proofs.Common.{◌≡◌, refl, sym, ap, subst, ◌∙◌, ℕ, ◌+◌, ◌-◌, ◌<◌, arith, ◌⊎◌, inl, inr}
use Rattle.std.proofs.Common.{List, length, get_or, Contains}
use Rattle.std.proofs.Common.{Some, Ordering, Less, Equal, Greater}
use Rattle.std.specs.Prelude.{slice_get, slice_index, option_map}
use Rattle.std.specs.Ordering.{ordering_then}
use Rattle.std.proofs.lemmas.Cmp.{tied_itself}
use Rattle.std.proofs.lemmas.List.{get_or-map, length-map, get_or_default}
use Rattle.std.proofs.lemmas.List.Elements.{All-get_or}
use Rattle.std.proofs.lemmas.Map.Keys.{Less-from_sorted}
use Rattle.std.proofs.lemmas.Option.{slice_get-get_or, get_or_from_slice_get, slice_get_within, same_Some}
use Rattle.grid_core.specs.declared.point.Point.{Point}
use Rattle.grid_core.specs.Vector.{point_cmp}
use Rattle.grid_core.specs.Edge.{EdgeEnds}
use Rattle.grid_core.specs.Contours.{HalfEdge, half_edges, twin, around_cmp, around, next_around, next}
use Rattle.grid_core.proofs.Order.{point_total, point_exact}
use Rattle.face_trace.specs.declared.spokes.Spoke.{Spoke}
use Rattle.face_trace.specs.HalfEdge.{spoke_cmp, twin_number}
use Rattle.face_trace.specs.Spokes.{AreSpokes, halves_of, IsLast, IsFirst, Follows, IsEntry, AreNexts}
use Rattle.face_trace.proofs.AroundOrder.{spoke_total}
use Rattle.face_trace.proofs.HalfEdgeLists.{twin_at, twin_within, twin_twice}
use Rattle.face_trace.proofs.NextAround.{to_half_edge, from_half_edge, next_is_after, next_is_first, earlier}

-- ---- spokes of one start

-- half-edges of one start are ordered by their ends around it
same_start : (g h : HalfEdge) → g.origin ≡ h.origin → spoke_cmp g h ≡ around_cmp g.origin g.target h.target
same_start g h e =
    ap (λ o. ordering_then o (around_cmp g.origin g.target h.target))
    (ap (point_cmp g.origin) (sym e) ∙ tied_itself point_total g.origin)

start_less : (o r : Ordering) → ordering_then o r ≡ Less → (o ≡ Less) ⊎ (o ≡ Equal)
start_less Less r e = inl refl
start_less Equal r e = inr refl
start_less Greater r e = absurd (cc e)

-- what lies between half-edges of one start has that start
between_one_start : (f g h : HalfEdge) → spoke_cmp f g ≡ Less → spoke_cmp g h ≡ Less → f.origin ≡ h.origin
    → g.origin ≡ f.origin
between_one_start f g h p q e =
    by (start_less (point_cmp f.origin g.origin) (around_cmp f.origin f.target g.target) p)
    (start_less (point_cmp g.origin h.origin) (around_cmp g.origin g.target h.target) q)
  where
    by : (point_cmp f.origin g.origin ≡ Less) ⊎ (point_cmp f.origin g.origin ≡ Equal)
        → (point_cmp g.origin h.origin ≡ Less) ⊎ (point_cmp g.origin h.origin ≡ Equal)
        → g.origin ≡ f.origin
    by (inr m) n = sym (point_exact f.origin g.origin m)
    by (inl m) (inr n) = point_exact g.origin h.origin n ∙ sym e
    by (inl m) (inl n) =
        let less : point_cmp f.origin f.origin ≡ Less = ap (point_cmp f.origin) e ∙ point_total.trans f.origin g.origin h.origin m n in
        absurd (cc (less, tied_itself point_total f.origin))

module _ (es : List EdgeEnds) (ss : List Spoke) (spokes : AreSpokes (half_edges es) ss) (d : Spoke) where
  abbrev half : ℕ → HalfEdge
  half k = (get_or ss k d).half

  half_at : (k : ℕ) → k < length ss → get_or (halves_of ss) k d.half ≡ half k
  half_at k l = get_or-map (λ (s : Spoke). s.half) ss k d d.half l

  count : length (halves_of ss) ≡ length ss
  count = length-map ss (λ (s : Spoke). s.half)

  -- spokes further on are greater
  up : (j k : ℕ) → j < k → k < length ss → spoke_cmp (half j) (half k) ≡ Less
  up j k l m =
      (λ i. spoke_cmp (sym (half_at j (omega (arith, l, m))) i) (sym (half_at k m) i))
      ∙ Less-from_sorted spoke_cmp (halves_of ss) j k d.half spokes.clockwise l (omega (arith, m, count))

  -- and the greater are further on
  up_from : (j k : ℕ) → j < length ss → k < length ss → spoke_cmp (half j) (half k) ≡ Less → j < k
  up_from j k l m e =
      earlier spoke_total (halves_of ss) j k d.half spokes.clockwise (omega (arith, l, count)) (omega (arith, m, count))
      ((λ i. spoke_cmp (half_at j l i) (half_at k m i)) ∙ e)

  -- the half-edge at k has the number that its spoke tells
  numbered : (k : ℕ) → k < length ss → slice_get (half_edges es) (get_or ss k d).number ≡ Some (half k)
  numbered k l = All-get_or (λ s. slice_get (half_edges es) s.number ≡ Some s.half) ss k d l spokes.numbered

  member : (k : ℕ) → k < length ss → Contains (half_edges es) (half k)
  member k l =
      let e = numbered k l in
      ((get_or ss k d).number, slice_get_within (half_edges es) _ (half k) e, get_or_from_slice_get (half_edges es) _ (half k) (half k) e)

  -- each half-edge has a spoke
  spoke_of : (h : HalfEdge) → Contains (half_edges es) h → (k : ℕ) × (k < length ss) × (half k ≡ h)
  spoke_of h c =
      let a = spokes.complete c.0 c.1 in
      let at : get_or ss a.0 d ≡ a.1 = get_or_default ss a.0 d a.1 a.2 ∙ a.3 in
      let number : (get_or ss a.0 d).number ≡ c.0 = ap (λ (s : Spoke). s.number) at ∙ a.4 in (
        a.0,
        a.2,
        same_Some (half a.0) h (sym (numbered a.0 a.2) ∙ ap (slice_get (half_edges es)) number
            ∙ slice_get-get_or (half_edges es) c.0 h c.1 ∙ ap Some c.2),
      )

  -- a neighbour of the start of the spoke at p has a spoke there too
  spoke_to : (p : ℕ) (x : Point) → p < length ss → Contains (around es (half p).origin) x
      → (k : ℕ) × (k < length ss) × (half k ≡ record { origin = (half p).origin; target = x })
  spoke_to p x l c =
      spoke_of (record { origin = (half p).origin; target = x }) (to_half_edge es (half p).origin x c)

  -- the end of the spoke that follows is the neighbour that follows
  pub follower_is : (p q : ℕ) → Follows ss p q
      → next_around es (half p).origin (half p).target ≡ (half q).target
  follower_is p q f = by f.follows
    where
      v : Point
      v = (half p).origin

      u : Point
      u = (half p).target

      w : Point
      w = (half q).target

      one : (half p).origin ≡ (half q).origin
      one = f.one_start d

      in_u : Contains (around es v) u
      in_u = from_half_edge es v u (member p f.first_within)

      in_w : Contains (around es v) w
      in_w = from_half_edge es v w
          (subst (λ o. Contains (half_edges es) (record { origin = o; target = w })) (sym one) (member q f.second_within))

      -- u before x around v, where x's spoke is at k
      after_u : (x : Point) (k : ℕ) → k < length ss → half k ≡ record { origin = v; target = x }
          → around_cmp v u x ≡ Less → p < k
      after_u x k l e less =
          up_from p k f.first_within l
          (ap (spoke_cmp (half p)) e ∙ same_start (half p) (record { origin = v; target = x }) refl ∙ less)

      before_w : (x : Point) (k : ℕ) → k < length ss → half k ≡ record { origin = v; target = x }
          → around_cmp v x w ≡ Less → k < q
      before_w x k l e less =
          up_from k q l f.second_within
          (ap (λ g. spoke_cmp g (half q)) e ∙ same_start (record { origin = v; target = x }) (half q) one ∙ less)

      by : (q ≡ p + 1) ⊎ (IsLast ss p × IsFirst ss q) → next_around es v u ≡ w
      by (inl e) =
          next_is_after es v u w in_u in_w
          (sym (same_start (half p) (half q) one) ∙ up p q (omega (arith, e)) f.second_within)
          (λ x c less more.
          let k = spoke_to p x f.first_within c in
          let low = after_u x k.0 k.1 k.2 less in
          let high = before_w x k.0 k.1 k.2 more in
          omega (arith, e, low, high))
      by (inr ends) =
          next_is_first es v u w in_u in_w
          (λ x c less.
          let k = spoke_to p x f.first_within c in
          no_later k.0 k.1 (ap (λ (h : HalfEdge). h.origin) k.2) (after_u x k.0 k.1 k.2 less) ends.0)
          (λ x c less.
          let k = spoke_to p x f.first_within c in
          no_earlier k.0 k.1 (ap (λ (h : HalfEdge). h.origin) k.2) (before_w x k.0 k.1 k.2 less) ends.1)
        where
          next_or_further : (m n : ℕ) → m < n → (n ≡ m + 1) ⊎ (m + 1 < n)
          next_or_further m n l = grind arith

          no_later : (k : ℕ) → k < length ss → (half k).origin ≡ v → p < k → IsLast ss p → ⊥
          no_later k l e more last = at (next_or_further p k more)
            where
              fits : p + 1 < length ss
              fits = omega (arith, more, l)

              at : (k ≡ p + 1) ⊎ (p + 1 < k) → ⊥
              at (inl n) = last fits d (ap (λ j. (half j).origin) (sym n) ∙ e)
              at (inr n) =
                  last fits d
                  (between_one_start (half p) (half (p + 1)) (half k) (up p (p + 1) (omega arith) fits)
                  (up (p + 1) k n l) (sym e))

          no_earlier : (k : ℕ) → k < length ss → (half k).origin ≡ v → k < q → IsFirst ss q → ⊥
          no_earlier k l e less first = at (next_or_further k q less)
            where
              some : 0 < q
              some = omega (arith, less)

              before : (j : ℕ) → q ≡ j + 1 → q - 1 ≡ j
              before j r = omega (arith, r)

              at : (q ≡ k + 1) ⊎ (k + 1 < q) → ⊥
              at (inl n) = first some d (ap (λ j. (half j).origin) (before k n) ∙ e ∙ one)
              at (inr n) =
                  first some d
                  (between_one_start (half k) (half (q - 1)) (half q) (up k (q - 1) (omega (arith, n)) (omega (arith, n, f.second_within)))
                  (up (q - 1) q (omega (arith, some)) f.second_within) (e ∙ one)
                  ∙ e ∙ one)

  -- the link of each half-edge leads to its next
  pub linked : (nexts : List ℕ) → AreNexts ss nexts → (n : ℕ) → n < length (half_edges es)
      → slice_get (half_edges es) (slice_index nexts n) ≡ option_map (next es) (slice_get (half_edges es) n)
  linked nexts made n l =
      let a = spokes.complete (twin_number n) (twin_within es n l) in
      let at : get_or ss a.0 d ≡ a.1 = get_or_default ss a.0 d a.1 a.2 ∙ a.3 in
      let number : (get_or ss a.0 d).number ≡ twin_number n = ap (λ (s : Spoke). s.number) at ∙ a.4 in
      let index : twin_number (get_or ss a.0 d).number ≡ n = ap twin_number number ∙ twin_twice n in
      let entry : IsEntry ss nexts n = subst (IsEntry ss nexts) index (made.linked a.0 a.2 d) in
      by entry (twin_number_is entry)
    where
      twin_number_is : (e : IsEntry ss nexts n) → (get_or ss e.p d).number ≡ twin_number n
      twin_number_is e = sym (twin_twice (get_or ss e.p d).number) ∙ ap twin_number (e.twin d)

      by : (e : IsEntry ss nexts n) → (get_or ss e.p d).number ≡ twin_number n
          → slice_get (half_edges es) (slice_index nexts n) ≡ option_map (next es) (slice_get (half_edges es) n)
      by e number =
          let p = e.p in
          let q = e.q in
          let h = get_or (half_edges es) n (half p) in
          let here : slice_get (half_edges es) n ≡ Some h = slice_get-get_or (half_edges es) n (half p) l in
          let twins : half p ≡ twin h =
          same_Some (half p) (twin h) (sym (numbered p e.follows.first_within) ∙ ap (slice_get (half_edges es)) number
          ∙ twin_at es n l ∙ ap (option_map twin) here) in
          let start : (half q).origin ≡ h.target = sym (e.follows.one_start d) ∙ ap (λ (g : HalfEdge). g.origin) twins in
          let end : (half q).target ≡ next_around es h.target h.origin =
          sym (follower_is p q e.follows)
          ∙ (λ i. next_around es (twins i).origin (twins i).target) in
          ap (slice_get (half_edges es)) (e.leads d)
          ∙ numbered q e.follows.second_within
          ∙ (λ i. Some (record { origin = start i; target = end i }))
          ∙ sym (ap (option_map (next es)) here)
