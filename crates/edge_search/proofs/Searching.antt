-- The search among the pieces over a node. A piece is passed where its node comes before, or where the point is above
-- it; what stands before a passed piece is passed. So the last passed piece over the node is the
-- nearest below the point, and the first other one is the nearest above.
use Rattle.std.proofs.Common.{◌≡◌, refl, sym, ap, subst, ◌∙◌, arith, ⊎_elim, inl, inr, ℕ, ◌+◌, ◌-◌, ◌<◌}
use Rattle.std.proofs.Common.{◌≤◌, Bool, true, false, ◌&&◌, ◌||◌, true≢false}
use Rattle.std.proofs.Common.{List, [], ◌∷◌, ◌++◌, append_assoc, length, min, take, drop, Contains}
use Rattle.std.proofs.Common.{IsTrue, slice_index_or, length-take, length-drop}
use Rattle.std.specs.Prelude.{ℤ, pos, ◌-ℤ◌, ◌*ℤ◌, ◌<ℤ◌, ◌≤ℤ◌, ◌⊎◌, int_lt}
use Rattle.std.specs.Ordering.{int_eq}
use Rattle.std.proofs.lemmas.Bool.Decides.{Decides-int_eq}
use Rattle.std.proofs.lemmas.List.{get_or-take, get_or-drop, map-append, take_more}
use Rattle.std.proofs.lemmas.List.Elements.{All-take, All-drop, All-contains, All-contains_itself}
use Rattle.std.proofs.lemmas.List.Elements.{Contains-get_or}
use Rattle.grid_core.specs.declared.point.Point.{Point}
use Rattle.grid_core.specs.Edge.{EdgeEnds}
use Rattle.grid_core.specs.Places.{spans, side_of_edge}
use Rattle.grid_core.proofs.ListMembers.{contains_map}
use Rattle.grid_core.proofs.Signed.{signed, lt_true, lt_false, from_lt_true}
use Rattle.edge_search.specs.EdgeOrder.{ComesBefore}
use Rattle.edge_search.specs.Pieces.{StandsBefore, AlwaysBefore}
use Rattle.edge_search.specs.Candidates.{edges_of, is_passed, AreInOrder, HaveColumn, IsDivision, AreNear}
use Rattle.edge_search.specs.declared.piece.Piece.{Piece}
use Rattle.edge_search.proofs.Ranges.{and_left, and_right}
use Rattle.edge_search.proofs.EdgeOrder.{width, height, has_columns, side_is, above_lower, wide_by}
use Rattle.edge_search.proofs.Enough.{before_over}

-- the search is between two indexes: the piece before the first is passed, and the one at the second is not
pub record AreHalves (n : ℤ) (q : Point) (ps : List Piece) (low high : ℕ) : Type 0 where
  pub order : low ≤ high
  pub within : high ≤ length ps
  pub before : (d : Piece) → 0 < low → IsTrue (is_passed n q (slice_index_or ps (low - 1) d))
  pub after : (d : Piece) → high < length ps → is_passed n q (slice_index_or ps high d) ≡ false

-- where the two indexes are one, it divides the pieces
pub halves_meet : (n : ℤ) (q : Point) (ps : List Piece) (low high : ℕ) → AreHalves n q ps low high → high ≤ low
    → IsDivision n q ps low
halves_meet n q ps low high h met =
    let same : high ≡ low = omega (arith, h.order, met) in
    record {
      within = omega (arith, h.order, h.within);
      before = h.before;
      after = λ d fits. subst (λ k. is_passed n q (slice_index_or ps k d) ≡ false) same (h.after d (omega (arith, fits, same)));
    }

-- ---- lists

nat_lt_or_le : (a b : ℕ) → (a < b) ⊎ (b ≤ a)
nat_lt_or_le a b = grind arith

module _ {X : Type 0} (xs : List X) where
  -- what stands in a part of a list, and that it stands in the list
  contains_part : (a m j : ℕ) (d : X) → a ≤ j → j < a + m → j < length xs
      → Contains (take m (drop a xs)) (slice_index_or xs j d)
  contains_part a m j d from to fits =
      let k = j - a in
      let there : a + k ≡ j = omega (arith, from) in
      let short : k < m = omega (arith, from, to) in
      let within : k < length (take m (drop a xs)) =
      omega (arith, length-take m (drop a xs), length-drop a xs, from, to, fits) in
      subst (Contains (take m (drop a xs)))
      (get_or-take m (drop a xs) k d short ∙ get_or-drop a xs k d ∙ ap (λ i. slice_index_or xs i d) there)
      (Contains-get_or (take m (drop a xs)) k d within)

  part_contains : (a m : ℕ) (x : X) → Contains (take m (drop a xs)) x → Contains xs x
  part_contains a m x h =
      All-contains (Contains xs) (take m (drop a xs)) x
      (All-take (Contains xs) m (drop a xs) (All-drop (Contains xs) a xs (All-contains_itself xs))) h

contains_edge : (ps : List Piece) (p : Piece) → Contains ps p → Contains (edges_of ps) p.edge
contains_edge ps p h = (contains_map (λ (r : Piece). r.edge) ps p.edge).1 (h.0, p, h.1, h.2, refl)

-- the edges of one piece more
pub edges_more : (es : List EdgeEnds) (ps : List Piece) (i : ℕ) (p : Piece) → i < length ps → p ≡ slice_index_or ps i p
    → (es ++ edges_of (take i ps)) ++ p.edge ∷ [] ≡ es ++ edges_of (take (i + 1) ps)
edges_more es ps i p fits is =
    append_assoc es (edges_of (take i ps)) (p.edge ∷ [])
    ∙ ap (λ (l : List EdgeEnds). es ++ l)
    (sym (map-append (λ (r : Piece). r.edge) (take i ps) (p ∷ []))
    ∙ ap edges_of (ap (λ (r : Piece). take i ps ++ r ∷ []) is ∙ sym (take_more ps i p fits)))

-- ---- what is passed

lt_irrefl : (a : ℤ) → a <ℤ a → ⊥
lt_irrefl a h = omega (arith, signed, h)

-- a point above an edge is above one that comes before it
above_both : (e f : EdgeEnds) (q : Point) → IsTrue (spans q e) → IsTrue (spans q f) → ComesBefore q e f
    → IsTrue (int_lt (pos 0) (side_of_edge f q)) → IsTrue (int_lt (pos 0) (side_of_edge e q))
above_both e f q e_q f_q before above =
    let here : q.x ≤ℤ q.x = omega (arith, signed) in
    let over_f : pos 0 <ℤ (width f *ℤ q.y -ℤ height f q.x) =
    subst (λ z. pos 0 <ℤ z) (side_is f q) (from_lt_true (pos 0) (side_of_edge f q) above) in
    let over_e = above_lower (width e) (width f) (height e q.x) (height f q.x) q.y
    (wide_by e q.x q.x (has_columns e q q e_q e_q) here) (wide_by f q.x q.x (has_columns f q q f_q f_q) here)
    (before_over e f q before) over_f in
    lt_true (pos 0) (side_of_edge e q) (subst (λ z. pos 0 <ℤ z) (sym (side_is e q)) over_e)

module _ (n : ℤ) (q : Point) where
  -- over node n a piece is passed where the point is above it
  passed_over : (p : Piece) → p.node ≡ n → is_passed n q p ≡ int_lt (pos 0) (side_of_edge p.edge q)
  passed_over p one =
      let no_less : int_lt p.node n ≡ false = lt_false p.node n (omega (arith, signed, one)) in
      let same : int_eq p.node n ≡ true = (Decides-int_eq p.node n).1 one in
      λ i. no_less i || (same i && int_lt (pos 0) (side_of_edge p.edge q))

  passed_under : (p : Piece) → p.node <ℤ n → IsTrue (is_passed n q p)
  passed_under p less = ap (λ b. b || (int_eq p.node n && int_lt (pos 0) (side_of_edge p.edge q))) (lt_true p.node n less)

  passed_cases : (p : Piece) → IsTrue (is_passed n q p)
      → (p.node <ℤ n) ⊎ ((p.node ≡ n) × IsTrue (int_lt (pos 0) (side_of_edge p.edge q)))
  passed_cases p h = by (int_lt p.node n) refl h
    where
      by : (b : Bool) → int_lt p.node n ≡ b → IsTrue (b || (int_eq p.node n && int_lt (pos 0) (side_of_edge p.edge q)))
          → (p.node <ℤ n) ⊎ ((p.node ≡ n) × IsTrue (int_lt (pos 0) (side_of_edge p.edge q)))
      by true is h = inl (from_lt_true p.node n is)
      by false is h =
          inr (
            (Decides-int_eq p.node n).0 (and_left (int_eq p.node n) (int_lt (pos 0) (side_of_edge p.edge q)) h),
            and_right (int_eq p.node n) (int_lt (pos 0) (side_of_edge p.edge q)) h,
          )

  -- what stands before a passed piece is passed
  passed_before : (p r : Piece) → (p.node ≡ n → IsTrue (spans q p.edge)) → (r.node ≡ n → IsTrue (spans q r.edge))
      → StandsBefore p r → IsTrue (is_passed n q r) → IsTrue (is_passed n q p)
  passed_before p r of_p of_r order passed = ⊎_elim less same order
    where
      less : p.node <ℤ r.node → IsTrue (is_passed n q p)
      less l =
          passed_under p
          (⊎_elim (λ (m : r.node <ℤ n). omega (arith, signed, l, m))
          (λ (m : (r.node ≡ n) × IsTrue (int_lt (pos 0) (side_of_edge r.edge q))). omega (arith, signed, l, m.0))
          (passed_cases r passed))

      same : (p.node ≡ r.node) × ((p.edge ≡ r.edge) ⊎ AlwaysBefore p.edge r.edge) → IsTrue (is_passed n q p)
      same h =
          ⊎_elim (λ (m : r.node <ℤ n). passed_under p (omega (arith, signed, h.0, m)))
          (λ (m : (r.node ≡ n) × IsTrue (int_lt (pos 0) (side_of_edge r.edge q))).
          let one = h.0 ∙ m.0 in
          passed_over p one
          ∙ ⊎_elim (λ (e : p.edge ≡ r.edge). ap (λ x. int_lt (pos 0) (side_of_edge x q)) e ∙ m.1)
          (λ (b : AlwaysBefore p.edge r.edge). above_both p.edge r.edge q (of_p one) (of_r m.0) (b q (of_p one) (of_r m.0)) m.1)
          h.1)
          (passed_cases r passed)

-- ---- the two pieces at the division

module _ {n : ℤ} {q : Point} {ps : List Piece} (order : AreInOrder ps) (column : HaveColumn n q ps)
    {i : ℕ} (divided : IsDivision n q ps i) where
  -- the piece at an index
  at : (j : ℕ) (d : Piece) → j < length ps → Contains ps (slice_index_or ps j d)
  at j d fits = Contains-get_or ps j d fits

  earlier_passed : (k j : ℕ) (d : Piece) → k < j → j < length ps → IsTrue (is_passed n q (slice_index_or ps j d))
      → IsTrue (is_passed n q (slice_index_or ps k d))
  earlier_passed k j d less fits =
      passed_before n q (slice_index_or ps k d) (slice_index_or ps j d)
      (column (slice_index_or ps k d) (at k d (omega (arith, less, fits))))
      (column (slice_index_or ps j d) (at j d fits))
      (order k j d less fits)

  -- a passed piece stands before the division, and one that isn't stands behind it
  passed_stands : (j : ℕ) (d : Piece) → j < length ps → IsTrue (is_passed n q (slice_index_or ps j d)) → j < i
  passed_stands j d fits passed = ⊎_elim (λ (l : j < i). l) (λ (l : i ≤ j). absurd (by l)) (nat_lt_or_le j i)
    where
      by : i ≤ j → ⊥
      by l =
          ⊎_elim
          (λ (less : i < j).
          true≢false (sym (earlier_passed i j d less fits passed) ∙ divided.after d (omega (arith, less, fits))))
          (λ (m : j ≤ i).
          let one : i ≡ j = omega (arith, l, m) in
          true≢false
          (sym passed ∙ ap (λ k. is_passed n q (slice_index_or ps k d)) (sym one) ∙ divided.after d (omega (arith, one, fits))))
          (nat_lt_or_le i j)

  other_stands : (j : ℕ) (d : Piece) → j < length ps → is_passed n q (slice_index_or ps j d) ≡ false → i ≤ j
  other_stands j d fits other = ⊎_elim (λ (l : j < i). absurd (by l)) (λ (l : i ≤ j). l) (nat_lt_or_le j i)
    where
      by : j < i → ⊥
      by l =
          let last = divided.before d (omega (arith, l)) in
          ⊎_elim
          (λ (less : j < (i - 1)).
          true≢false (sym (earlier_passed j (i - 1) d less (omega (arith, less, divided.within)) last) ∙ other))
          (λ (m : (i - 1) ≤ j).
          let one : i - 1 ≡ j = omega (arith, l, m) in
          true≢false (sym last ∙ ap (λ k. is_passed n q (slice_index_or ps k d)) one ∙ other))
          (nat_lt_or_le j (i - 1))

  module _ (some : List Piece) (first : (d : Piece) → i < length ps → Contains some (slice_index_or ps i d))
      (last : (d : Piece) → 0 < i → Contains some (slice_index_or ps (i - 1) d)) where
    below_near : (p : Piece) (j : ℕ) → j < length ps → slice_index_or ps j p ≡ p → p.node ≡ n
        → IsTrue (int_lt (pos 0) (side_of_edge p.edge q))
        → (c : EdgeEnds)
        × Contains (edges_of some) c
        × IsTrue (spans q c)
        × IsTrue (int_lt (pos 0) (side_of_edge c q))
        × ((c ≡ p.edge) ⊎ ComesBefore q p.edge c)
    below_near p j fits is over above =
        let passed : IsTrue (is_passed n q (slice_index_or ps j p)) = ap (is_passed n q) is ∙ passed_over n q p over ∙ above in
        let stands = passed_stands j p fits passed in
        let has : Contains ps p = (j, fits, is) in
        let some_i : 0 < i = omega (arith, stands) in
        let c = slice_index_or ps (i - 1) p in
        let c_in = last p some_i in
        let c_passed = divided.before p some_i in
        let c_all = at (i - 1) p (omega (arith, some_i, divided.within)) in
        ⊎_elim
        (λ (less : j < (i - 1)).
        let before : StandsBefore p c =
        subst (λ x. StandsBefore x c) is (order j (i - 1) p less (omega (arith, some_i, divided.within))) in
        let here : (c.node ≡ n) × IsTrue (int_lt (pos 0) (side_of_edge c.edge q)) =
        ⊎_elim
        (λ (l : c.node <ℤ n).
        absurd (⊎_elim (λ (m : p.node <ℤ c.node). lt_irrefl n (omega (arith, signed, l, m, over)))
        (λ (m : (p.node ≡ c.node) × ((p.edge ≡ c.edge) ⊎ AlwaysBefore p.edge c.edge)).
        lt_irrefl n (omega (arith, signed, l, m.0, over))) before))
        (λ (h : (c.node ≡ n) × IsTrue (int_lt (pos 0) (side_of_edge c.edge q))). h)
        (passed_cases n q c c_passed) in
        let spanned = column c c_all here.0 in (
          c.edge,
          contains_edge some c c_in,
          spanned,
          here.1,
          ⊎_elim (λ (m : p.node <ℤ c.node). absurd (lt_irrefl n (omega (arith, signed, m, over, here.0))))
              (λ (m : (p.node ≡ c.node) × ((p.edge ≡ c.edge) ⊎ AlwaysBefore p.edge c.edge)).
              ⊎_elim (λ (e : p.edge ≡ c.edge). inl (sym e))
              (λ (b : AlwaysBefore p.edge c.edge). inr (b q (column p has over) spanned)) m.1)
              before,
        ))
        (λ (m : (i - 1) ≤ j).
        let one : i - 1 ≡ j = omega (arith, stands, m) in
        let same : c ≡ p = ap (λ k. slice_index_or ps k p) one ∙ is in
        (p.edge, contains_edge some p (subst (Contains some) same c_in), column p has over, above, inl refl))
        (nat_lt_or_le j (i - 1))

    above_near : (p : Piece) (j : ℕ) → j < length ps → slice_index_or ps j p ≡ p → p.node ≡ n
        → int_lt (pos 0) (side_of_edge p.edge q) ≡ false
        → (c : EdgeEnds)
        × Contains (edges_of some) c
        × IsTrue (spans q c)
        × (int_lt (pos 0) (side_of_edge c q) ≡ false)
        × ((c ≡ p.edge) ⊎ ComesBefore q c p.edge)
    above_near p j fits is over not_above =
        let other : is_passed n q (slice_index_or ps j p) ≡ false = ap (is_passed n q) is ∙ passed_over n q p over ∙ not_above in
        let stands = other_stands j p fits other in
        let has : Contains ps p = (j, fits, is) in
        let in_ps : i < length ps = omega (arith, stands, fits) in
        let c = slice_index_or ps i p in
        let c_in = first p in_ps in
        let c_other = divided.after p in_ps in
        let c_all = at i p in_ps in
        ⊎_elim
        (λ (less : i < j).
        let before : StandsBefore c p = subst (λ x. StandsBefore c x) is (order i j p less fits) in
        ⊎_elim
        (λ (m : c.node <ℤ p.node). absurd (true≢false (sym (passed_under n q c (omega (arith, signed, m, over))) ∙ c_other)))
        (λ (m : (c.node ≡ p.node) × ((c.edge ≡ p.edge) ⊎ AlwaysBefore c.edge p.edge)).
        let here = m.0 ∙ over in
        let spanned = column c c_all here in (
          c.edge,
          contains_edge some c c_in,
          spanned,
          sym (passed_over n q c here) ∙ c_other,
          ⊎_elim (λ (e : c.edge ≡ p.edge). inl e)
              (λ (b : AlwaysBefore c.edge p.edge). inr (b q spanned (column p has over))) m.1,
        ))
        before)
        (λ (m : j ≤ i).
        let one : i ≡ j = omega (arith, stands, m) in
        let same : c ≡ p = ap (λ k. slice_index_or ps k p) one ∙ is in
        (p.edge, contains_edge some p (subst (Contains some) same c_in), column p has over, not_above, inl refl))
        (nat_lt_or_le i j)

  -- the pieces from index i - 1 to index i are near
  pub part_is_near : (a b : ℕ) → a ≡ i - 1 → b ≡ min (length ps) (i + 1) → AreNear n q ps (take (b - a) (drop a ps))
  part_is_near a b from to =
      let within = divided.within in
      let some = take (b - a) (drop a ps) in
      let first = λ (d : Piece) (fits : i < length ps).
      contains_part ps a (b - a) i d (omega (arith, from)) (omega (arith, from, to, fits)) fits in
      let last = λ (d : Piece) (some_i : 0 < i).
      contains_part ps a (b - a) (i - 1) d (omega (arith, from)) (omega (arith, from, to, some_i, within))
      (omega (arith, some_i, within)) in
      record {
        members = λ p h. part_contains ps a (b - a) p h;
        near = λ p h over.
            record {
              below = below_near some first last p h.0 h.1 h.2 over;
              above = above_near some first last p h.0 h.1 h.2 over;
            };
      }
