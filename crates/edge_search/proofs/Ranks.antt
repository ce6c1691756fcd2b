-- Edges by their ranks over a node. A point inside the node's first column lies inside each edge with a piece there. The
-- higher of two edges has the greater rank; so one whose rank isn't greater isn't higher, and comes before the other
-- over all columns that both have.
use Rattle.std.proofs.Common.{◌≡◌, refl, sym, ap, subst, ◌∙◌, ℕ, suc, ◌*◌, ◌<◌, ◌≤◌, ◌^◌, arith, ◌⊎◌, ⊎_elim, inl, inr}
use Rattle.std.proofs.Common.{List, Contains, Ordering, Less, Equal, Greater}
use Rattle.std.specs.Prelude.{ℤ, pos, ◌+ℤ◌, ◌-ℤ◌, ◌*ℤ◌, ◌<ℤ◌, ◌≤ℤ◌, unsigned_abs, IsTrue, All}
use Rattle.std.proofs.Math.Pow.{pow_mono}
use Rattle.std.proofs.Math.Nat.{pow-succ'}
use Rattle.std.proofs.lemmas.Nat.{pow_pos, mul-le}
use Rattle.std.proofs.lemmas.Int.{unsigned_abs-mul}
use Rattle.std.proofs.lemmas.Cmp.{int_ranked, tied_itself}
use Rattle.std.proofs.lemmas.List.Elements.{All-contains}
use Rattle.grid_core.specs.declared.point.Point.{Point}
use Rattle.grid_core.specs.Edge.{EdgeEnds, edge_cmp}
use Rattle.grid_core.specs.Places.{spans, edge_direction, height_at, height_cmp}
use Rattle.grid_core.proofs.Order.{edge_total, edge_exact}
use Rattle.grid_core.proofs.Signed.{signed, abs-add, product_within}
use Rattle.grid_core.proofs.Ring.{int_mul-le_left, int_mul_nonpos_nonneg, int_mul-double, int_lt_or_le}
use Rattle.place_test.specs.Reach.{IsEdgeWithin}
use Rattle.edge_search.specs.declared.piece.Piece.{Piece}
use Rattle.edge_search.specs.declared.rank.RankedPiece.{RankedPiece}
use Rattle.edge_search.specs.EdgeOrder.{ComesBefore, IsInside}
use Rattle.edge_search.specs.Search.{DontCross}
use Rattle.edge_search.specs.Pieces.{IsNode, IsPiece, AlwaysBefore}
use Rattle.edge_search.specs.Ranks.{rank_at, point_inside, IsRanked}
use Rattle.edge_search.proofs.EdgeOrder.{width, height}
use Rattle.edge_search.proofs.Rounding.{div_rises}

-- ---- nodes

-- a node has a column
some_column : (n w : ℤ) → IsNode n w → pos 0 <ℤ w
some_column n w node =
    let some = pow_pos node.power.0 in
    let is = node.power.2 in
    omega (arith, signed, some, is)

-- the leaves from n times 2 a on, and so those of a node n of more than a columns, lie right of the strip where those
-- from n times a on don't lie left of it
too_wide : (n a b : ℤ) → pos 256 ≤ℤ (n *ℤ a) → (n *ℤ b +ℤ b) ≤ℤ pos 512 → pos 0 <ℤ a → (pos 2 *ℤ a) ≤ℤ b → ⊥
too_wide n a b from to some wide =
    ⊎_elim
    (λ (below : n <ℤ pos 0).
    omega (arith, signed, from, int_mul_nonpos_nonneg n a (omega (arith, signed, below)) (omega (arith, signed, some))))
    (λ (above : pos 0 ≤ℤ n).
    omega (arith, signed, from, to, some, wide, int_mul-le_left n (pos 2 *ℤ a) b above wide, int_mul-double n a))
    (int_lt_or_le n (pos 0))

-- of two numbers of columns of one node neither is the greater
no_wider : (n w v : ℤ) (a : IsNode n w) (b : IsNode n v) → a.power.0 < b.power.0 → ⊥
no_wider n w v a b less =
    let twice : 2 ^ suc a.power.0 ≤ 2 ^ b.power.0 = pow_mono (omega (arith, less)) in
    let next = pow-succ' 2 a.power.0 in
    let is_w = a.power.2 in
    let is_v = b.power.2 in
    too_wide n w v a.from b.to (some_column n w a) (omega (arith, signed, is_w, is_v, twice, next))

-- a node has one number of columns
one_width : (n w v : ℤ) → IsNode n w → IsNode n v → w ≡ v
one_width n w v a b =
    ⊎_elim (λ (less : a.power.0 < b.power.0). absurd (no_wider n w v a b less))
    (λ (rest : b.power.0 ≤ a.power.0).
    ⊎_elim (λ (less : b.power.0 < a.power.0). absurd (no_wider n v w b a less))
    (λ (back : a.power.0 ≤ b.power.0).
    let one : a.power.0 ≡ b.power.0 = omega (arith, rest, back) in
    a.power.2 ∙ ap (λ (l : ℕ). pos (2 ^ l)) one ∙ sym b.power.2)
    (either b.power.0 a.power.0))
    (either a.power.0 b.power.0)
  where
    either : (l m : ℕ) → (l < m) ⊎ (m ≤ l)
    either l m = grind arith

-- ---- ranks

-- an edge has a width of at most 2^31
narrow : (e : EdgeEnds) → IsEdgeWithin (2 ^ 30) e → unsigned_abs (width e) ≤ 2 ^ 31
narrow e h = omega (arith, signed, h.a.x, h.b.x)

-- a point inside a node's first column is inside an edge with a piece there
pub inside_piece : (k : ℤ) (es : List EdgeEnds) (w : ℤ) (p : Piece) → IsPiece k es w p
    → IsInside (point_inside k p.node w) p.edge
inside_piece k es w p is =
    let some = some_column p.node w is.node in
    record { from = omega (arith, signed, some, is.from, is.to); to = omega (arith, signed, some, is.from, is.to) }

-- a sum of two products, by what their factors are at most
two_products : (a w d t : ℤ) → unsigned_abs a ≤ 2 ^ 38 → unsigned_abs d ≤ 2 ^ 31 → unsigned_abs t ≤ 2 ^ 8 * unsigned_abs w
    → unsigned_abs (a *ℤ w +ℤ d *ℤ t) ≤ 2 ^ 40 * unsigned_abs w
two_products a w d t small_a small_d small_t =
    let left = mul-le (unsigned_abs a) (unsigned_abs w) (2 ^ 38) (unsigned_abs w) small_a (omega arith) in
    let right = mul-le (unsigned_abs d) (unsigned_abs t) (2 ^ 31) (2 ^ 8 * unsigned_abs w) small_d small_t in
    let sum = abs-add (a *ℤ w) (d *ℤ t) in
    omega (arith, sum, left, right, unsigned_abs-mul a w, unsigned_abs-mul d t)

-- inside an edge its height is at most 2^40 in size
pub height_within : (e : EdgeEnds) (q : Point) → IsEdgeWithin (2 ^ 30) e → IsInside q e
    → unsigned_abs (height_at q e) ≤ 2 ^ 40 * unsigned_abs (edge_direction e).x
height_within e q small inside =
    two_products (pos 256 *ℤ e.a.y) (width e) (e.b.y -ℤ e.a.y) (q.x -ℤ pos 256 *ℤ e.a.x) (omega (arith, signed, small.a.y))
    (omega (arith, signed, small.a.y, small.b.y)) (omega (arith, signed, inside.from, inside.to))

-- the higher edge has the greater rank
not_higher : (e f : EdgeEnds) (q : Point) → IsEdgeWithin (2 ^ 30) e → IsEdgeWithin (2 ^ 30) f → IsInside q e → IsInside q f
    → rank_at q e ≤ℤ rank_at q f → height_cmp q e f ≡ Greater → ⊥
not_higher e f q small_e small_f in_e in_f ranks higher =
    let some_e : pos 0 <ℤ width e = omega (arith, signed, in_e.from, in_e.to) in
    let some_f : pos 0 <ℤ width f = omega (arith, signed, in_f.from, in_f.to) in
    let fine : (width f *ℤ width e) ≤ℤ pos (2 ^ 62) =
    omega (arith, signed, product_within (width f) (width e) (2 ^ 31) (2 ^ 31) (narrow f small_f) (narrow e small_e)) in
    let less : (height f q.x *ℤ width e) <ℤ (height e q.x *ℤ width f) =
    int_ranked (height e q.x *ℤ width f) (height f q.x *ℤ width e) Greater (sym higher) in
    let above : rank_at q f <ℤ rank_at q e =
    div_rises (height f q.x) (height e q.x) (width f) (width e) (pos (2 ^ 62)) some_f some_e fine (omega (arith, signed)) less in
    omega (arith, signed, above, ranks)

module _ {es : List EdgeEnds} (within : All (IsEdgeWithin (2 ^ 30)) es) (apart : DontCross es) where
  -- of two edges over a column inside both, the one whose rank isn't greater comes before the other over all columns
  edge_before : (e f : EdgeEnds) (q : Point) → Contains es e → Contains es f → IsInside q e → IsInside q f
      → rank_at q e ≤ℤ rank_at q f → (e ≡ f) ⊎ AlwaysBefore e f
  edge_before e f q of_e of_f in_e in_f ranks = by (edge_cmp e f) refl
    where
      over : (p : Point) → IsTrue (spans p e) → IsTrue (spans p f) → (e ≡ f) ⊎ ComesBefore p e f
      over p p_e p_f =
          apart.inside e f q p of_e of_f in_e in_f p_e p_f
          (not_higher e f q (All-contains (IsEdgeWithin (2 ^ 30)) es e within of_e)
          (All-contains (IsEdgeWithin (2 ^ 30)) es f within of_f) in_e in_f ranks)

      two : (o : Ordering) → edge_cmp e f ≡ o → (o ≡ Equal → ⊥) → AlwaysBefore e f
      two o is differ p p_e p_f =
          ⊎_elim
          (λ (same : e ≡ f). absurd (differ (sym is ∙ ap (edge_cmp e) (sym same) ∙ tied_itself edge_total e)))
          (λ before. before) (over p p_e p_f)

      by : (o : Ordering) → edge_cmp e f ≡ o → (e ≡ f) ⊎ AlwaysBefore e f
      by Less is = inr (two Less is (λ h. cc h))
      by Equal is = inl (edge_exact e f is)
      by Greater is = inr (two Greater is (λ h. cc h))

  -- of two pieces over one node, the one whose rank isn't greater stands before the other
  pub ranked_before : (k w v : ℤ) (r s : RankedPiece) → IsRanked k es w r → IsRanked k es v s → r.piece.node ≡ s.piece.node
      → r.rank ≤ℤ s.rank → (r.piece.edge ≡ s.piece.edge) ⊎ AlwaysBefore r.piece.edge s.piece.edge
  ranked_before k w v r s is_r is_s one ranks =
      let q = point_inside k r.piece.node w in
      let here : point_inside k s.piece.node v ≡ q =
      ap (λ n. point_inside k n v) (sym one)
      ∙ ap (λ z. point_inside k r.piece.node z)
      (one_width r.piece.node v w (subst (λ n. IsNode n v) (sym one) is_s.piece.node) is_r.piece.node) in
      let rank_r = is_r.rank in
      let rank_s : s.rank ≡ rank_at q s.piece.edge = is_s.rank ∙ ap (λ p. rank_at p s.piece.edge) here in
      edge_before r.piece.edge s.piece.edge q is_r.piece.edge is_s.piece.edge (inside_piece k es w r.piece is_r.piece)
      (subst (λ p. IsInside p s.piece.edge) here (inside_piece k es v s.piece is_s.piece))
      (subst (λ z. z ≤ℤ rank_at q s.piece.edge) rank_r (subst (λ z. r.rank ≤ℤ z) rank_s ranks))
