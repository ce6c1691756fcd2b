-- The pieces of some edges, gathered an edge at a time and sorted: by node, and over one node by rank, so that they stand
-- from below.
use Rattle.std.proofs.Common.{◌≡◌, refl, sym, subst, ℕ, ◌<◌, ◌^◌, arith, ◌⊎◌, ⊎_elim, inl, inr, true≢false, false}
use Rattle.std.proofs.Common.{List, [], ◌∷◌, ◌++◌, map, length, get_or, Contains, Ordering, Less, Equal, Greater, is_lt, int_cmp}
use Rattle.std.specs.Prelude.{ℤ, pos, ◌<ℤ◌, ◌≤ℤ◌, All}
use Rattle.std.specs.Cmp.{IsTotalOrder}
use Rattle.std.specs.Ordering.{ordering_then, MatchOrdering}
use Rattle.std.specs.List.Sorted.{IsPermutation, IsSortedBy}
use Rattle.std.proofs.lemmas.Cmp.{int_ranked, int_cmp_total, then_total, on_total}
use Rattle.std.proofs.lemmas.List.{get_or-map, length-map}
use Rattle.std.proofs.lemmas.List.Elements.{Contains-append_left, Contains-push, Contains-push_cases, Contains-get_or}
use Rattle.std.proofs.lemmas.List.MinMax.{ranks_by}
use Rattle.std.proofs.lemmas.List.Sorted.{sorted_far, Contains-permutation, IsPermutation-sym}
use Rattle.grid_core.specs.Edge.{EdgeEnds}
use Rattle.grid_core.proofs.ListMembers.{contains_map}
use Rattle.grid_core.proofs.Signed.{signed}
use Rattle.place_test.specs.Reach.{IsEdgeWithin}
use Rattle.edge_search.specs.declared.piece.Piece.{Piece}
use Rattle.edge_search.specs.declared.rank.RankedPiece.{RankedPiece}
use Rattle.edge_search.specs.Search.{DontCross}
use Rattle.edge_search.specs.Pieces.{column, HasColumn, IsPiece, IsPieceAt, StandsBefore, ArePieces}
use Rattle.edge_search.specs.Ranks.{IsRanked, ranked_cmp, AreRanked}
use Rattle.edge_search.specs.Cuts.{HavePiecesOf}
use Rattle.edge_search.proofs.Ranks.{ranked_before}

-- ---- one edge more

-- a piece of one of some edges is one of more edges
more_edges : {es fs : List EdgeEnds} → ((e : EdgeEnds) → Contains es e → Contains fs e)
    → (k w : ℤ) (p : Piece) → IsPiece k es w p → IsPiece k fs w p
more_edges more k w p is = record { edge = more p.edge is.edge; node = is.node; from = is.from; to = is.to }

more_at : {es fs : List EdgeEnds} → ((e : EdgeEnds) → Contains es e → Contains fs e)
    → (k : ℤ) (e : EdgeEnds) (leaf : ℤ) (p : Piece) → IsPieceAt k es e leaf p → IsPieceAt k fs e leaf p
more_at more k e leaf p is =
    record { edge = is.edge; over = (is.over.0, more_edges more k is.over.0 p is.over.1, is.over.2) }

-- the pieces of some edges, and those of one edge more
pub ranked_more : (k : ℤ) (es : List EdgeEnds) (e : EdgeEnds) (old new : List RankedPiece) → HavePiecesOf k e old new
    → AreRanked k es old → AreRanked k (es ++ e ∷ []) new
ranked_more k es e old new one so = record { each = each; all = all }
  where
    earlier : (f : EdgeEnds) → Contains es f → Contains (es ++ e ∷ []) f
    earlier f h = Contains-append_left es (e ∷ []) f h

    latest : (f : EdgeEnds) → Contains (e ∷ []) f → Contains (es ++ e ∷ []) f
    latest f h =
        ⊎_elim (λ (none : Contains [] f). absurd (omega (arith, none.1)))
        (λ (same : e ≡ f). subst (Contains (es ++ e ∷ [])) same (Contains-push es e)) (Contains-push_cases [] e f h)

    each : (r : RankedPiece) → Contains new r → (w : ℤ) × IsRanked k (es ++ e ∷ []) w r
    each r h =
        ⊎_elim
        (λ (h : Contains old r).
        let is = so.each r h in
        (is.0, record { piece = more_edges earlier k is.0 r.piece is.1.piece; rank = is.1.rank }))
        (λ (is : (w : ℤ) × IsRanked k (e ∷ []) w r).
        (is.0, record { piece = more_edges latest k is.0 r.piece is.1.piece; rank = is.1.rank }))
        (one.each r h)

    all : (f : EdgeEnds) (leaf : ℤ) → Contains (es ++ e ∷ []) f → pos 256 ≤ℤ leaf → leaf <ℤ pos 512 → HasColumn f (column k leaf)
        → (r : RankedPiece) × Contains new r × IsPieceAt k (es ++ e ∷ []) f leaf r.piece
    all f leaf h low high has =
        ⊎_elim
        (λ (h : Contains es f).
        let there = so.all f leaf h low high has in
        (there.0, one.kept there.0 there.1, more_at earlier k f leaf there.0.piece there.2))
        (λ (same : e ≡ f).
        let there = one.all leaf low high (subst (λ g. HasColumn g (column k leaf)) (sym same) has) in (
          there.0,
          there.1,
          subst (λ g. IsPieceAt k (es ++ e ∷ []) g leaf there.0.piece) same (more_at latest k e leaf there.0.piece there.2),
        ))
        (Contains-push_cases es e f h)

-- ---- the order

-- pieces are totally ordered by node and rank
pub ranked_total : IsTotalOrder ranked_cmp
ranked_total =
    then_total (on_total (λ (r : RankedPiece). r.piece.node) int_cmp_total)
    (on_total (λ (r : RankedPiece). r.rank) int_cmp_total)

not_after : (o q : Ordering) (m n a b : ℤ) → MatchOrdering o (n <ℤ m) (n ≡ m) (m <ℤ n)
    → MatchOrdering q (b <ℤ a) (b ≡ a) (a <ℤ b) → is_lt (ordering_then o q) ≡ false → (m <ℤ n) ⊎ ((m ≡ n) × (a ≤ℤ b))
not_after Less q m n a b h i e = absurd (true≢false e)
not_after Equal Less m n a b h i e = absurd (true≢false e)
not_after Equal Equal m n a b h i e = inr (sym h, omega (arith, signed, i))
not_after Equal Greater m n a b h i e = inr (sym h, omega (arith, signed, i))
not_after Greater q m n a b h i e = inl h

module _ (k : ℤ) {es : List EdgeEnds} (within : All (IsEdgeWithin (2 ^ 30)) es) (apart : DontCross es) where
  stands_before : (r s : RankedPiece) → (w : ℤ) × IsRanked k es w r → (w : ℤ) × IsRanked k es w s
      → is_lt (ranked_cmp s r) ≡ false → StandsBefore r.piece s.piece
  stands_before r s is_r is_s h =
      ⊎_elim (λ (less : r.piece.node <ℤ s.piece.node). inl less)
      (λ (level : (r.piece.node ≡ s.piece.node) × (r.rank ≤ℤ s.rank)).
      inr (level.0, ranked_before within apart k is_r.0 is_s.0 r s is_r.1 is_s.1 level.0 level.1))
      (not_after (int_cmp s.piece.node r.piece.node) (int_cmp s.rank r.rank) r.piece.node s.piece.node r.rank s.rank
      (int_ranked s.piece.node r.piece.node _ refl) (int_ranked s.rank r.rank _ refl) h)

  -- sorted pieces, without their ranks
  pub sorted_pieces : (rs ts : List RankedPiece) → AreRanked k es rs → IsPermutation rs ts
      → IsSortedBy (λ r s. is_lt (ranked_cmp r s)) ts → ArePieces k es (map (λ r. r.piece) ts)
  sorted_pieces rs ts so moved up = record { each = each; all = all; order = order }
    where
      ps : List Piece
      ps = map (λ (r : RankedPiece). r.piece) ts

      back : (r : RankedPiece) → Contains ts r → (w : ℤ) × IsRanked k es w r
      back r h = so.each r (Contains-permutation ts rs r (IsPermutation-sym rs ts moved) h)

      each : (p : Piece) → Contains ps p → (w : ℤ) × IsPiece k es w p
      each p h =
          let from = (contains_map (λ (r : RankedPiece). r.piece) ts p).0 h in
          let is = back from.1 (from.0, from.2, from.3) in
          (is.0, subst (IsPiece k es is.0) from.4 is.1.piece)

      all : (e : EdgeEnds) (leaf : ℤ) → Contains es e → pos 256 ≤ℤ leaf → leaf <ℤ pos 512 → HasColumn e (column k leaf)
          → (p : Piece) × Contains ps p × IsPieceAt k es e leaf p
      all e leaf h low high has =
          let there = so.all e leaf h low high has in
          let here = Contains-permutation rs ts there.0 moved there.1 in (
            there.0.piece,
            (contains_map (λ (r : RankedPiece). r.piece) ts there.0.piece).1 (here.0, there.0, here.1, here.2, refl),
            there.2,
          )

      order : (i j : ℕ) (d : Piece) → i < j → j < length ps → StandsBefore (get_or ps i d) (get_or ps j d)
      order i j d less below =
          let none : RankedPiece = record { piece = d; rank = pos 0 } in
          let last : j < length ts = subst (λ n. j < n) (length-map ts (λ (r : RankedPiece). r.piece)) below in
          let first : i < length ts = omega (arith, less, last) in
          let r = get_or ts i none in
          let s = get_or ts j none in
          subst (λ p. StandsBefore p (get_or ps j d)) (sym (get_or-map (λ (r : RankedPiece). r.piece) ts i none d first))
          (subst (λ p. StandsBefore r.piece p) (sym (get_or-map (λ (r : RankedPiece). r.piece) ts j none d last))
          (stands_before r s (back r (Contains-get_or ts i none first)) (back s (Contains-get_or ts j none last))
          (sorted_far (λ r s. is_lt (ranked_cmp r s)) (ranks_by ranked_total (λ r. r)) ts up i j none
          (omega (arith, less)) last)))
