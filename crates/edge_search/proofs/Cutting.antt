-- An edge's columns over a strip are the leaves of nodes from one on and before another, all of one width. A node at
-- either end whose parent has columns that aren't the edge's becomes a piece; the parents of the rest are the nodes of
-- twice the width. So each leaf stays below a node that is left until it lies below a piece.
use Rattle.std.proofs.Common.{◌≡◌, refl, sym, ap, subst, ◌∙◌, arith, ◌⊎◌, ⊎_elim, inl, inr}
use Rattle.std.proofs.Common.{ℕ, zero, suc, ◌+◌, ◌-◌, ◌*◌, ◌/◌, ◌%◌, ◌<◌, ◌≤◌, ◌^◌}
use Rattle.std.proofs.Common.{Bool, true, false, true≢false, List, [], ◌∷◌, Contains, IsTrue}
use Rattle.std.specs.Prelude.{◌↔◌, ℤ, pos, negsuc, unsigned_abs, ◌+ℤ◌, ◌-ℤ◌, ◌*ℤ◌, ◌<ℤ◌, ◌≤ℤ◌}
use Rattle.std.specs.Int.{int_min, int_max}
use Rattle.std.proofs.lemmas.Int.{clamps}
use Rattle.std.proofs.Math.Pow.{pow_mono}
use Rattle.std.proofs.lemmas.Nat.{mul-le}
use Rattle.std.proofs.lemmas.List.Elements.{Contains-append_left, Contains-push, Contains-push_cases}
use Rattle.grid_core.specs.Edge.{EdgeEnds}
use Rattle.grid_core.proofs.Signed.{signed}
use Rattle.edge_search.specs.declared.rank.RankedPiece.{RankedPiece}
use Rattle.edge_search.specs.Pieces.{column, HasColumn, IsPiece, IsPieceAt}
use Rattle.edge_search.specs.Ranks.{IsRanked, ranked_piece}
use Rattle.edge_search.specs.Cuts.{IsNearestLeaf, pushed_if, HavePiecesOf}

split : (m n : ℕ) → (m < n) ⊎ (n ≤ m)
split m n = grind arith

-- ---- lists with one item more

kept_if : {A : Type 0} (b : Bool) (xs : List A) (x y : A) → Contains xs y → Contains (pushed_if b xs x) y
kept_if true xs x y h = Contains-append_left xs (x ∷ []) y h
kept_if false xs x y h = h

new_if : {A : Type 0} (b : Bool) (xs : List A) (x : A) → IsTrue b → Contains (pushed_if b xs x) x
new_if true xs x h = Contains-push xs x
new_if false xs x h = absurd (true≢false (sym h))

either_if : {A : Type 0} (b : Bool) (xs : List A) (x y : A) → Contains (pushed_if b xs x) y → Contains xs y ⊎ (x ≡ y)
either_if true xs x y h = Contains-push_cases xs x y h
either_if false xs x y h = inl h

-- ---- nodes

-- a node inside the strip has at most 256 columns
wide : (n w : ℕ) → 256 ≤ n * w → n * w + w ≤ 512 → w ≤ 256
wide zero w from to = absurd (omega arith)
wide (suc n) w from to =
    let more : suc n * w ≡ n * w + w = omega arith in
    omega (arith, more)

level : (l w : ℕ) → w ≡ 2 ^ l → w ≤ 256 → l ≤ 8
level l w is small =
    ⊎_elim (λ (h : l < 9). omega (arith, h)) (λ (h : 9 ≤ l). absurd (more (pow_mono h))) (split l 9)
  where
    more : 2 ^ 9 ≤ 2 ^ l → ⊥
    more big = omega (arith, is, small, big)

-- the leaf by how far right of the strip's first column the column lies
pub nearest : (k x d r : ℤ) → d ≡ x -ℤ pos 256 *ℤ k → r ≡ int_max (pos 0) (int_min d (pos 256))
    → IsNearestLeaf k x (unsigned_abs (pos 256 +ℤ r))
nearest k x d r is clamped =
    record {
      low = omega (arith, signed, clamps, clamped);
      high = omega (arith, signed, clamps, clamped);
      left = λ h. omega (arith, signed, clamps, clamped, is, h);
      right = λ h. omega (arith, signed, clamps, clamped, is, h);
    }

-- ---- what is left of an edge

-- the pieces of an edge so far: those of its leaves that are below no piece are below nodes of w columns from one on and
-- before another
pub record IsCut (k : ℤ) (e : EdgeEnds) (old new : List RankedPiece) (first end w : ℕ) : Type 0 where
  pub power : (l : ℕ) × (w ≡ 2 ^ l)
  pub low : 256 ≤ first * w
  pub high : end * w ≤ 512
  pub from : first < end → e.a.x ≤ℤ column k (pos (first * w))
  pub to : first < end → column k (pos (end * w)) ≤ℤ e.b.x
  pub kept : (r : RankedPiece) → Contains old r → Contains new r
  pub each : (r : RankedPiece) → Contains new r → Contains old r ⊎ ((v : ℤ) × IsRanked k (e ∷ []) v r)
  pub all : (leaf : ℕ) → 256 ≤ leaf
      → leaf < 512
      → HasColumn e (column k (pos leaf))
      → ((first * w ≤ leaf) × (leaf < end * w))
      ⊎ ((r : RankedPiece) × Contains new r × IsPieceAt k (e ∷ []) e (pos leaf) r.piece)

-- before the first piece
pub cut_none : (k : ℤ) (e : EdgeEnds) (old : List RankedPiece) (first end : ℕ) → IsNearestLeaf k e.a.x first
    → IsNearestLeaf k e.b.x end → IsCut k e old old first end 1
cut_none k e old first end a b =
    record {
      power = (0, refl);
      low = omega (arith, a.low);
      high = omega (arith, b.high);
      from = λ h. subst (λ n. e.a.x ≤ℤ column k (pos n)) (once first) (a.right (omega (arith, h, b.high)));
      to = λ h. subst (λ n. column k (pos n) ≤ℤ e.b.x) (once end) (b.left (omega (arith, h, a.low)));
      kept = λ r h. h;
      each = λ r h. inl h;
      all = λ leaf low high has. inl (starts leaf low has, ends leaf high has);
    }
  where
    once : (n : ℕ) → n ≡ n * 1
    once n = omega arith

    starts : (leaf : ℕ) → 256 ≤ leaf → HasColumn e (column k (pos leaf)) → first * 1 ≤ leaf
    starts leaf low has =
        ⊎_elim (λ (h : leaf < first). omega (arith, signed, h, a.left (omega (arith, h, low)), has.from))
        (λ (h : first ≤ leaf). omega (arith, h)) (split leaf first)

    ends : (leaf : ℕ) → leaf < 512 → HasColumn e (column k (pos leaf)) → leaf < end * 1
    ends leaf high has =
        ⊎_elim (λ (h : leaf < end). omega (arith, h))
        (λ (h : end ≤ leaf). omega (arith, signed, h, b.right (omega (arith, h, high)), has.to)) (split leaf end)

-- when nothing is left
pub cut_all : (k : ℤ) (e : EdgeEnds) (old new : List RankedPiece) (first end w : ℕ) → end ≤ first
    → IsCut k e old new first end w → HavePiecesOf k e old new
cut_all k e old new first end w none so = record { kept = so.kept; each = so.each; all = all }
  where
    all : (leaf : ℤ) → pos 256 ≤ℤ leaf → leaf <ℤ pos 512 → HasColumn e (column k leaf)
        → (r : RankedPiece) × Contains new r × IsPieceAt k (e ∷ []) e leaf r.piece
    all (pos n) low high has =
        let past = mul-le end w first w none (omega arith) in
        ⊎_elim (λ (left : (first * w ≤ n) × (n < end * w)). absurd (omega (arith, left.0, left.1, past))) (λ there. there)
        (so.all n (omega (arith, signed, low)) (omega (arith, signed, high)) has)
    all (negsuc n) low high has = absurd (omega (arith, signed, low))

module _ (k : ℤ) (e : EdgeEnds) (old new : List RankedPiece) (first end w : ℕ) (so : IsCut k e old new first end w) where
  -- as long as nodes are left, they are at most 256 columns wide
  pub at_most_256 : first < end → w ≤ 256
  at_most_256 some =
      let right : suc first * w ≤ end * w = mul-le (suc first) w end w some (omega arith) in
      let more : suc first * w ≡ first * w + w = omega arith in
      wide first w so.low (omega (arith, so.high, right, more))

  -- each of the nodes that are left may become a piece
  pub piece_over : (n : ℕ) → first ≤ n → n < end → IsPiece k (e ∷ []) (pos w) (record { node = pos n; edge = e })
  piece_over n after before =
      let low = so.low in
      let high = so.high in
      let left : first * w ≤ n * w = mul-le first w n w after (omega arith) in
      let right : suc n * w ≤ end * w = mul-le (suc n) w end w (omega (arith, before)) (omega arith) in
      let more : suc n * w ≡ n * w + w = omega arith in
      let some : first < end = omega (arith, after, before) in
      record {
        edge = Contains-push [] e;
        node = record {
          power = (so.power.0, level so.power.0 w so.power.1 (at_most_256 some), ap pos so.power.1);
          from = omega (arith, signed, low, left);
          to = omega (arith, signed, high, right, more);
        };
        from = omega (arith, signed, so.from some, left);
        to = omega (arith, signed, so.to some, right, more);
      }

  piece_at : (n leaf : ℕ) → first ≤ n → n < end → n * w ≤ leaf → leaf < n * w + w
      → IsPieceAt k (e ∷ []) e (pos leaf) (record { node = pos n; edge = e })
  piece_at n leaf after before from to =
      record {
        edge = refl;
        over = (pos w, piece_over n after before, record { from = omega (arith, signed, from); to = omega (arith, signed, to) });
      }

  ranked_over : (n : ℕ) → first ≤ n → n < end → IsRanked k (e ∷ []) (pos w) (ranked_piece k e (pos n) (pos w))
  ranked_over n after before = record { piece = piece_over n after before; rank = refl }

-- ---- one width more

odd_or_even : (n : ℕ) → (n % 2 ≡ 1) ⊎ (n % 2 ≡ 0)
odd_or_even n = grind arith

regroup : (n w : ℕ) → n * (w * 2) ≡ (n * 2) * w
regroup n w = omega arith

twice : (n m w : ℕ) → n * 2 ≡ m → n * (w * 2) ≡ m * w
twice n m w e = regroup n w ∙ ap (λ z. z * w) e

-- the columns that are left lie between the same bounds, or nearer ones
first_up : (f w : ℕ) → f * w ≤ (f + 1) / 2 * (w * 2)
first_up f w =
    let more : f ≤ (f + 1) / 2 * 2 = omega arith in
    let product = mul-le f w ((f + 1) / 2 * 2) w more (omega arith) in
    omega (arith, product, regroup ((f + 1) / 2) w)

end_up : (n w : ℕ) → n / 2 * (w * 2) ≤ n * w
end_up n w =
    let less : n / 2 * 2 ≤ n = omega arith in
    let product = mul-le (n / 2 * 2) w n w less (omega arith) in
    omega (arith, product, regroup (n / 2) w)

-- a leaf between them is below the first node, which is odd then
first_taken : (f w leaf : ℕ) → f * w ≤ leaf → leaf < (f + 1) / 2 * (w * 2) → (f % 2 ≡ 1) × (leaf < f * w + w)
first_taken f w leaf from to =
    ⊎_elim
    (λ (odd : f % 2 ≡ 1).
    let half : (f + 1) / 2 * 2 ≡ f + 1 = omega (arith, odd) in
    let whole = twice ((f + 1) / 2) (f + 1) w half in
    let more : (f + 1) * w ≡ f * w + w = omega arith in
    (odd, omega (arith, to, whole, more)))
    (λ (even : f % 2 ≡ 0).
    let half : (f + 1) / 2 * 2 ≡ f = omega (arith, even) in
    let whole = twice ((f + 1) / 2) f w half in
    absurd (omega (arith, from, to, whole)))
    (odd_or_even f)

end_taken : (n w leaf : ℕ) → n / 2 * (w * 2) ≤ leaf → leaf < n * w
    → (n % 2 ≡ 1) × ((n - 1) * w ≤ leaf) × (leaf < (n - 1) * w + w)
end_taken n w leaf from to =
    ⊎_elim
    (λ (odd : n % 2 ≡ 1).
    let half : n / 2 * 2 ≡ n - 1 = omega (arith, odd) in
    let whole = twice (n / 2) (n - 1) w half in
    let one : n ≡ suc (n - 1) = omega (arith, odd) in
    let more : n * w ≡ (n - 1) * w + w = ap (λ z. z * w) one ∙ once_more (n - 1) w in
    (odd, omega (arith, from, whole), omega (arith, to, more)))
    (λ (even : n % 2 ≡ 0).
    let half : n / 2 * 2 ≡ n = omega (arith, even) in
    let whole = twice (n / 2) n w half in
    absurd (omega (arith, from, to, whole)))
    (odd_or_even n)
  where
    once_more : (m w : ℕ) → suc m * w ≡ m * w + w
    once_more m w = omega arith

-- the pieces over the first node and the last one are added where these are odd ends
pub cut_more : (k : ℤ) (e : EdgeEnds) (old new : List RankedPiece) (first end w : ℕ) (b c : Bool)
    → IsCut k e old new first end w → first < end
    → (IsTrue b ↔ (first % 2 ≡ 1)) → (IsTrue c ↔ (end % 2 ≡ 1))
    → IsCut k e old
    (pushed_if c (pushed_if b new (ranked_piece k e (pos first) (pos w))) (ranked_piece k e (pos (end - 1)) (pos w)))
    ((first + 1) / 2) (end / 2) (w * 2)
cut_more k e old new first end w b c so some odd_first odd_end =
    record {
      power = (suc so.power.0, ap (λ z. z * 2) so.power.1 ∙ power so.power.0);
      low = omega (arith, so.low, first_up first w);
      high = omega (arith, so.high, end_up end w);
      from = λ h. omega (arith, signed, so.from some, first_up first w);
      to = λ h. omega (arith, signed, so.to some, end_up end w);
      kept = λ r h. kept_if c one q r (kept_if b new p r (so.kept r h));
      each = each;
      all = λ leaf low high has. ⊎_elim (λ (left : (first * w ≤ leaf) × (leaf < end * w)). below leaf left.0 left.1)
          (λ (there : (r : RankedPiece) × Contains new r × IsPieceAt k (e ∷ []) e (pos leaf) r.piece).
          inr (there.0, kept_if c one q there.0 (kept_if b new p there.0 there.1), there.2))
          (so.all leaf low high has);
    }
  where
    p : RankedPiece
    p = ranked_piece k e (pos first) (pos w)

    q : RankedPiece
    q = ranked_piece k e (pos (end - 1)) (pos w)

    one : List RankedPiece
    one = pushed_if b new p

    power : (l : ℕ) → 2 ^ l * 2 ≡ 2 ^ suc l
    power l = omega arith

    is_p : IsRanked k (e ∷ []) (pos w) p
    is_p = ranked_over k e old new first end w so first (omega arith) some

    is_q : IsRanked k (e ∷ []) (pos w) q
    is_q = ranked_over k e old new first end w so (end - 1) (omega (arith, some)) (omega (arith, some))

    each : (r : RankedPiece) → Contains (pushed_if c one q) r → Contains old r ⊎ ((v : ℤ) × IsRanked k (e ∷ []) v r)
    each r h =
        ⊎_elim
        (λ (h : Contains one r).
        ⊎_elim (so.each r) (λ (same : p ≡ r). inr (pos w, subst (IsRanked k (e ∷ []) (pos w)) same is_p))
        (either_if b new p r h))
        (λ (same : q ≡ r). inr (pos w, subst (IsRanked k (e ∷ []) (pos w)) same is_q))
        (either_if c one q r h)

    below : (leaf : ℕ) → first * w ≤ leaf → leaf < end * w
        → (((first + 1) / 2 * (w * 2) ≤ leaf) × (leaf < end / 2 * (w * 2)))
        ⊎ ((r : RankedPiece) × Contains (pushed_if c one q) r × IsPieceAt k (e ∷ []) e (pos leaf) r.piece)
    below leaf from to =
        ⊎_elim
        (λ (taken : leaf < (first + 1) / 2 * (w * 2)).
        let is = first_taken first w leaf from taken in
        inr (
          p,
          kept_if c one q p (new_if b new p (odd_first.1 is.0)),
          piece_at k e old new first end w so first leaf (omega arith) some from is.1,
        ))
        (λ (rest : (first + 1) / 2 * (w * 2) ≤ leaf).
        ⊎_elim (λ (inside : leaf < end / 2 * (w * 2)). inl (rest, inside))
        (λ (taken : end / 2 * (w * 2) ≤ leaf).
        let is = end_taken end w leaf taken to in
        inr (
          q,
          new_if c one q (odd_end.1 is.0),
          piece_at k e old new first end w so (end - 1) leaf (omega (arith, some)) (omega (arith, some)) is.1 is.2,
        ))
        (split leaf (end / 2 * (w * 2))))
        (split leaf ((first + 1) / 2 * (w * 2)))
