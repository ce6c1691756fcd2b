-- The walk, column after column: what is pushed is the part of the list along the segment, and the rows
-- and columns that are left never grow beyond the room that was asked for.

use Rattle.std.proofs.Common.{◌≡◌, refl, ap, sym, subst, ◌∙◌, ◌<◌, arith, ⊎_elim, inl, inr}
use Rattle.std.proofs.Common.{Bool, true, false, true≢false, IsTrue, [], ◌∷◌, ◌++◌, Contains, Less}
use Rattle.std.specs.Prelude.{ℤ, pos, ◌+ℤ◌, ◌-ℤ◌, ◌*ℤ◌, ◌≤ℤ◌, ◌<ℤ◌, ◌⊎◌, if◌then◌else◌, not, ◌&&◌}
use Rattle.std.specs.Ordering.{int_eq}
use Rattle.std.proofs.lemmas.Bool.{cases_Bool}
use Rattle.std.proofs.lemmas.Bool.Decides.{Decides-int_eq}
use Rattle.grid_core.specs.declared.tile.TileId.{TileId}
use Rattle.grid_core.specs.Profile.{Sizes}
use Rattle.grid_core.specs.Vector.{point_cmp}
use Rattle.grid_core.specs.Segment.{Segment}
use Rattle.grid_core.specs.Tiles.{along, falls, meets_tile, tile_of}
use Rattle.grid_core.proofs.Order.{point_less}
use Rattle.grid_core.proofs.Ring.{int_lt_or_le}
use Rattle.grid_core.proofs.Polynomial.{V, K, ◌⊖◌, ◌⊗◌, same_polynomial}
use Rattle.grid_core.proofs.Signed.{signed, from_lt_true, from_lt_false}
use Rattle.tile_walk.specs.Borders.{tile_height, IsBorder, IsEntry}
use Rattle.tile_walk.specs.Columns.{column_from, column_up, column_down, before}
use Rattle.tile_walk.specs.Steps.{exit_of}
use Rattle.tile_walk.proofs.Columns.{contains_up, contains_down, sorted_up, sorted_down, column_next}
use Rattle.tile_walk.proofs.Lines.{IsRising, IsFalling}
use Rattle.tile_walk.proofs.Rows.{IsUpperExit, IsLowerExit, rising_rows, falling_rows}

-- ---- up or down

pub rises_or_falls : (s : Segment) → point_cmp s.p s.q ≡ Less
    → ((falls s ≡ false) × IsRising s) ⊎ ((falls s ≡ true) × IsFalling s)
rises_or_falls s ordered =
    ⊎_elim
    (λ (f : falls s ≡ true).
    inr (f, falling (from_lt_true s.q.y s.p.y f) (point_less s.p s.q ordered)))
    (λ (f : falls s ≡ false). inl (f, rising (from_lt_false s.q.y s.p.y f) (point_less s.p s.q ordered)))
    (cases_Bool (falls s))
  where
    rising : s.p.y ≤ℤ s.q.y → (s.p.x <ℤ s.q.x) ⊎ ((s.p.x ≡ s.q.x) × (s.p.y <ℤ s.q.y)) → IsRising s
    rising h (inl l) =
        record {
          right = omega (arith, signed, l);
          up = omega (arith, signed, h);
          some = omega (arith, signed, h, l);
        }
    rising h (inr l) =
        record {
          right = omega (arith, signed, l.0);
          up = omega (arith, signed, h);
          some = omega (arith, signed, l.0, l.1);
        }

    falling : s.q.y <ℤ s.p.y → (s.p.x <ℤ s.q.x) ⊎ ((s.p.x ≡ s.q.x) × (s.p.y <ℤ s.q.y)) → IsFalling s
    falling h (inl l) = record { right = omega (arith, signed, l); down = omega (arith, signed, h) }
    falling h (inr l) = absurd (omega (arith, signed, h, l.1))

-- ---- one column

module _ (pr : Sizes) (some : 0 < pr.side) (s : Segment) (ordered : point_cmp s.p s.q ≡ Less) (i : ℤ)
    (after_p : (tile_of pr s.p).i ≤ℤ i) (before_q : i ≤ℤ (tile_of pr s.q).i) where
  here : (t : TileId) → t.i ≡ i → t ≡ record { i = i; j = t.j }
  here t e = λ n. record { i = e n; j = t.j }

  rising_column : falls s ≡ false → IsRising s → (from to : ℤ) → IsEntry pr s i from → IsUpperExit pr s i to
      → before (i +ℤ pos 1) (along pr s) ≡ before i (along pr s) ++ column_up i from to
  rising_column f r from to e x =
      column_next pr some s ordered i (column_up i from to) (sorted_up s i from to f) (λ t. (out t, back t))
    where
      out : (t : TileId) → Contains (column_up i from to) t → IsTrue (meets_tile pr t s) × (t.i ≡ i)
      out t c =
          let in_rows = (contains_up i from to t).0 c in (
            subst (λ u. IsTrue (meets_tile pr u s)) (sym (here t in_rows.column))
                ((rising_rows pr some s ordered i after_p before_q r from to e x t.j).1 (in_rows.least, in_rows.most)),
            in_rows.column,
          )

      back : (t : TileId) → IsTrue (meets_tile pr t s) × (t.i ≡ i) → Contains (column_up i from to) t
      back t m =
          let rows = (rising_rows pr some s ordered i after_p before_q r from to e x t.j).0
          (subst (λ u. IsTrue (meets_tile pr u s)) (here t m.1) m.0) in
          (contains_up i from to t).1 (record { column = m.1; least = rows.0; most = rows.1 })

  falling_column : falls s ≡ true → IsFalling s → (from to : ℤ) → IsEntry pr s i from → IsLowerExit pr s i to
      → before (i +ℤ pos 1) (along pr s) ≡ before i (along pr s) ++ column_down i from to
  falling_column f r from to e x =
      column_next pr some s ordered i (column_down i from to) (sorted_down s i to from f) (λ t. (out t, back t))
    where
      out : (t : TileId) → Contains (column_down i from to) t → IsTrue (meets_tile pr t s) × (t.i ≡ i)
      out t c =
          let in_rows = (contains_down i to from t).0 c in (
            subst (λ u. IsTrue (meets_tile pr u s)) (sym (here t in_rows.column))
                ((falling_rows pr some s ordered i after_p before_q r from to e x t.j).1 (in_rows.least, in_rows.most)),
            in_rows.column,
          )

      back : (t : TileId) → IsTrue (meets_tile pr t s) × (t.i ≡ i) → Contains (column_down i from to) t
      back t m =
          let rows = (falling_rows pr some s ordered i after_p before_q r from to e x t.j).0
          (subst (λ u. IsTrue (meets_tile pr u s)) (here t m.1) m.0) in
          (contains_down i to from t).1 (record { column = m.1; least = rows.0; most = rows.1 })

  as_up : falls s ≡ false → (from to : ℤ) → column_up i from to ≡ column_from (falls s) i from to
  as_up f from to = ap (λ b. column_from b i from to) (sym f)

  as_down : falls s ≡ true → (from to : ℤ) → column_down i from to ≡ column_from (falls s) i from to
  as_down f from to = ap (λ b. column_from b i from to) (sym f)

  -- the last column, which ends in the row of q
  pub last_column : i ≡ (tile_of pr s.q).i → (from : ℤ) → IsEntry pr s i from
      → before (i +ℤ pos 1) (along pr s) ≡ before i (along pr s) ++ column_from (falls s) i from (tile_of pr s.q).j
  last_column e from entry =
      ⊎_elim
      (λ (r : (falls s ≡ false) × IsRising s).
      rising_column r.0 r.1 from (tile_of pr s.q).j entry (inl (e, refl))
      ∙ ap (λ ts. before i (along pr s) ++ ts) (as_up r.0 from (tile_of pr s.q).j))
      (λ (f : (falls s ≡ true) × IsFalling s).
      falling_column f.0 f.1 from (tile_of pr s.q).j entry (inl (e, refl))
      ∙ ap (λ ts. before i (along pr s) ++ ts) (as_down f.0 from (tile_of pr s.q).j))
      (rises_or_falls s ordered)

-- ---- a border on the way

-- what is known of a border between two columns of the segment
module _ (pr : Sizes) (some : 0 < pr.side) (s : Segment) (ordered : point_cmp s.p s.q ≡ Less) (i row above : ℤ)
    (after_p : (tile_of pr s.p).i ≤ℤ i) (before_q : i <ℤ (tile_of pr s.q).i)
    (border : IsBorder pr s (i +ℤ pos 1) row above) where
  later : (tile_of pr s.p).i <ℤ (i +ℤ pos 1)
  later = omega (arith, signed, after_p)

  soon : (i +ℤ pos 1) ≤ℤ (tile_of pr s.q).i
  soon = omega (arith, signed, before_q)

  -- the segment enters the next column here
  pub next_entry : IsEntry pr s (i +ℤ pos 1) row
  next_entry = inr (later, (above, border))

  -- the row below the height at the border
  upper_exit : (falls s ≡ false) → IsUpperExit pr s i (exit_of (falls s) (record { row = row; above = above }))
  upper_exit f =
      ⊎_elim
      (λ (on : int_eq above (pos 0) ≡ true).
      let zero : above ≡ pos 0 = (Decides-int_eq above (pos 0)).0 on in
      let exit : row -ℤ pos 1 ≡ exit_of (falls s) (record { row = row; above = above }) =
      sym (λ n. if on n && not (f n) then row -ℤ pos 1 else row) in
      subst (IsUpperExit pr s i) exit
      (inr (
        before_q,
        (
          tile_height pr s -ℤ pos 1,
          record {
            whole_and_rest = omega (arith, signed, border.whole_and_rest, zero, one_less (tile_height pr s) row);
            low = omega (arith, signed, border.low, border.high);
            high = omega (arith, signed);
          },
        ),
      )))
      (λ (off : int_eq above (pos 0) ≡ false).
      let exit : row ≡ exit_of (falls s) (record { row = row; above = above }) =
      sym (λ n. if off n && not (f n) then row -ℤ pos 1 else row) in
      let some_rest : pos 1 ≤ℤ above = positive off in
      subst (IsUpperExit pr s i) exit
      (inr (
        before_q,
        (
          above -ℤ pos 1,
          record {
            whole_and_rest = omega (arith, signed, border.whole_and_rest);
            low = omega (arith, signed, some_rest);
            high = omega (arith, signed, border.high);
          },
        ),
      )))
      (cases_Bool (int_eq above (pos 0)))
    where
      one_less : (m r : ℤ) → m *ℤ (r -ℤ pos 1) ≡ m *ℤ r -ℤ m
      one_less m r =
          same_polynomial (m ∷ r ∷ []) (V 0 ⊗ (V 1 ⊖ K (pos 1))) (V 0 ⊗ V 1 ⊖ V 0) refl

      positive : int_eq above (pos 0) ≡ false → pos 1 ≤ℤ above
      positive off =
          ⊎_elim (λ (l : pos 0 <ℤ above). omega (arith, signed, l))
          (λ (l : above ≤ℤ pos 0).
          absurd (true≢false (sym ((Decides-int_eq above (pos 0)).1 (omega (arith, signed, l, border.low))) ∙ off)))
          (int_lt_or_le (pos 0) above)

  lower_exit : (falls s ≡ true) → IsLowerExit pr s i (exit_of (falls s) (record { row = row; above = above }))
  lower_exit f =
      let exit : row ≡ exit_of (falls s) (record { row = row; above = above }) =
      sym ((λ n. if int_eq above (pos 0) && not (f n) then row -ℤ pos 1 else row)
      ∙ ap (λ b. if b then row -ℤ pos 1 else row) (and-false (int_eq above (pos 0)))) in
      subst (IsLowerExit pr s i) exit (inr (before_q, (above, border)))
    where
      and-false : (b : Bool) → (b && false) ≡ false
      and-false true = refl
      and-false false = refl

  -- the column before the border
  pub next_column : (from : ℤ) → IsEntry pr s i from
      → before (i +ℤ pos 1) (along pr s)
      ≡ before i (along pr s) ++ column_from (falls s) i from (exit_of (falls s) (record { row = row; above = above }))
  next_column from entry =
      ⊎_elim
      (λ (r : (falls s ≡ false) × IsRising s).
      rising_column pr some s ordered i after_p (omega (arith, signed, before_q)) r.0 r.1 from _ entry (upper_exit r.0)
      ∙ ap (λ ts. before i (along pr s) ++ ts)
      (as_up pr some s ordered i after_p (omega (arith, signed, before_q)) r.0 from _))
      (λ (f : (falls s ≡ true) × IsFalling s).
      falling_column pr some s ordered i after_p (omega (arith, signed, before_q)) f.0 f.1 from _ entry (lower_exit f.0)
      ∙ ap (λ ts. before i (along pr s) ++ ts)
      (as_down pr some s ordered i after_p (omega (arith, signed, before_q)) f.0 from _))
      (rises_or_falls s ordered)
