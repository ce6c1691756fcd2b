-- The state of the walk before each column: what was pushed, where the segment enters the column, where
-- its line passes the border behind it, and the room that is left. It begins, and goes on.

use Rattle.std.proofs.Common.{◌≡◌, refl, ap, sym, ◌∙◌, ℕ, ◌+◌, ◌<◌, ◌≤◌, arith, List, ◌++◌, append_assoc, append-nil, Less, inl, ⊎_elim}
use Rattle.std.proofs.Common.{Bool}
use Rattle.std.specs.Prelude.{ℤ, pos, ◌^◌, ◌+ℤ◌, ◌*ℤ◌, ◌≤ℤ◌, ◌<ℤ◌, unsigned_abs}
use Rattle.grid_core.specs.declared.tile.TileId.{TileId}
use Rattle.grid_core.specs.Profile.{Sizes}
use Rattle.grid_core.specs.Vector.{point_cmp}
use Rattle.grid_core.specs.Segment.{Segment, IsSegment}
use Rattle.grid_core.specs.Tiles.{along, falls, tile_of}
use Rattle.grid_core.proofs.Order.{point_less}
use Rattle.grid_core.proofs.Quotients.{floor_rises}
use Rattle.grid_core.proofs.Ring.{int_lt_or_le}
use Rattle.grid_core.proofs.Signed.{signed}
use Rattle.tile_walk.specs.declared.border.Rise.{Rise}
use Rattle.tile_walk.specs.Borders.{height_at, IsSplit, IsBorder, IsEntry}
use Rattle.tile_walk.specs.Columns.{column_from, rows_from, most_tiles, before}
use Rattle.tile_walk.specs.Steps.{exit_of, IsRise}
use Rattle.tile_walk.proofs.Columns.{none_before, all_before}
use Rattle.tile_walk.proofs.Floors.{same_split}
use Rattle.tile_walk.proofs.Lines.{next_height}
use Rattle.tile_walk.proofs.Room.{next_room, small_row, small_exit}
use Rattle.tile_walk.proofs.Walked.{next_entry, next_column, last_column}

-- the columns before i are pushed
pub record IsWalked (pr : Sizes) (s : Segment) (old now : List TileId) (i entry row above : ℤ) (len cap : ℕ) : Type 0 where
  pub after_p : (tile_of pr s.p).i ≤ℤ i
  pub before_q : i ≤ℤ (tile_of pr s.q).i
  pub entry_is : IsEntry pr s i entry
  pub border : IsBorder pr s (i +ℤ pos 1) row above
  pub items : now ≡ old ++ before i (along pr s)
  pub room : len + most_tiles (record { i = i; j = entry }) (tile_of pr s.q) ≤ cap

-- the next border, by what a step says of each height
pub next_is_border : (pr : Sizes) (s : Segment) (r : Rise) (i row above row' above' : ℤ) → IsRise pr s r
    → IsBorder pr s i row above
    → ((h : ℤ) → IsSplit r.tile h row above → IsSplit r.tile (h +ℤ (r.tile *ℤ r.rows +ℤ r.rest)) row' above')
    → IsBorder pr s (i +ℤ pos 1) row' above'
next_is_border pr s r i row above row' above' rise border step =
    same_split rise.tile_is (ap (λ n. height_at pr s i +ℤ n) rise.rises ∙ sym (next_height pr s i))
    (step (height_at pr s i) (same_split (sym rise.tile_is) refl border))

module _ (pr : Sizes) (some : 0 < pr.side) (s : Segment) (ordered : point_cmp s.p s.q ≡ Less) where
  pub begun : (old : List TileId) (row above : ℤ) (len cap : ℕ) → (tile_of pr s.p).i ≤ℤ (tile_of pr s.q).i
      → IsBorder pr s ((tile_of pr s.p).i +ℤ pos 1) row above
      → len + most_tiles (tile_of pr s.p) (tile_of pr s.q) ≤ cap
      → IsWalked pr s old old (tile_of pr s.p).i (tile_of pr s.p).j row above len cap
  begun old row above len cap h border room =
      record {
        after_p = omega (arith, signed);
        before_q = h;
        entry_is = inl (refl, refl);
        border = border;
        items = sym (ap (λ ts. old ++ ts) (none_before pr some s ordered) ∙ append-nil old);
        room = room;
      }

  module _ {old now : List TileId} {i entry row above : ℤ} {len cap : ℕ}
      (w : IsWalked pr s old now i entry row above len cap) where
    -- the room that column i needs
    pub has_room : i <ℤ (tile_of pr s.q).i
        → len + rows_from (falls s) entry (exit_of (falls s) (record { row = row; above = above })) ≤ cap
    has_room h =
        omega (arith, w.room, next_room pr some s ordered i row above w.after_p h w.border entry w.entry_is)

    -- the rows at the border, and of the exit, are small
    pub rows_small : IsSegment (2 ^ 30) s → i <ℤ (tile_of pr s.q).i
        → (unsigned_abs row ≤ 2 ^ 30)
        × (unsigned_abs (exit_of (falls s) (record { row = row; above = above })) ≤ 2 ^ 30 + 1)
    rows_small seg h = (
      small_row pr some s ordered i row above w.after_p h w.border seg.p_within.y seg.q_within.y,
      small_exit pr some s ordered i row above w.after_p h w.border seg.p_within.y seg.q_within.y,
    )

    pub goes_on : (now' : List TileId) (row' above' : ℤ) (len' cap' : ℕ) → i <ℤ (tile_of pr s.q).i
        → now' ≡ now ++ column_from (falls s) i entry (exit_of (falls s) (record { row = row; above = above }))
        → len' ≡ len + rows_from (falls s) entry (exit_of (falls s) (record { row = row; above = above }))
        → cap' ≡ cap → IsBorder pr s (i +ℤ pos 1 +ℤ pos 1) row' above'
        → IsWalked pr s old now' (i +ℤ pos 1) row row' above' len' cap'
    goes_on now' row' above' len' cap' h column longer same border =
        let pushed = column_from (falls s) i entry (exit_of (falls s) (record { row = row; above = above })) in
        record {
          after_p = omega (arith, signed, w.after_p);
          before_q = omega (arith, signed, h);
          entry_is = next_entry pr some s ordered i row above w.after_p h w.border;
          border = border;
          items =
              column ∙ ap (λ ts. ts ++ pushed) w.items ∙ append_assoc old (before i (along pr s)) pushed
              ∙ ap (λ ts. old ++ ts) (sym (next_column pr some s ordered i row above w.after_p h w.border entry w.entry_is));
          room = omega (
            arith,
            w.room,
            longer,
            same,
            next_room pr some s ordered i row above w.after_p h w.border entry w.entry_is,
          );
        }

  -- the last column ends the walk
  pub ends : (old now new : List TileId) (i entry : ℤ) → (tile_of pr s.p).i ≤ℤ i → i ≡ (tile_of pr s.q).i
      → IsEntry pr s i entry → now ≡ old ++ before i (along pr s)
      → new ≡ now ++ column_from (falls s) i entry (tile_of pr s.q).j → new ≡ old ++ along pr s
  ends old now new i entry h e entry_is items column =
      let pushed = column_from (falls s) i entry (tile_of pr s.q).j in
      column ∙ ap (λ ts. ts ++ pushed) items ∙ append_assoc old (before i (along pr s)) pushed
      ∙ ap (λ ts. old ++ ts)
      (sym (last_column pr some s ordered i h (omega (arith, signed, e)) e entry entry_is)
      ∙ ap (λ k. before (k +ℤ pos 1) (along pr s)) e ∙ all_before pr some s ordered)

-- the column of q isn't left of that of p
pub columns_rise : (pr : Sizes) → 0 < pr.side → (s : Segment) → point_cmp s.p s.q ≡ Less
    → (tile_of pr s.p).i ≤ℤ (tile_of pr s.q).i
columns_rise pr some s ordered =
    floor_rises s.p.x s.q.x (pos pr.side) (omega (arith, signed, some))
    (⊎_elim (λ (l : s.p.x <ℤ s.q.x). omega (arith, signed, l))
    (λ (l : (s.p.x ≡ s.q.x) × (s.p.y <ℤ s.q.y)). omega (arith, signed, l.0))
    (point_less s.p s.q ordered))

-- ---- the whole list

module _ (pr : Sizes) (some : 0 < pr.side) (s : Segment) (ordered : point_cmp s.p s.q ≡ Less) (down : Bool)
    (falls_is : down ≡ falls s) (first last : TileId) (first_is : first ≡ tile_of pr s.p)
    (last_is : last ≡ tile_of pr s.q) where
  ends_column : (i entry : ℤ) → last.i ≡ i
      → column_from down last.i entry last.j ≡ column_from (falls s) i entry (tile_of pr s.q).j
  ends_column i entry e = λ n. column_from (falls_is n) (e n) entry (last_is n).j

  -- where there is one column
  pub one_column : (old now new : List TileId) → first.i ≡ last.i → now ≡ old
      → new ≡ now ++ column_from down last.i first.j last.j → new ≡ old ++ along pr s
  one_column old now new same kept column =
      let start = ap (λ t. t.i) first_is in
      let end = ap (λ t. t.i) last_is in
      ends pr some s ordered old now new (tile_of pr s.p).i (tile_of pr s.p).j (omega (arith, signed))
      (sym start ∙ same ∙ end) (inl (refl, refl))
      (kept ∙ sym (ap (λ ts. old ++ ts) (none_before pr some s ordered) ∙ append-nil old))
      (column ∙ ap (λ j. now ++ column_from down last.i j last.j) (ap (λ t. t.j) first_is)
      ∙ ap (λ ts. now ++ ts) (ends_column (tile_of pr s.p).i (tile_of pr s.p).j (sym same ∙ start)))

  -- where others came before the last one
  pub more_columns : (old now new : List TileId) (entry : ℤ) → IsEntry pr s last.i entry
      → now ≡ old ++ before last.i (along pr s) → new ≡ now ++ column_from down last.i entry last.j
      → new ≡ old ++ along pr s
  more_columns old now new entry entry_is items column =
      let end = ap (λ t. t.i) last_is in
      let rise = columns_rise pr some s ordered in
      ends pr some s ordered old now new last.i entry (omega (arith, signed, end, rise)) end entry_is items
      (column ∙ ap (λ ts. now ++ ts) (ends_column last.i entry refl))

  -- the columns differ
  pub several : (first.i ≡ last.i → ⊥) → first.i <ℤ last.i
  several differ =
      ⊎_elim (λ (l : first.i <ℤ last.i). l)
      (λ (l : last.i ≤ℤ first.i).
      let start = ap (λ t. t.i) first_is in
      let end = ap (λ t. t.i) last_is in
      let rise = columns_rise pr some s ordered in
      absurd (differ (omega (arith, signed, l, start, end, rise))))
      (int_lt_or_le first.i last.i)
