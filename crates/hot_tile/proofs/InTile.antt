-- Whether a pixel lies in a tile, by its coordinates.
-- Each coordinate apart: the quotient by the side is the tile's number exactly where the coordinate is from the first of
-- the tile to the last.
use Rattle.std.proofs.Common.{◌≡◌, refl, ap, sym, ◌∙◌, subst, ℕ, ◌<◌, ◌+◌, ◌*◌, arith, Bool, true, false, cond, is_eq, Some, None}
use Rattle.std.specs.Prelude.{ℤ, pos, ◌-ℤ◌, ◌+ℤ◌, ◌*ℤ◌, ◌≤ℤ◌, ◌<ℤ◌, ◌&&◌, ◌↔◌, ◌⊎◌, ◌^◌, int_le, int_lt, IsTrue, unsigned_abs, ◌≤◌}
use Rattle.std.specs.Int.{int_div_euclid, int_min, int_max}
use Rattle.std.specs.Ordering.{int_cmp}
use Rattle.std.proofs.lemmas.Cmp.{int_cmp_total, tied_itself}
use Rattle.std.proofs.lemmas.Map.Lookups.{exact_signed}
use Rattle.grid_core.specs.declared.point.Point.{Point}
use Rattle.grid_core.specs.Tiles.{in_tile}
use Rattle.grid_core.specs.Vector.{IsWithin}
use Rattle.grid_core.specs.Profile.{IsProfile}
use Rattle.grid_core.specs.Segment.{Segment, IsSegment}
use Rattle.grid_core.specs.Tiles.{tile_box, meets_tile}
use Rattle.pixel_test.specs.Corners.{shares_columns_of, shares_rows_of, overlaps_of, straddles_of}
use Rattle.pixel_test.proofs.CornerTest.{corner_test}
use Rattle.hot_tile.specs.Frame.{TileFrame, IsFrame, lowest, key_of, key_in}
use Rattle.grid_core.proofs.Signed.{signed, from_le_true}
use Rattle.grid_core.proofs.Comparisons.{is_equal, both_tie}
use Rattle.grid_core.proofs.Quotients.{times_more, floor_le, below_floor_le, floor_ge, above_floor_ge}

-- the coordinate lies in the column, or the row, i of width m
pub in_column : (x i m : ℤ) → pos 0 <ℤ m
    → (is_eq (int_cmp (int_div_euclid x m) i) ≡ true) ↔ (((m *ℤ i) ≤ℤ x) × (x <ℤ (m *ℤ i +ℤ m)))
in_column x i m h = (there, back)
  where
    there : is_eq (int_cmp (int_div_euclid x m) i) ≡ true → ((m *ℤ i) ≤ℤ x) × (x <ℤ (m *ℤ i +ℤ m))
    there t =
        let e = exact_signed (int_div_euclid x m) i (is_equal (int_cmp (int_div_euclid x m) i) t) in
        let low = above_floor_ge x m i h (omega (arith, signed, e)) in
        let high = below_floor_le x m i h (omega (arith, signed, e)) in
        (low, omega (arith, signed, high, times_more m i))

    back : ((m *ℤ i) ≤ℤ x) × (x <ℤ (m *ℤ i +ℤ m)) → is_eq (int_cmp (int_div_euclid x m) i) ≡ true
    back parts =
        let low = floor_ge x m i h parts.0 in
        let high = floor_le x m i h (let top = parts.1 in omega (arith, signed, top, times_more m i)) in
        let same : int_div_euclid x m ≡ i = omega (arith, signed, low, high) in
        ap is_eq (ap (λ n. int_cmp n i) same ∙ tied_itself int_cmp_total i)

no_pair_left : (a b : Bool) → (a ≡ true → ⊥) → (a && b) ≡ false
no_pair_left true b h = absurd (h refl)
no_pair_left false b h = refl

no_pair_right : (a b : Bool) → (b ≡ true → ⊥) → (a && b) ≡ false
no_pair_right a true h = absurd (h refl)
no_pair_right true false h = refl
no_pair_right false false h = refl

module _ (f : TileFrame) (h : Point) (some : 0 < f.profile.side) where
  abbrev in_x : Bool
  in_x = is_eq (int_cmp (int_div_euclid h.x (pos f.profile.side)) f.id.i)

  abbrev in_y : Bool
  in_y = is_eq (int_cmp (int_div_euclid h.y (pos f.profile.side)) f.id.j)

  both : in_tile f.profile f.id h ≡ (in_x && in_y)
  both = both_tie (int_cmp (int_div_euclid h.x (pos f.profile.side)) f.id.i) (int_cmp (int_div_euclid h.y (pos f.profile.side)) f.id.j)

  -- what lies beside the tile has no key in it
  pub no_key_x : (h.x <ℤ (lowest f).x) ⊎ (((lowest f).x +ℤ pos f.profile.side) ≤ℤ h.x) → key_in f h ≡ None
  no_key_x out =
      ap (λ b. cond b (Some (key_of f h)) None)
      (both ∙ no_pair_left in_x in_y (λ t. let i = (in_column h.x f.id.i (pos f.profile.side) (omega (arith, signed, some))).0 t in
      omega (arith, signed, i.0, i.1, out)))

  -- what lies above or below the tile has no key in it
  pub no_key_y : (h.y <ℤ (lowest f).y) ⊎ (((lowest f).y +ℤ pos f.profile.side) ≤ℤ h.y) → key_in f h ≡ None
  no_key_y out =
      ap (λ b. cond b (Some (key_of f h)) None)
      (both ∙ no_pair_right in_x in_y (λ t. let i = (in_column h.y f.id.j (pos f.profile.side) (omega (arith, signed, some))).0 t in
      omega (arith, signed, i.0, i.1, out)))

  -- what lies in the tile has its key
  pub has_key_there : (lowest f).x ≤ℤ h.x → h.x <ℤ ((lowest f).x +ℤ pos f.profile.side)
      → (lowest f).y ≤ℤ h.y → h.y <ℤ ((lowest f).y +ℤ pos f.profile.side) → key_in f h ≡ Some (key_of f h)
  has_key_there a b c d =
      ap (λ b. cond b (Some (key_of f h)) None)
      (both ∙ (λ k. (in_column h.x f.id.i (pos f.profile.side) (omega (arith, signed, some))).1 (a, b) k
      && (in_column h.y f.id.j (pos f.profile.side) (omega (arith, signed, some))).1 (c, d) k))

-- a tile that a segment within the bound meets isn't far from where the bound is
pub near_bound : (f : TileFrame) (s : Segment) → IsProfile f.profile → IsSegment f.profile.bound s
    → IsTrue (meets_tile f.profile f.id s) → IsWithin (2 ^ 30 + 2 ^ 16) (lowest f)
near_bound f s sizes within met =
    let tests = corner_test s (tile_box f.profile f.id) within.ordered (omega (arith, signed, sizes.some_side)) (omega (arith, signed, sizes.some_side)) ∙ met in
    let over = (all_true (overlaps_of s (tile_box f.profile f.id)) (straddles_of s (tile_box f.profile f.id)) tests).0 in
    let sides = all_true (shares_columns_of s.p.x s.q.x (tile_box f.profile f.id)) (shares_rows_of s.p.y s.q.y (tile_box f.profile f.id)) over in
    let columns = all_true (int_le s.p.x (tile_box f.profile f.id).hi.x) (int_le (lowest f).x s.q.x) sides.0 in
    let rows = all_true (int_le (int_min s.p.y s.q.y) (tile_box f.profile f.id).hi.y) (int_le (lowest f).y (int_max s.p.y s.q.y)) sides.1 in
    let left = from_le_true s.p.x (tile_box f.profile f.id).hi.x columns.0 in
    let right = from_le_true (lowest f).x s.q.x columns.1 in
    let below = from_le_true (int_min s.p.y s.q.y) (tile_box f.profile f.id).hi.y rows.0 in
    let above = from_le_true (lowest f).y (int_max s.p.y s.q.y) rows.1 in
    record {
      x =
          omega (
            arith,
            signed,
            left,
            right,
            within.p_within.x,
            within.q_within.x,
            sizes.greatest_bound,
            sizes.greatest_side,
          );
      y = either (int_lt s.q.y s.p.y) below above;
    }
  where
    all_true : (a b : Bool) → (a && b) ≡ true → (a ≡ true) × (b ≡ true)
    all_true true b h = (refl, h)
    all_true false b h = cc

    either : (b : Bool) → cond b s.q.y s.p.y ≤ℤ (tile_box f.profile f.id).hi.y → (lowest f).y ≤ℤ cond b s.p.y s.q.y
        → unsigned_abs (lowest f).y ≤ 2 ^ 30 + 2 ^ 16
    either true below above =
        omega (
          arith,
          signed,
          below,
          above,
          within.p_within.y,
          within.q_within.y,
          sizes.greatest_bound,
          sizes.greatest_side,
        )
    either false below above =
        omega (
          arith,
          signed,
          below,
          above,
          within.p_within.y,
          within.q_within.y,
          sizes.greatest_bound,
          sizes.greatest_side,
        )

-- ---- by what a frame keeps

module _ (f : TileFrame) (lo : Point) (side : ℤ) (k : IsFrame f lo side) (h : Point) where
  pub beside : (h.x <ℤ lo.x) ⊎ ((lo.x +ℤ side) ≤ℤ h.x) → key_in f h ≡ None
  beside out =
      no_key_x f h k.sizes.some_side
      (subst (λ n. (h.x <ℤ (lowest f).x) ⊎ (((lowest f).x +ℤ n) ≤ℤ h.x)) k.wide
      (subst (λ (l : Point). (h.x <ℤ l.x) ⊎ ((l.x +ℤ side) ≤ℤ h.x)) k.first out))

  pub above_or_below : (h.y <ℤ lo.y) ⊎ ((lo.y +ℤ side) ≤ℤ h.y) → key_in f h ≡ None
  above_or_below out =
      no_key_y f h k.sizes.some_side
      (subst (λ n. (h.y <ℤ (lowest f).y) ⊎ (((lowest f).y +ℤ n) ≤ℤ h.y)) k.wide
      (subst (λ (l : Point). (h.y <ℤ l.y) ⊎ ((l.y +ℤ side) ≤ℤ h.y)) k.first out))

  module _ (column row : ℕ) (left : lo.x ≤ℤ h.x) (right : h.x <ℤ (lo.x +ℤ side)) (below : lo.y ≤ℤ h.y)
      (above : h.y <ℤ (lo.y +ℤ side)) (x : column ≡ unsigned_abs (h.x -ℤ lo.x)) (y : row ≡ unsigned_abs (h.y -ℤ lo.y)) where
    pub column_small : column < 65536
    column_small = omega (arith, signed, left, right, x, k.wide, k.sizes.greatest_side)

    pub row_small : row < 65536
    row_small = omega (arith, signed, below, above, y, k.wide, k.sizes.greatest_side)

    pub key_is : Some (65536 * column + row) ≡ key_in f h
    unfolding key_of
    key_is =
        (λ i. Some (65536 * (x ∙ ap (λ (l : Point). unsigned_abs (h.x -ℤ l.x)) k.first) i
        + (y ∙ ap (λ (l : Point). unsigned_abs (h.y -ℤ l.y)) k.first) i))
        ∙ sym (has_key_there f h k.sizes.some_side (subst (λ (l : Point). l.x ≤ℤ h.x) k.first left)
        (subst (λ n. h.x <ℤ ((lowest f).x +ℤ n)) k.wide (subst (λ (l : Point). h.x <ℤ (l.x +ℤ side)) k.first right))
        (subst (λ (l : Point). l.y ≤ℤ h.y) k.first below)
        (subst (λ n. h.y <ℤ ((lowest f).y +ℤ n)) k.wide (subst (λ (l : Point). h.y <ℤ (l.y +ℤ side)) k.first above)))
