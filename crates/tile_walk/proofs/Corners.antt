-- When a segment meets a tile, told by heights on the two borders of its column: the tests of
-- corners of `pixel_test`, over the box of a tile.

use Rattle.std.proofs.Common.{◌≡◌, refl, sym, ap, ◌∙◌, arith, [], ◌∷◌, Bool, true, not, ◌&&◌, ◌↔◌, IsTrue}
use Rattle.std.proofs.Common.{Less, ⊎_elim}
use Rattle.std.specs.Prelude.{◌<◌, ℤ, pos, ◌+ℤ◌, ◌-ℤ◌, ◌*ℤ◌, ◌≤ℤ◌, ◌<ℤ◌, int_lt, int_le}
use Rattle.std.proofs.lemmas.Bool.{and_parts, and_from, and_left, and_right}
use Rattle.grid_core.specs.declared.tile.TileId.{TileId}
use Rattle.grid_core.specs.Profile.{Sizes}
use Rattle.grid_core.specs.Segment.{Segment, direction}
use Rattle.grid_core.specs.Vector.{point_cmp}
use Rattle.grid_core.specs.Tiles.{tile_box, meets_tile}
use Rattle.grid_core.proofs.Signed.{signed, same_lt, le-not_lt, lt_true, lt_false, le_true, from_lt_true, from_le_true}
use Rattle.grid_core.proofs.Quotients.{times_more}
use Rattle.grid_core.proofs.Ring.{int_lt_or_le}
use Rattle.grid_core.proofs.Polynomial.{Expr, V, K, ◌⊕◌, ◌⊖◌, ◌⊗◌, same_polynomial}
use Rattle.pixel_test.specs.Corners.{overlaps_of, straddles_of, is_left_of, is_right_of, corner_side_of}
use Rattle.pixel_test.specs.Corners.{straddles_rising_of, straddles_falling_of}
use Rattle.pixel_test.specs.Corners.{upper_left_of, upper_right_of, lower_left_of, lower_right_of}
use Rattle.pixel_test.proofs.CornerTest.{corner_test}
use Rattle.tile_walk.specs.Borders.{tile_height, height_at}
use Rattle.tile_walk.proofs.Lines.{IsRising, IsFalling, rising_left_of_p, rising_right_of_q, level_below, level_above}

-- ---- corners

-- twice the cross product of the way to a corner, (x, y) being twice the corner
abbrev side_in : Expr → Expr → Expr → Expr → Expr → Expr → Expr
side_in dx dy px py x y = dx ⊗ (y ⊖ K (pos 2) ⊗ py) ⊖ dy ⊗ (x ⊖ K (pos 2) ⊗ px)

abbrev height_in : Expr → Expr → Expr → Expr → Expr → Expr
height_in dx dy px py u = dy ⊗ (K (pos 2) ⊗ (u ⊖ px) ⊖ K (pos 1)) ⊕ dx ⊗ (K (pos 2) ⊗ py ⊕ K (pos 1))

-- twice the last pixel of column, or row, i of tiles, and a half more
abbrev end_in : Expr → Expr → Expr
end_in side i = K (pos 2) ⊗ (side ⊗ i ⊕ side ⊖ K (pos 1)) ⊕ K (pos 1)

abbrev begin_in : Expr → Expr → Expr
begin_in side i = K (pos 2) ⊗ (side ⊗ i) ⊖ K (pos 1)

module _ (pr : Sizes) (s : Segment) (t : TileId) where
  corner_upper_left : corner_side_of s (upper_left_of (tile_box pr t))
      ≡ tile_height pr s *ℤ (t.j +ℤ pos 1) -ℤ height_at pr s t.i
  corner_upper_left =
      same_polynomial ((direction s).x ∷ (direction s).y ∷ s.p.x ∷ s.p.y ∷ pos pr.side ∷ t.i ∷ t.j ∷ [])
      (side_in (V 0) (V 1) (V 2) (V 3) (begin_in (V 4) (V 5)) (end_in (V 4) (V 6)))
      (K (pos 2) ⊗ V 4 ⊗ V 0 ⊗ (V 6 ⊕ K (pos 1)) ⊖ height_in (V 0) (V 1) (V 2) (V 3) (V 4 ⊗ V 5)) refl

  corner_lower_right : corner_side_of s (lower_right_of (tile_box pr t))
      ≡ tile_height pr s *ℤ t.j -ℤ height_at pr s (t.i +ℤ pos 1)
  corner_lower_right =
      same_polynomial ((direction s).x ∷ (direction s).y ∷ s.p.x ∷ s.p.y ∷ pos pr.side ∷ t.i ∷ t.j ∷ [])
      (side_in (V 0) (V 1) (V 2) (V 3) (end_in (V 4) (V 5)) (begin_in (V 4) (V 6)))
      (K (pos 2) ⊗ V 4 ⊗ V 0 ⊗ V 6 ⊖ height_in (V 0) (V 1) (V 2) (V 3) (V 4 ⊗ (V 5 ⊕ K (pos 1)))) refl

  corner_upper_right : corner_side_of s (upper_right_of (tile_box pr t))
      ≡ tile_height pr s *ℤ (t.j +ℤ pos 1) -ℤ height_at pr s (t.i +ℤ pos 1)
  corner_upper_right =
      same_polynomial ((direction s).x ∷ (direction s).y ∷ s.p.x ∷ s.p.y ∷ pos pr.side ∷ t.i ∷ t.j ∷ [])
      (side_in (V 0) (V 1) (V 2) (V 3) (end_in (V 4) (V 5)) (end_in (V 4) (V 6)))
      (K (pos 2) ⊗ V 4 ⊗ V 0 ⊗ (V 6 ⊕ K (pos 1)) ⊖ height_in (V 0) (V 1) (V 2) (V 3) (V 4 ⊗ (V 5 ⊕ K (pos 1)))) refl

  corner_lower_left : corner_side_of s (lower_left_of (tile_box pr t))
      ≡ tile_height pr s *ℤ t.j -ℤ height_at pr s t.i
  corner_lower_left =
      same_polynomial ((direction s).x ∷ (direction s).y ∷ s.p.x ∷ s.p.y ∷ pos pr.side ∷ t.i ∷ t.j ∷ [])
      (side_in (V 0) (V 1) (V 2) (V 3) (begin_in (V 4) (V 5)) (begin_in (V 4) (V 6)))
      (K (pos 2) ⊗ V 4 ⊗ V 0 ⊗ V 6 ⊖ height_in (V 0) (V 1) (V 2) (V 3) (V 4 ⊗ V 5)) refl

  -- a corner lies on the left of the line where the line is below it, and on the right where above
  left_of : (c h m : ℤ) → c ≡ m -ℤ h → int_lt (pos 0) c ≡ int_lt h m
  left_of c h m e = same_lt (pos 0) c h m (λ l. omega (arith, signed, l, e)) (λ l. omega (arith, signed, l, e))

  right_of : (c h m : ℤ) → c ≡ m -ℤ h → int_lt c (pos 0) ≡ int_lt m h
  right_of c h m e = same_lt c (pos 0) m h (λ l. omega (arith, signed, l, e)) (λ l. omega (arith, signed, l, e))

  upper_left : is_left_of s (upper_left_of (tile_box pr t))
      ≡ int_lt (height_at pr s t.i) (tile_height pr s *ℤ (t.j +ℤ pos 1))
  upper_left =
      left_of (corner_side_of s (upper_left_of (tile_box pr t))) (height_at pr s t.i)
      (tile_height pr s *ℤ (t.j +ℤ pos 1)) corner_upper_left

  lower_right : is_right_of s (lower_right_of (tile_box pr t))
      ≡ int_lt (tile_height pr s *ℤ t.j) (height_at pr s (t.i +ℤ pos 1))
  lower_right =
      right_of (corner_side_of s (lower_right_of (tile_box pr t))) (height_at pr s (t.i +ℤ pos 1))
      (tile_height pr s *ℤ t.j) corner_lower_right

  upper_right : is_left_of s (upper_right_of (tile_box pr t))
      ≡ int_lt (height_at pr s (t.i +ℤ pos 1)) (tile_height pr s *ℤ (t.j +ℤ pos 1))
  upper_right =
      left_of (corner_side_of s (upper_right_of (tile_box pr t))) (height_at pr s (t.i +ℤ pos 1))
      (tile_height pr s *ℤ (t.j +ℤ pos 1)) corner_upper_right

  lower_left : not (is_left_of s (lower_left_of (tile_box pr t)))
      ≡ int_le (tile_height pr s *ℤ t.j) (height_at pr s t.i)
  lower_left =
      ap not (left_of (corner_side_of s (lower_left_of (tile_box pr t))) (height_at pr s t.i)
      (tile_height pr s *ℤ t.j) corner_lower_left)
      ∙ sym (le-not_lt (tile_height pr s *ℤ t.j) (height_at pr s t.i))

-- ---- a tile that is met

-- the tile's column is one of those between p and q, and its row one of those from y = low to y = high
pub record Overlaps (pr : Sizes) (s : Segment) (low high : ℤ) (t : TileId) : Type 0 where
  pub left : s.p.x <ℤ (pos pr.side *ℤ (t.i +ℤ pos 1))
  pub right : (pos pr.side *ℤ t.i) ≤ℤ s.q.x
  pub under : low <ℤ (pos pr.side *ℤ (t.j +ℤ pos 1))
  pub over : (pos pr.side *ℤ t.j) ≤ℤ high

-- a rising line is below the tile's top where it enters its column, and above its bottom where it leaves it
pub record IsMetRising (pr : Sizes) (s : Segment) (t : TileId) : Type 0 where
  pub overlaps : Overlaps pr s s.p.y s.q.y t
  pub enters : height_at pr s t.i <ℤ (tile_height pr s *ℤ (t.j +ℤ pos 1))
  pub leaves : (tile_height pr s *ℤ t.j) <ℤ height_at pr s (t.i +ℤ pos 1)

-- a falling one is above the tile's bottom where it enters its column, or at it, and below its top
-- where it leaves it
pub record IsMetFalling (pr : Sizes) (s : Segment) (t : TileId) : Type 0 where
  pub overlaps : Overlaps pr s s.q.y s.p.y t
  pub enters : (tile_height pr s *ℤ t.j) ≤ℤ height_at pr s t.i
  pub leaves : height_at pr s (t.i +ℤ pos 1) <ℤ (tile_height pr s *ℤ (t.j +ℤ pos 1))

module _ (pr : Sizes) (some : 0 < pr.side) (s : Segment) (ordered : point_cmp s.p s.q ≡ Less) (t : TileId) where
  tested : (overlaps_of s (tile_box pr t) && straddles_of s (tile_box pr t)) ≡ meets_tile pr t s
  tested =
      corner_test s (tile_box pr t) ordered (omega (arith, signed, some)) (omega (arith, signed, some))

  -- the tests of the bounding boxes: columns, and rows from one height to another
  abbrev columns : Bool
  columns = int_le s.p.x (tile_box pr t).hi.x && int_le (tile_box pr t).lo.x s.q.x

  abbrev rows : ℤ → ℤ → Bool
  rows low high = int_le low (tile_box pr t).hi.y && int_le (tile_box pr t).lo.y high

  tests_of_boxes : (low high : ℤ)
      → (columns && rows low high) ≡ true
      → Overlaps pr s low high t
  tests_of_boxes low high e =
      let parts = and_parts columns (rows low high) e in
      let xs = and_parts (int_le s.p.x (tile_box pr t).hi.x) (int_le (tile_box pr t).lo.x s.q.x) parts.0 in
      let ys = and_parts (int_le low (tile_box pr t).hi.y) (int_le (tile_box pr t).lo.y high) parts.1 in
      record {
        left = omega (arith, signed, times_more (pos pr.side) t.i, from_le_true s.p.x (tile_box pr t).hi.x xs.0);
        right = from_le_true (tile_box pr t).lo.x s.q.x xs.1;
        under = omega (arith, signed, times_more (pos pr.side) t.j, from_le_true low (tile_box pr t).hi.y ys.0);
        over = from_le_true (tile_box pr t).lo.y high ys.1;
      }

  boxes_of_tests : (low high : ℤ) → Overlaps pr s low high t
      → (columns && rows low high) ≡ true
  boxes_of_tests low high o =
      and_from columns (rows low high)
      (and_from (int_le s.p.x (tile_box pr t).hi.x) (int_le (tile_box pr t).lo.x s.q.x)
      (le_true s.p.x (tile_box pr t).hi.x (omega (arith, signed, times_more (pos pr.side) t.i, o.left)))
      (le_true (tile_box pr t).lo.x s.q.x o.right))
      (and_from (int_le low (tile_box pr t).hi.y) (int_le (tile_box pr t).lo.y high) (le_true low (tile_box pr t).hi.y (omega (arith, signed, times_more (pos pr.side) t.j, o.under)))
      (le_true (tile_box pr t).lo.y high o.over))

  -- ---- rising

  rising_boxes : s.p.y ≤ℤ s.q.y
      → (columns && rows s.p.y s.q.y) ≡ overlaps_of s (tile_box pr t)
  rising_boxes h = let e = lt_false s.q.y s.p.y h in simp e

  falling_boxes : s.q.y <ℤ s.p.y
      → (columns && rows s.q.y s.p.y) ≡ overlaps_of s (tile_box pr t)
  falling_boxes h = let e = lt_true s.q.y s.p.y h in simp e

  falling_corners : s.q.y <ℤ s.p.y → straddles_falling_of s (tile_box pr t) ≡ straddles_of s (tile_box pr t)
  falling_corners h = let e = lt_true s.q.y s.p.y h in simp e

  rising_corners : s.p.x <ℤ s.q.x → s.p.y <ℤ s.q.y → straddles_rising_of s (tile_box pr t) ≡ straddles_of s (tile_box pr t)
  rising_corners h k =
      let e = lt_false s.q.y s.p.y (omega (arith, signed, k)) in
      let f = lt_true s.p.x s.q.x h in
      let g = lt_true s.p.y s.q.y k in
      simp (e, f, g)

  level_corners : s.p.y ≡ s.q.y → true ≡ straddles_of s (tile_box pr t)
  level_corners h =
      let e = lt_false s.q.y s.p.y (omega (arith, signed, h)) in
      let g = and_right (int_lt s.p.x s.q.x) (int_lt s.p.y s.q.y)
      (lt_false s.p.y s.q.y (omega (arith, signed, h))) in
      simp (e, g)

  upright_corners : s.p.x ≡ s.q.x → s.p.y <ℤ s.q.y → true ≡ straddles_of s (tile_box pr t)
  upright_corners h k =
      let e = lt_false s.q.y s.p.y (omega (arith, signed, k)) in
      let g = and_left (int_lt s.p.x s.q.x) (int_lt s.p.y s.q.y)
      (lt_false s.p.x s.q.x (omega (arith, signed, h))) in
      simp (e, g)

  -- ---- what the tests say

  rising_from_tests : IsRising s → overlaps_of s (tile_box pr t) ≡ true → straddles_of s (tile_box pr t) ≡ true
      → IsMetRising pr s t
  rising_from_tests r o c =
      let boxes = tests_of_boxes s.p.y s.q.y (rising_boxes (omega (arith, signed, r.up)) ∙ o) in
      ⊎_elim
      (λ (right : s.p.x <ℤ s.q.x).
      ⊎_elim
      (λ (up : s.p.y <ℤ s.q.y).
      let parts = and_parts (is_left_of s (upper_left_of (tile_box pr t))) (is_right_of s (lower_right_of (tile_box pr t)))
      (rising_corners right up ∙ c) in
      record {
        overlaps = boxes;
        enters = from_lt_true _ _ (sym (upper_left pr s t) ∙ parts.0);
        leaves = from_lt_true _ _ (sym (lower_right pr s t) ∙ parts.1);
      })
      (λ (flat : s.q.y ≤ℤ s.p.y).
      let level : (direction s).y ≡ pos 0 = omega (arith, signed, flat, r.up) in
      record {
        overlaps = boxes;
        enters = level_below pr s t.i (t.j +ℤ pos 1) r level boxes.under;
        leaves = level_above pr s (t.i +ℤ pos 1) t.j r level (omega (arith, signed, flat, boxes.over));
      })
      (int_lt_or_le s.p.y s.q.y))
      (λ (steep : s.q.x ≤ℤ s.p.x).
      record {
        overlaps = boxes;
        enters = rising_left_of_p pr s t.i (t.j +ℤ pos 1) r (omega (arith, signed, steep, boxes.right)) boxes.under;
        leaves = rising_right_of_q pr s (t.i +ℤ pos 1) t.j r (omega (arith, signed, steep, boxes.left)) boxes.over;
      })
      (int_lt_or_le s.p.x s.q.x)

  rising_to_tests : IsRising s → IsMetRising pr s t → straddles_of s (tile_box pr t) ≡ true
  rising_to_tests r m =
      ⊎_elim
      (λ (right : s.p.x <ℤ s.q.x).
      ⊎_elim
      (λ (up : s.p.y <ℤ s.q.y).
      sym (rising_corners right up)
      ∙ and_from (is_left_of s (upper_left_of (tile_box pr t))) (is_right_of s (lower_right_of (tile_box pr t)))
      (upper_left pr s t ∙ lt_true _ _ m.enters) (lower_right pr s t ∙ lt_true _ _ m.leaves))
      (λ (flat : s.q.y ≤ℤ s.p.y). sym (level_corners (omega (arith, signed, flat, r.up))))
      (int_lt_or_le s.p.y s.q.y))
      (λ (steep : s.q.x ≤ℤ s.p.x).
      sym (upright_corners (omega (arith, signed, steep, r.right)) (omega (arith, signed, steep, r.some))))
      (int_lt_or_le s.p.x s.q.x)

  -- a segment that rises, is level or upright meets a tile by these heights
  pub met_rising : IsRising s → IsTrue (meets_tile pr t s) ↔ IsMetRising pr s t
  met_rising r = (
    λ m. let parts = and_parts _ _ (tested ∙ m) in rising_from_tests r parts.0 parts.1,
    λ m. sym tested
        ∙ and_from _ _ (sym (rising_boxes (omega (arith, signed, r.up))) ∙ boxes_of_tests s.p.y s.q.y m.overlaps)
        (rising_to_tests r m),
  )

  -- and one that falls by these
  pub met_falling : IsFalling s → IsTrue (meets_tile pr t s) ↔ IsMetFalling pr s t
  met_falling f = (from, to)
    where
      down : s.q.y <ℤ s.p.y
      down = omega (arith, signed, f.down)

      from : IsTrue (meets_tile pr t s) → IsMetFalling pr s t
      from m =
          let parts = and_parts _ _ (tested ∙ m) in
          let corners = and_parts (is_left_of s (upper_right_of (tile_box pr t)))
          (not (is_left_of s (lower_left_of (tile_box pr t)))) (falling_corners down ∙ parts.1) in
          record {
            overlaps = tests_of_boxes s.q.y s.p.y (falling_boxes down ∙ parts.0);
            enters = from_le_true _ _ (sym (lower_left pr s t) ∙ corners.1);
            leaves = from_lt_true _ _ (sym (upper_right pr s t) ∙ corners.0);
          }

      to : IsMetFalling pr s t → IsTrue (meets_tile pr t s)
      to m =
          sym tested
          ∙ and_from _ _ (sym (falling_boxes down) ∙ boxes_of_tests s.q.y s.p.y m.overlaps)
          (sym (falling_corners down)
          ∙ and_from (is_left_of s (upper_right_of (tile_box pr t))) (not (is_left_of s (lower_left_of (tile_box pr t))))
          (upper_right pr s t ∙ lt_true _ _ m.leaves) (lower_left pr s t ∙ le_true _ _ m.enters))
