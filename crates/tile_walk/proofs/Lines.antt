-- Where the line of a segment stands beside its points. Left of a point of a rising line the line is
-- below all that is above the point, and right of it above all that is below; of a falling line the
-- other way round. Each is a sum of two products, of which neither is negative.

use Rattle.std.proofs.Common.{◌≡◌, refl, ap, ◌∙◌, arith, [], ◌∷◌}
use Rattle.std.specs.Prelude.{ℤ, pos, ◌+ℤ◌, ◌-ℤ◌, ◌*ℤ◌, ◌≤ℤ◌, ◌<ℤ◌}
use Rattle.grid_core.specs.Profile.{Sizes}
use Rattle.grid_core.specs.Segment.{Segment, direction}
use Rattle.grid_core.proofs.Signed.{signed}
use Rattle.grid_core.proofs.Ring.{int_mul_nonneg, int_zero-mul}
use Rattle.grid_core.proofs.Polynomial.{Expr, V, K, ◌⊕◌, ◌⊖◌, ◌⊗◌, same_polynomial}
use Rattle.tile_walk.specs.Borders.{tile_height, height_at}

-- ---- over plain numbers

-- the height of the line of direction (dx, dy) through (x, y) at u - 1/2
abbrev line : ℤ → ℤ → ℤ → ℤ → ℤ → ℤ
line dx dy x y u = dy *ℤ (pos 2 *ℤ (u -ℤ x) -ℤ pos 1) +ℤ dx *ℤ (pos 2 *ℤ y +ℤ pos 1)

abbrev line_in : Expr → Expr → Expr → Expr → Expr → Expr
line_in dx dy x y u = dy ⊗ (K (pos 2) ⊗ (u ⊖ x) ⊖ K (pos 1)) ⊕ dx ⊗ (K (pos 2) ⊗ y ⊕ K (pos 1))

left_below : (dx dy x y u v : ℤ) → pos 0 ≤ℤ dx → pos 0 ≤ℤ dy → pos 0 <ℤ (dx +ℤ dy) → u ≤ℤ x → y <ℤ v
    → line dx dy x y u <ℤ (pos 2 *ℤ (dx *ℤ v))
left_below dx dy x y u v right up some h k =
    let across = int_mul_nonneg dy (x -ℤ u) up (omega (arith, signed, h)) in
    let over = int_mul_nonneg dx (v -ℤ y -ℤ pos 1) right (omega (arith, signed, k)) in
    let sum : pos 2 *ℤ (dx *ℤ v)
    ≡ line dx dy x y u +ℤ pos 2 *ℤ (dy *ℤ (x -ℤ u)) +ℤ pos 2 *ℤ (dx *ℤ (v -ℤ y -ℤ pos 1)) +ℤ (dx +ℤ dy) =
    same_polynomial (dx ∷ dy ∷ x ∷ y ∷ u ∷ v ∷ []) (K (pos 2) ⊗ (V 0 ⊗ V 5))
    (line_in (V 0) (V 1) (V 2) (V 3) (V 4) ⊕ K (pos 2) ⊗ (V 1 ⊗ (V 2 ⊖ V 4))
    ⊕ K (pos 2) ⊗ (V 0 ⊗ (V 5 ⊖ V 3 ⊖ K (pos 1))) ⊕ (V 0 ⊕ V 1)) refl in
    omega (arith, signed, across, over, sum, some)

right_above : (dx dy x y u v : ℤ) → pos 0 ≤ℤ dx → pos 0 ≤ℤ dy → pos 0 <ℤ (dx +ℤ dy) → x <ℤ u → v ≤ℤ y
    → (pos 2 *ℤ (dx *ℤ v)) <ℤ line dx dy x y u
right_above dx dy x y u v right up some h k =
    let across = int_mul_nonneg dy (u -ℤ x -ℤ pos 1) up (omega (arith, signed, h)) in
    let over = int_mul_nonneg dx (y -ℤ v) right (omega (arith, signed, k)) in
    let sum : line dx dy x y u
    ≡ pos 2 *ℤ (dx *ℤ v) +ℤ pos 2 *ℤ (dy *ℤ (u -ℤ x -ℤ pos 1)) +ℤ pos 2 *ℤ (dx *ℤ (y -ℤ v)) +ℤ (dx +ℤ dy) =
    same_polynomial (dx ∷ dy ∷ x ∷ y ∷ u ∷ v ∷ []) (line_in (V 0) (V 1) (V 2) (V 3) (V 4))
    (K (pos 2) ⊗ (V 0 ⊗ V 5) ⊕ K (pos 2) ⊗ (V 1 ⊗ (V 4 ⊖ V 2 ⊖ K (pos 1)))
    ⊕ K (pos 2) ⊗ (V 0 ⊗ (V 3 ⊖ V 5)) ⊕ (V 0 ⊕ V 1)) refl in
    omega (arith, signed, across, over, sum, some)

left_above : (dx dy x y u v : ℤ) → pos 0 ≤ℤ dx → dy <ℤ pos 0 → u ≤ℤ x → v ≤ℤ y
    → (pos 2 *ℤ (dx *ℤ v)) <ℤ line dx dy x y u
left_above dx dy x y u v right down h k =
    let across = int_mul_nonneg (pos 0 -ℤ dy) (x -ℤ u) (omega (arith, signed, down)) (omega (arith, signed, h)) in
    let over = int_mul_nonneg dx (y -ℤ v) right (omega (arith, signed, k)) in
    let sum : line dx dy x y u
    ≡ pos 2 *ℤ (dx *ℤ v) +ℤ pos 2 *ℤ ((pos 0 -ℤ dy) *ℤ (x -ℤ u)) +ℤ pos 2 *ℤ (dx *ℤ (y -ℤ v)) +ℤ (dx -ℤ dy) =
    same_polynomial (dx ∷ dy ∷ x ∷ y ∷ u ∷ v ∷ []) (line_in (V 0) (V 1) (V 2) (V 3) (V 4))
    (K (pos 2) ⊗ (V 0 ⊗ V 5) ⊕ K (pos 2) ⊗ ((K (pos 0) ⊖ V 1) ⊗ (V 2 ⊖ V 4))
    ⊕ K (pos 2) ⊗ (V 0 ⊗ (V 3 ⊖ V 5)) ⊕ (V 0 ⊖ V 1)) refl in
    omega (arith, signed, across, over, sum, right, down)

right_below : (dx dy x y u v : ℤ) → pos 0 ≤ℤ dx → dy <ℤ pos 0 → x <ℤ u → y <ℤ v
    → line dx dy x y u <ℤ (pos 2 *ℤ (dx *ℤ v))
right_below dx dy x y u v right down h k =
    let across = int_mul_nonneg (pos 0 -ℤ dy) (u -ℤ x -ℤ pos 1) (omega (arith, signed, down)) (omega (arith, signed, h)) in
    let over = int_mul_nonneg dx (v -ℤ y -ℤ pos 1) right (omega (arith, signed, k)) in
    let sum : pos 2 *ℤ (dx *ℤ v)
    ≡ line dx dy x y u +ℤ pos 2 *ℤ ((pos 0 -ℤ dy) *ℤ (u -ℤ x -ℤ pos 1)) +ℤ pos 2 *ℤ (dx *ℤ (v -ℤ y -ℤ pos 1)) +ℤ (dx -ℤ dy) =
    same_polynomial (dx ∷ dy ∷ x ∷ y ∷ u ∷ v ∷ []) (K (pos 2) ⊗ (V 0 ⊗ V 5))
    (line_in (V 0) (V 1) (V 2) (V 3) (V 4) ⊕ K (pos 2) ⊗ ((K (pos 0) ⊖ V 1) ⊗ (V 4 ⊖ V 2 ⊖ K (pos 1)))
    ⊕ K (pos 2) ⊗ (V 0 ⊗ (V 5 ⊖ V 3 ⊖ K (pos 1))) ⊕ (V 0 ⊖ V 1)) refl in
    omega (arith, signed, across, over, sum, right, down)

-- the line through p and q is that through q and p
one_line : (px py qx qy u : ℤ) → line (qx -ℤ px) (qy -ℤ py) qx qy u ≡ line (qx -ℤ px) (qy -ℤ py) px py u
one_line px py qx qy u =
    same_polynomial (px ∷ py ∷ qx ∷ qy ∷ u ∷ [])
    (line_in (V 2 ⊖ V 0) (V 3 ⊖ V 1) (V 2) (V 3) (V 4)) (line_in (V 2 ⊖ V 0) (V 3 ⊖ V 1) (V 0) (V 1) (V 4)) refl

-- so many rows, by their height, and by the number of their pixels
rows_high : (side dx j : ℤ) → pos 2 *ℤ (dx *ℤ (side *ℤ j)) ≡ pos 2 *ℤ side *ℤ dx *ℤ j
rows_high side dx j =
    same_polynomial (side ∷ dx ∷ j ∷ []) (K (pos 2) ⊗ (V 1 ⊗ (V 0 ⊗ V 2))) (K (pos 2) ⊗ V 0 ⊗ V 1 ⊗ V 2) refl

-- ---- of a segment

-- the segment goes to the right or up, or both
pub record IsRising (s : Segment) : Type 0 where
  pub right : pos 0 ≤ℤ (direction s).x
  pub up : pos 0 ≤ℤ (direction s).y
  pub some : pos 0 <ℤ ((direction s).x +ℤ (direction s).y)

-- the segment goes to the right and down
pub record IsFalling (s : Segment) : Type 0 where
  pub right : pos 0 <ℤ (direction s).x
  pub down : (direction s).y <ℤ pos 0

-- the border before column i is left or right of a point, and the lower side of row j above or below it
module _ (pr : Sizes) (s : Segment) (i j : ℤ) where
  below : line (direction s).x (direction s).y s.p.x s.p.y (pos pr.side *ℤ i) <ℤ (pos 2 *ℤ ((direction s).x *ℤ (pos pr.side *ℤ j)))
      → height_at pr s i <ℤ (tile_height pr s *ℤ j)
  below h = omega (arith, signed, h, rows_high (pos pr.side) (direction s).x j)

  above : (pos 2 *ℤ ((direction s).x *ℤ (pos pr.side *ℤ j))) <ℤ line (direction s).x (direction s).y s.p.x s.p.y (pos pr.side *ℤ i)
      → (tile_height pr s *ℤ j) <ℤ height_at pr s i
  above h = omega (arith, signed, h, rows_high (pos pr.side) (direction s).x j)

  at_q : line (direction s).x (direction s).y s.q.x s.q.y (pos pr.side *ℤ i)
      ≡ line (direction s).x (direction s).y s.p.x s.p.y (pos pr.side *ℤ i)
  at_q = one_line s.p.x s.p.y s.q.x s.q.y (pos pr.side *ℤ i)

  pub rising_left_of_p : IsRising s → (pos pr.side *ℤ i) ≤ℤ s.p.x → s.p.y <ℤ (pos pr.side *ℤ j)
      → height_at pr s i <ℤ (tile_height pr s *ℤ j)
  rising_left_of_p r h k = below (left_below _ _ _ _ _ _ r.right r.up r.some h k)

  pub rising_right_of_p : IsRising s → s.p.x <ℤ (pos pr.side *ℤ i) → (pos pr.side *ℤ j) ≤ℤ s.p.y
      → (tile_height pr s *ℤ j) <ℤ height_at pr s i
  rising_right_of_p r h k = above (right_above _ _ _ _ _ _ r.right r.up r.some h k)

  pub rising_left_of_q : IsRising s → (pos pr.side *ℤ i) ≤ℤ s.q.x → s.q.y <ℤ (pos pr.side *ℤ j)
      → height_at pr s i <ℤ (tile_height pr s *ℤ j)
  rising_left_of_q r h k =
      below (omega (arith, signed, at_q, left_below _ _ _ _ _ _ r.right r.up r.some h k))

  pub rising_right_of_q : IsRising s → s.q.x <ℤ (pos pr.side *ℤ i) → (pos pr.side *ℤ j) ≤ℤ s.q.y
      → (tile_height pr s *ℤ j) <ℤ height_at pr s i
  rising_right_of_q r h k =
      above (omega (arith, signed, at_q, right_above _ _ _ _ _ _ r.right r.up r.some h k))

  pub falling_left_of_p : IsFalling s → (pos pr.side *ℤ i) ≤ℤ s.p.x → (pos pr.side *ℤ j) ≤ℤ s.p.y
      → (tile_height pr s *ℤ j) <ℤ height_at pr s i
  falling_left_of_p f h k = above (left_above _ _ _ _ _ _ (omega (arith, signed, f.right)) f.down h k)

  pub falling_right_of_p : IsFalling s → s.p.x <ℤ (pos pr.side *ℤ i) → s.p.y <ℤ (pos pr.side *ℤ j)
      → height_at pr s i <ℤ (tile_height pr s *ℤ j)
  falling_right_of_p f h k = below (right_below _ _ _ _ _ _ (omega (arith, signed, f.right)) f.down h k)

  pub falling_left_of_q : IsFalling s → (pos pr.side *ℤ i) ≤ℤ s.q.x → (pos pr.side *ℤ j) ≤ℤ s.q.y
      → (tile_height pr s *ℤ j) <ℤ height_at pr s i
  falling_left_of_q f h k =
      above (let l = left_above (direction s).x (direction s).y s.q.x s.q.y (pos pr.side *ℤ i) (pos pr.side *ℤ j)
      (omega (arith, signed, f.right)) f.down h k in omega (arith, signed, at_q, l))

  pub falling_right_of_q : IsFalling s → s.q.x <ℤ (pos pr.side *ℤ i) → s.q.y <ℤ (pos pr.side *ℤ j)
      → height_at pr s i <ℤ (tile_height pr s *ℤ j)
  falling_right_of_q f h k =
      below (let l = right_below (direction s).x (direction s).y s.q.x s.q.y (pos pr.side *ℤ i) (pos pr.side *ℤ j)
      (omega (arith, signed, f.right)) f.down h k in omega (arith, signed, at_q, l))

-- ---- level lines

-- a level line stands as high on each border
no_rise : (dx dy x y u v : ℤ) → dy ≡ pos 0 → line dx dy x y u ≡ line dx dy x y v
no_rise dx dy x y u v e =
    omega (arith, signed, flat u, flat v)
  where
    flat : (w : ℤ) → dy *ℤ (pos 2 *ℤ (w -ℤ x) -ℤ pos 1) ≡ pos 0
    flat w = ap (λ n. n *ℤ (pos 2 *ℤ (w -ℤ x) -ℤ pos 1)) e ∙ int_zero-mul (pos 2 *ℤ (w -ℤ x) -ℤ pos 1)

pub level_below : (pr : Sizes) (s : Segment) (i j : ℤ) → IsRising s → (direction s).y ≡ pos 0
    → s.p.y <ℤ (pos pr.side *ℤ j) → height_at pr s i <ℤ (tile_height pr s *ℤ j)
level_below pr s i j r e h =
    let one = no_rise (direction s).x (direction s).y s.p.x s.p.y (pos pr.side *ℤ i) s.p.x e in
    let l = left_below (direction s).x (direction s).y s.p.x s.p.y s.p.x (pos pr.side *ℤ j)
    r.right r.up r.some (omega (arith, signed)) h in
    omega (arith, signed, one, l, rows_high (pos pr.side) (direction s).x j)

pub level_above : (pr : Sizes) (s : Segment) (i j : ℤ) → IsRising s → (direction s).y ≡ pos 0
    → (pos pr.side *ℤ j) ≤ℤ s.p.y → (tile_height pr s *ℤ j) <ℤ height_at pr s i
level_above pr s i j r e h =
    let one = no_rise (direction s).x (direction s).y s.p.x s.p.y (pos pr.side *ℤ i) (s.p.x +ℤ pos 1) e in
    let l = right_above (direction s).x (direction s).y s.p.x s.p.y (s.p.x +ℤ pos 1) (pos pr.side *ℤ j)
    r.right r.up r.some (omega (arith, signed)) h in
    omega (arith, signed, one, l, rows_high (pos pr.side) (direction s).x j)

-- ---- from border to border

-- the next border is higher by the rise of a tile's width
pub next_height : (pr : Sizes) (s : Segment) (i : ℤ)
    → height_at pr s (i +ℤ pos 1) ≡ height_at pr s i +ℤ pos 2 *ℤ pos pr.side *ℤ (direction s).y
next_height pr s i =
    same_polynomial ((direction s).x ∷ (direction s).y ∷ s.p.x ∷ s.p.y ∷ pos pr.side ∷ i ∷ [])
    (line_in (V 0) (V 1) (V 2) (V 3) (V 4 ⊗ (V 5 ⊕ K (pos 1))))
    (line_in (V 0) (V 1) (V 2) (V 3) (V 4 ⊗ V 5) ⊕ K (pos 2) ⊗ V 4 ⊗ V 1) refl
