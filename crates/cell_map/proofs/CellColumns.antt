-- How far a cell reaches, one vertex after another: the columns of the vertices that bound it, on one
-- side of the point, with one vertex more.
use Rattle.std.proofs.Common.{◌≡◌, refl, ap, sym, ◌∙◌, arith, Bool, true, false, not, cond, ◌&&◌, List, [], ◌∷◌, ◌++◌}
use Rattle.std.proofs.Common.{filter, map, fold}
use Rattle.std.specs.Prelude.{ℤ, pos, ◌+ℤ◌, ◌*ℤ◌, int_le, int_lt, if◌then◌else◌, Option}
use Rattle.std.specs.Int.{int_min, int_max}
use Rattle.std.proofs.lemmas.Int.{ints, int_min_is, int_max_is}
use Rattle.std.proofs.lemmas.List.{map-append, append-nil}
use Rattle.std.proofs.lemmas.List.Sums.{fold_push}
use Rattle.grid_core.specs.declared.point.Point.{Point}
use Rattle.grid_core.specs.declared.place.Cell.{Cell}
use Rattle.grid_core.specs.Edge.{EdgeEnds}
use Rattle.grid_core.specs.Places.{strip_of, is_at_most, is_at_least, cell_between}
use Rattle.cell_map.specs.Found.{narrowed}
use Rattle.grid_core.proofs.Filters.{filter_joined}
use Rattle.grid_core.proofs.Signed.{from_lt_true, from_lt_false, le-not_lt}

-- the columns on one side of the vertices that pass a test
abbrev pub columns : (Point → Bool) → (ℤ → Bool) → List Point → List ℤ
columns p side vs = filter side (map (λ h. h.x) (filter p vs))

module _ (p : Point → Bool) (side : ℤ → Bool) (f : ℤ → ℤ → ℤ) (w : ℤ) where
  columns_joined : (vs hs : List Point) → columns p side (vs ++ hs) ≡ columns p side vs ++ columns p side hs
  columns_joined vs hs =
      ap (λ ps. filter side (map (λ (h : Point). h.x) ps)) (filter_joined p vs hs)
      ∙ ap (filter side) (map-append (λ (h : Point). h.x) (filter p vs) (filter p hs))
      ∙ filter_joined side (map (λ (h : Point). h.x) (filter p vs)) (map (λ (h : Point). h.x) (filter p hs))

  pub column_push : (vs : List Point) (h : Point)
      → (if p h && side h.x then f (fold f w (columns p side vs)) h.x else fold f w (columns p side vs))
      ≡ fold f w (columns p side (vs ++ h ∷ []))
  column_push vs h = sym (ap (fold f w) (columns_joined vs (h ∷ [])) ∙ by (p h) refl)
    where
      seen : (c : Bool) → fold f w (columns p side vs ++ cond c (h.x ∷ []) [])
          ≡ (if c then f (fold f w (columns p side vs)) h.x else fold f w (columns p side vs))
      seen true = fold_push f w (columns p side vs) h.x
      seen false = ap (fold f w) (append-nil (columns p side vs))

      by : (b : Bool) → p h ≡ b
          → fold f w (columns p side vs ++ filter side (map (λ (h : Point). h.x) (cond b (h ∷ []) [])))
          ≡ (if b && side h.x then f (fold f w (columns p side vs)) h.x else fold f w (columns p side vs))
      by true e = seen (side h.x)
      by false e = ap (fold f w) (append-nil (columns p side vs))

-- the cell with one vertex more
pub cell_more : (q : Point) (above below : Option EdgeEnds) (vs : List Point) (h : Point)
    → narrowed q (cell_between 256 vs q above below) h ≡ cell_between 256 (vs ++ h ∷ []) q above below
cell_more q above below vs h = λ i. record {
  above = above;
  below = below;
  left = column_push (λ h. is_at_most above h && is_at_least below h) (λ x. int_le (pos 256 *ℤ x) q.x) int_max
      (pos 256 *ℤ strip_of 256 q) vs h i;
  right = column_push (λ h. is_at_most above h && is_at_least below h) (λ x. int_lt q.x (pos 256 *ℤ x)) int_min
      (pos 256 *ℤ (strip_of 256 q +ℤ pos 1)) vs h i;
}

-- ---- one vertex, where its column is compared first

abbrev pub bounds : Cell → Point → Bool
bounds c h = is_at_most c.above h && is_at_least c.below h

abbrev pub with_right : Cell → ℤ → Cell
with_right c x = record { above = c.above; below = c.below; left = c.left; right = x }

abbrev pub with_left : Cell → ℤ → Cell
with_left c x = record { above = c.above; below = c.below; left = x; right = c.right }

nearer_right : (b : Bool) (right x : ℤ) → (if int_lt x right && b then x else right) ≡ (if b then int_min right x else right)
nearer_right true right x = by (int_lt x right) refl
  where
    by : (c : Bool) → int_lt x right ≡ c → (if c && true then x else right) ≡ int_min right x
    by true e = omega (arith, ints, from_lt_true x right e, int_min_is right x)
    by false e = omega (arith, ints, from_lt_false x right e, int_min_is right x)
nearer_right false right x = by (int_lt x right)
  where
    by : (c : Bool) → (if c && false then x else right) ≡ right
    by true = refl
    by false = refl

nearer_left : (b : Bool) (left x : ℤ) → (if int_lt left x && b then x else left) ≡ (if b then int_max left x else left)
nearer_left true left x = by (int_lt left x) refl
  where
    by : (c : Bool) → int_lt left x ≡ c → (if c && true then x else left) ≡ int_max left x
    by true e = omega (arith, ints, from_lt_true left x e, int_max_is left x)
    by false e = omega (arith, ints, from_lt_false left x e, int_max_is left x)
nearer_left false left x = by (int_lt left x)
  where
    by : (c : Bool) → (if c && false then x else left) ≡ left
    by true = refl
    by false = refl

and_false : (b c : Bool) → c ≡ false → (b && c) ≡ false
and_false true c e = e
and_false false c e = refl

and_true : (b c : Bool) → c ≡ true → (b && c) ≡ b
and_true true c e = e
and_true false c e = refl

-- a vertex right of q
pub narrowed_right : (q h : Point) (c : Cell) (t : Bool) → t ≡ (int_lt h.x c.right && bounds c h)
    → int_lt q.x (pos 256 *ℤ h.x) ≡ true
    → with_right c (if t then h.x else c.right) ≡ narrowed q c h
narrowed_right q h c t e r =
    let stays = and_false (bounds c h) (int_le (pos 256 *ℤ h.x) q.x) (le-not_lt (pos 256 *ℤ h.x) q.x ∙ ap not r) in
    let counts = and_true (bounds c h) (int_lt q.x (pos 256 *ℤ h.x)) r in
    let right = ap (λ t. if t then h.x else c.right) e ∙ nearer_right (bounds c h) c.right h.x
    ∙ ap (λ t. if t then int_min c.right h.x else c.right) (sym counts) in
    λ i. record {
      above = c.above;
      below = c.below;
      left = ap (λ t. if t then int_max c.left h.x else c.left) (sym stays) i;
      right = right i;
    }

-- a vertex left of q, or in its column
pub narrowed_left : (q h : Point) (c : Cell) (t : Bool) → t ≡ (int_lt c.left h.x && bounds c h)
    → int_lt q.x (pos 256 *ℤ h.x) ≡ false
    → with_left c (if t then h.x else c.left) ≡ narrowed q c h
narrowed_left q h c t e r =
    let stays = and_false (bounds c h) (int_lt q.x (pos 256 *ℤ h.x)) r in
    let counts = and_true (bounds c h) (int_le (pos 256 *ℤ h.x) q.x) (le-not_lt (pos 256 *ℤ h.x) q.x ∙ ap not r) in
    let left = ap (λ t. if t then h.x else c.left) e ∙ nearer_left (bounds c h) c.left h.x
    ∙ ap (λ t. if t then int_max c.left h.x else c.left) (sym counts) in
    λ i. record {
      above = c.above;
      below = c.below;
      left = left i;
      right = ap (λ t. if t then int_min c.right h.x else c.right) (sym stays) i;
    }
