-- The columns of a segment: pixels in order of key stand in order of their columns, and a segment meets none that
-- lies left or right of its own.
use Rattle.std.proofs.Common.{◌≡◌, refl, ap, sym, ◌∙◌, ℕ, ◌<◌, ◌≤◌, ◌/◌, arith, Bool, true, false, cond, Less, List, [], ◌∷◌, ◌++◌, map, take, drop}
use Rattle.std.specs.Prelude.{ℤ, pos, ◌+ℤ◌, ◌-ℤ◌, ◌<ℤ◌, ◌≤ℤ◌, int_lt, int_le, ◌&&◌}
use Rattle.std.specs.List.{filter, AllByRecursion}
use Rattle.std.specs.List.Sorted.{IsStrictlySortedBy, IsPartitionedBy}
use Rattle.std.specs.Ordering.{nat_cmp}
use Rattle.std.proofs.lemmas.Int.{ints}
use Rattle.std.proofs.lemmas.List.{append-nil, map-append, take-append-drop}
use Rattle.std.proofs.lemmas.List.Elements.{filter-append}
use Rattle.grid_core.specs.Vector.{point_cmp}
use Rattle.grid_core.specs.Segment.{Segment}
use Rattle.grid_core.specs.Meets.{box_of}
use Rattle.grid_core.proofs.Signed.{signed, lt_true, from_lt_true, le_false}
use Rattle.pixel_test.specs.Corners.{overlaps_of, shares_rows_of, straddles_of}
use Rattle.pixel_test.proofs.CornerTest.{corner_test}
use Rattle.hot_tile.specs.Frame.{TileFrame, lowest, pixel_at}
use Rattle.hot_tile.specs.Steps.{meets_key}
use Rattle.hot_tile.proofs.Parted.{parted}
use Rattle.hot_tile.proofs.SpotLaws.{less_cmp}

-- ---- pixels by columns

no_later : (a b : ℕ) (column : ℤ) → a < b → int_lt (pos (b / 65536)) column ≡ true → int_lt (pos (a / 65536)) column ≡ true
no_later a b column lt h =
    let le : a / 65536 ≤ b / 65536 = omega (arith, lt) in
    let left = from_lt_true (pos (b / 65536)) column h in
    lt_true (pos (a / 65536)) column (omega (arith, ints, left, le))

-- those before one that is left of a column are left of it too
pub columns_parted : {X : Type 0} (key : X → ℕ) (column : ℤ) (xs : List X) → IsStrictlySortedBy nat_cmp (map key xs)
    → IsPartitionedBy (λ x. int_lt (pos (key x / 65536)) column) xs
columns_parted key column =
    parted nat_cmp key (λ x. int_lt (pos (key x / 65536)) column) (λ x y less. no_later (key x) (key y) column (less_cmp (key x) (key y) less))

-- left of a column, and not left of it
pub left_of : (f : TileFrame) (k : ℕ) (x column : ℤ) → column ≡ x -ℤ (lowest f).x → int_lt (pos (k / 65536)) column ≡ true
    → (pixel_at f k).x <ℤ x
unfolding pixel_at
left_of f k x column e h = omega (arith, ints, e, h)

pub not_left_of : (f : TileFrame) (k : ℕ) (x column : ℤ) → column ≡ x -ℤ (lowest f).x → int_lt (pos (k / 65536)) column ≡ false
    → x ≤ℤ (pixel_at f k).x
unfolding pixel_at
not_left_of f k x column e h = omega (arith, ints, e, h)

-- ---- pixels that aren't met

pub unmet : (f : TileFrame) (u : Segment) (ordered : point_cmp u.p u.q ≡ Less) (k : ℕ)
    → overlaps_of u (box_of (pixel_at f k)) ≡ false → meets_key f u k ≡ false
unmet f u ordered k apart =
    sym (corner_test u (box_of (pixel_at f k)) ordered (omega (arith, signed)) (omega (arith, signed)))
    ∙ ap (λ b. b && straddles_of u (box_of (pixel_at f k))) apart

-- ---- what passes a test

module _ {X : Type 0} (key : X → ℕ) (p : ℕ → Bool) where
  none_of : (xs : List X) → AllByRecursion (λ x. p (key x) ≡ false) xs → filter p (map key xs) ≡ []
  none_of [] h = refl
  none_of (x ∷ xs) h = ap (λ b. cond b (key x ∷ filter p (map key xs)) (filter p (map key xs))) h.0 ∙ none_of xs h.1

  in_two : (n : ℕ) (xs : List X) → filter p (map key xs) ≡ filter p (map key (take n xs)) ++ filter p (map key (drop n xs))
  in_two n xs =
      ap (λ ys. filter p (map key ys)) (sym (take-append-drop n xs))
      ∙ ap (filter p) (map-append key (take n xs) (drop n xs))
      ∙ filter-append p (map key (take n xs)) (map key (drop n xs))

  -- where those in front don't pass, they may be left out
  but_front : (n : ℕ) (xs : List X) → AllByRecursion (λ x. p (key x) ≡ false) (take n xs)
      → filter p (map key (drop n xs)) ≡ filter p (map key xs)
  but_front n xs h = sym (in_two n xs ∙ ap (λ ks. ks ++ filter p (map key (drop n xs))) (none_of (take n xs) h))

  -- and so may those behind
  but_back : (n : ℕ) (xs : List X) → AllByRecursion (λ x. p (key x) ≡ false) (drop n xs)
      → filter p (map key (take n xs)) ≡ filter p (map key xs)
  but_back n xs h =
      sym (in_two n xs ∙ ap (λ ks. filter p (map key (take n xs)) ++ ks) (none_of (drop n xs) h)
      ∙ append-nil (filter p (map key (take n xs))))

module _ {X : Type 0} (key : X → ℕ) (f : TileFrame) (u : Segment) (ordered : point_cmp u.p u.q ≡ Less) where
  not_beside : (a : Bool) → (a && false) ≡ false
  not_beside true = refl
  not_beside false = refl

  -- none is met left of the first column
  none_left : (xs : List X) → AllByRecursion (λ x. (pixel_at f (key x)).x <ℤ u.p.x) xs
      → AllByRecursion (λ x. meets_key f u (key x) ≡ false) xs
  none_left [] h = tt
  none_left (x ∷ xs) h =
      let h0 = pixel_at f (key x) in
      let before = le_false u.p.x h0.x h.0 in (
        unmet f u ordered (key x) (ap (λ b. (b && int_le h0.x u.q.x) && shares_rows_of u.p.y u.q.y (box_of h0)) before),
        none_left xs h.1,
      )

  -- and none behind the last
  none_right : (xs : List X) → AllByRecursion (λ x. (u.q.x +ℤ pos 1) ≤ℤ (pixel_at f (key x)).x) xs
      → AllByRecursion (λ x. meets_key f u (key x) ≡ false) xs
  none_right [] h = tt
  none_right (x ∷ xs) h =
      let h0 = pixel_at f (key x) in
      let behind = le_false h0.x u.q.x (omega (arith, ints, h.0)) in (
        unmet f u ordered (key x)
            (ap (λ b. b && shares_rows_of u.p.y u.q.y (box_of h0))
            (ap (λ b. int_le u.p.x h0.x && b) behind ∙ not_beside (int_le u.p.x h0.x))),
        none_right xs h.1,
      )

  -- so those left of the first column and those behind the last may be left out
  pub met_in_columns : (n m : ℕ) (xs ys : List X) → ys ≡ drop n xs
      → AllByRecursion (λ x. (pixel_at f (key x)).x <ℤ u.p.x) (take n xs)
      → AllByRecursion (λ x. (u.q.x +ℤ pos 1) ≤ℤ (pixel_at f (key x)).x) (drop m ys)
      → filter (meets_key f u) (map key (take m ys)) ≡ filter (meets_key f u) (map key xs)
  met_in_columns n m xs ys is left right =
      but_back key (meets_key f u) m ys (none_right (drop m ys) right)
      ∙ ap (λ zs. filter (meets_key f u) (map key zs)) is
      ∙ but_front key (meets_key f u) n xs (none_left (take n xs) left)
