-- The pixels of a tile and their keys: a key is below 2 ^ 32 and gives its pixel back; keys stand
-- in the order of their pixels, and steps in the order in which a segment meets them. A pixel of
-- the tile is less than 65,536 columns and rows away from the lower left one, so its column and
-- its row in the tile are two digits of its key.
use Rattle.std.proofs.Common.{◌≡◌, refl, ap, sym, ◌∙◌, subst, ℕ, ◌+◌, ◌-◌, ◌*◌, ◌/◌, ◌%◌, ◌<◌, ◌≤◌, arith, Bool, true, false}
use Rattle.std.proofs.Common.{IsTrue, Ordering, Less, Equal, Greater, int_cmp, nat_cmp}
use Rattle.std.specs.Prelude.{ℤ, pos, ◌+ℤ◌, ◌-ℤ◌, ◌≤ℤ◌, unsigned_abs, if◌then◌else◌}
use Rattle.std.specs.Cmp.{nat_cmp_is}
use Rattle.std.specs.Ordering.{MatchOrdering, ordering_then}
use Rattle.std.proofs.lemmas.Cmp.{int_ranked, ranked}
use Rattle.grid_core.specs.declared.point.Point.{Point}
use Rattle.grid_core.specs.Vector.{point_cmp}
use Rattle.grid_core.specs.Profile.{IsProfile}
use Rattle.grid_core.specs.Segment.{Segment}
use Rattle.grid_core.specs.Meets.{box_of, meets_pixel_of}
use Rattle.grid_core.specs.Rounding.{along_cmp}
use Rattle.grid_core.specs.Tiles.{tile_of, tile_box, in_tile, falls}
use Rattle.grid_core.proofs.Signed.{signed}
use Rattle.grid_core.proofs.TileOrder.{tile_decides}
use Rattle.tile_law.specs.Laws.{place_cmp}
use Rattle.tile_law.proofs.AlongTiles.{along_is_by_place}
use Rattle.tile_law.proofs.TileBoxes.{IsWithinBox, in_box_of_tile}
use Rattle.hot_tile.specs.Frame.{TileFrame, lowest, key_of, pixel_at, turned, step_of}

-- ---- two digits

-- the two digits of a number in base 65,536
high_digit : (a b : ℕ) → b < 65536 → (65536 * a + b) / 65536 ≡ a
high_digit a b h = omega arith

low_digit : (a b : ℕ) → b < 65536 → (65536 * a + b) % 65536 ≡ b
low_digit a b h = omega arith

turned_digits : (a b : ℕ) → b < 65536 → turned (65536 * a + b) ≡ 65536 * a + (65535 - b)
unfolding turned
turned_digits a b h = omega (arith, high_digit a b h, low_digit a b h)

-- counted from above twice is counted from below
pub turned_back : (k : ℕ) → turned (turned k) ≡ k
turned_back k =
    let parts : k ≡ 65536 * (k / 65536) + k % 65536 = omega arith in
    let low : k % 65536 < 65536 = omega arith in
    let high : 65535 - k % 65536 < 65536 = omega arith in
    let whole : 65536 * (k / 65536) + (65535 - (65535 - k % 65536)) ≡ k = omega arith in
    ap (λ n. turned (turned n)) parts ∙ ap turned (turned_digits (k / 65536) (k % 65536) low)
    ∙ turned_digits (k / 65536) (65535 - k % 65536) high ∙ whole

pub step_back : (u : Segment) (k : ℕ) → step_of u (step_of u k) ≡ k
step_back u k = by (falls u)
  where
    by : (b : Bool) → (if b then turned (if b then turned k else k) else (if b then turned k else k)) ≡ k
    by true = turned_back k
    by false = refl

-- ---- orders

ranks : (r : Ordering) {P Q R P' Q' R' : Type 0} → (P → P') → (Q → Q') → (R → R') → MatchOrdering r P Q R
    → MatchOrdering r P' Q' R'
ranks Less f g h m = f m
ranks Equal f g h m = g m
ranks Greater f g h m = h m

-- numbers of two digits stand in the order of the first, and then of the second
digits_cmp : (a b c d : ℕ) → b < 65536 → d < 65536
    → ordering_then (nat_cmp a c) (nat_cmp b d) ≡ nat_cmp (65536 * a + b) (65536 * c + d)
digits_cmp a b c d h k = by (nat_cmp a c) (ranked a c (nat_cmp a c) refl)
  where
    by : (r : Ordering) → MatchOrdering r (a < c) (a ≡ c) (c < a)
        → ordering_then r (nat_cmp b d) ≡ nat_cmp (65536 * a + b) (65536 * c + d)
    by Less m = nat_cmp_is (65536 * a + b) (65536 * c + d) Less (omega (arith, m))
    by Equal m =
        nat_cmp_is (65536 * a + b) (65536 * c + d) (nat_cmp b d)
        (ranks (nat_cmp b d) (λ l. omega (arith, l, m)) (λ l. omega (arith, l, m)) (λ l. omega (arith, l, m))
        (ranked b d (nat_cmp b d) refl))
    by Greater m = nat_cmp_is (65536 * a + b) (65536 * c + d) Greater (omega (arith, m))

-- how far x is above low
abbrev above : ℤ → ℤ → ℕ
above low x = unsigned_abs (x -ℤ low)

above_cmp : (low x y : ℤ) → low ≤ℤ x → low ≤ℤ y → int_cmp x y ≡ nat_cmp (above low x) (above low y)
above_cmp low x y h k =
    nat_cmp_is (above low x) (above low y) (int_cmp x y)
    (ranks (int_cmp x y) (λ l. omega (arith, signed, h, k, l)) (λ l. ap (above low) l) (λ l. omega (arith, signed, h, k, l))
    (int_ranked x y (int_cmp x y) refl))

-- the same counted from above
below_cmp : (b d : ℕ) → b < 65536 → d < 65536 → nat_cmp d b ≡ nat_cmp (65535 - b) (65535 - d)
below_cmp b d h k =
    nat_cmp_is (65535 - b) (65535 - d) (nat_cmp d b)
    (ranks (nat_cmp d b) (λ l. omega (arith, h, k, l)) (λ l. omega (arith, l)) (λ l. omega (arith, h, k, l))
    (ranked d b (nat_cmp d b) refl))

-- ---- a pixel in its tile

-- one coordinate of a pixel of the tile, in the tile
record IsInRow (low x : ℤ) : Type 0 where
  from : low ≤ℤ x
  within : above low x < 65536
  back : low +ℤ pos (above low x) ≡ x

in_row : (low x : ℤ) (side : ℕ) → side ≤ 65536 → low ≤ℤ x → x ≤ℤ (low +ℤ pos side -ℤ pos 1) → IsInRow low x
in_row low x side h l r = record { from = l; within = omega (arith, signed, h, l, r); back = omega (arith, signed, l) }

module _ (f : TileFrame) (profile : IsProfile f.profile) where
  -- the pixel lies in the tile
  abbrev pub IsHere : Point → Type 0
  IsHere h = IsTrue (in_tile f.profile f.id h)

  in_box : (h : Point) → IsHere h → IsWithinBox (box_of h) (tile_box f.profile f.id)
  in_box h i =
      subst (λ t. IsWithinBox (box_of h) (tile_box f.profile t)) ((tile_decides (tile_of f.profile h) f.id).0 i)
      (in_box_of_tile f.profile profile.some_side h)

  column : (h : Point) → IsHere h → IsInRow (lowest f).x h.x
  column h i =
      let box = in_box h i in
      in_row (lowest f).x h.x f.profile.side (omega (arith, profile.greatest_side)) box.0 box.1

  row : (h : Point) → IsHere h → IsInRow (lowest f).y h.y
  row h i =
      let box = in_box h i in
      in_row (lowest f).y h.y f.profile.side (omega (arith, profile.greatest_side)) box.2 box.3

  -- a key gives its pixel back
  pub pixel_back : (h : Point) → IsHere h → pixel_at f (key_of f h) ≡ h
  unfolding key_of pixel_at
  pixel_back h i =
      let a = above (lowest f).x h.x in
      let b = above (lowest f).y h.y in
      let x = ap (λ n. (lowest f).x +ℤ pos n) (high_digit a b (row h i).within) ∙ (column h i).back in
      let y = ap (λ n. (lowest f).y +ℤ pos n) (low_digit a b (row h i).within) ∙ (row h i).back in
      λ j. record { x = x j; y = y j }

  -- keys stand in the order of their pixels
  pub key_cmp : (g h : Point) → IsHere g → IsHere h → point_cmp g h ≡ nat_cmp (key_of f g) (key_of f h)
  unfolding key_of
  key_cmp g h i j =
      (λ k. ordering_then (above_cmp (lowest f).x g.x h.x (column g i).from (column h j).from k)
      (above_cmp (lowest f).y g.y h.y (row g i).from (row h j).from k))
      ∙ digits_cmp (above (lowest f).x g.x) (above (lowest f).y g.y) (above (lowest f).x h.x) (above (lowest f).y h.y)
      (row g i).within (row h j).within

  turned_cmp : (g h : Point) → IsHere g → IsHere h
      → ordering_then (int_cmp g.x h.x) (int_cmp h.y g.y) ≡ nat_cmp (turned (key_of f g)) (turned (key_of f h))
  unfolding key_of
  turned_cmp g h i j =
      let a = above (lowest f).x g.x in
      let b = above (lowest f).y g.y in
      let c = above (lowest f).x h.x in
      let d = above (lowest f).y h.y in
      (λ k. ordering_then (above_cmp (lowest f).x g.x h.x (column g i).from (column h j).from k)
      ((above_cmp (lowest f).y h.y g.y (row h j).from (row g i).from
      ∙ below_cmp b d (row g i).within (row h j).within) k))
      ∙ digits_cmp a (65535 - b) c (65535 - d) (omega arith) (omega arith)
      ∙ sym (λ k. nat_cmp (turned_digits a b (row g i).within k) (turned_digits c d (row h j).within k))

  -- steps stand in the order of the places along the segment
  pub step_cmp : (u : Segment) (g h : Point) → IsHere g → IsHere h
      → place_cmp u g h ≡ nat_cmp (step_of u (key_of f g)) (step_of u (key_of f h))
  step_cmp u g h i j = by (falls u)
    where
      by : (b : Bool)
          → ordering_then (int_cmp g.x h.x) (if b then int_cmp h.y g.y else int_cmp g.y h.y)
          ≡ nat_cmp (if b then turned (key_of f g) else key_of f g) (if b then turned (key_of f h) else key_of f h)
      by true = turned_cmp g h i j
      by false = key_cmp g h i j

  -- steps stand in the order in which the segment meets them
  pub along_by_step : (u : Segment) → point_cmp u.p u.q ≡ Less → (g h : Point) → IsHere g → IsHere h
      → IsTrue (meets_pixel_of u g) → IsTrue (meets_pixel_of u h)
      → along_cmp u g h ≡ nat_cmp (step_of u (key_of f g)) (step_of u (key_of f h))
  along_by_step u ordered g h i j m n = along_is_by_place u ordered g h m n ∙ step_cmp u g h i j
