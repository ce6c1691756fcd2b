-- How great the sums over a live list can be, so that they fit the numbers that keep them: passes by
-- the number of hot pixels, which come from ends and crossings, and spans by the number of tiles.
use Rattle.std.proofs.Common.{◌≡◌, refl, ◌∙◌, suc, ◌+◌, ◌*◌, ◌^◌, ◌≤◌, arith, List, [], ◌∷◌, ◌++◌}
use Rattle.std.proofs.Common.{filter, length, length-append, fold, Ordering, Less, Equal, Greater, Option, Some, None}
use Rattle.std.specs.Prelude.{ℤ, pos, neg_ℤ, ◌+ℤ◌, ◌≤ℤ◌, sum_by, filter_map, flat_map, All}
use Rattle.std.specs.List.{cons_option}
use Rattle.std.specs.BTreeSet.{insert_key}
use Rattle.std.specs.Int.{int_gap, int_min, int_max}
use Rattle.std.specs.List.{range_with_len}
use Rattle.std.specs.Ordering.{match_ordering}
use Rattle.std.proofs.Math.Nat.{mul-le-mul}
use Rattle.std.proofs.lemmas.List.{length-map}
use Rattle.std.proofs.lemmas.List.FromFn.{length-range_with_len}
use Rattle.std.proofs.lemmas.List.Sums.{sum_by-cons, sum_by-le}
use Rattle.std.proofs.lemmas.Int.{ints, clamps}
use Rattle.grid_core.specs.declared.tile.TileId.{TileId}
use Rattle.grid_core.specs.Profile.{Sizes, IsProfile}
use Rattle.grid_core.specs.Segment.{Segment, IsSegment}
use Rattle.grid_core.specs.Meets.{meets_pixel_of}
use Rattle.grid_core.specs.RisingSet.{rising}
use Rattle.grid_core.specs.Rounding.{end_points, crossing_pixel, crossing_pixels, hot, along_cmp, route}
use Rattle.grid_core.specs.Vector.{point_cmp}
use Rattle.grid_core.specs.Tiles.{tiles, tiles_between, meets_tile, tile_of, whole_numbers, column_between}
use Rattle.grid_core.proofs.Filters.{filter_length}
use Rattle.grid_core.proofs.Signed.{signed}
use Rattle.tile_law.specs.Parts.{passes_of}
use Rattle.tile_law.proofs.JoinedLists.{int_gap_is}
use Rattle.tile_law.proofs.Reach.{column_reach}
use Rattle.version_core.specs.Stands.{spans_of}

-- ---- lists

-- a rising list is no longer than the list that it is made of
module _ {K : Type 0} (R : K → K → Ordering) where
  inserted_length : (ks : List K) (k : K) → length (insert_key R ks k) ≤ length ks + 1
  inserted_length [] k = omega arith
  inserted_length (x ∷ xs) k = by (R k x) (inserted_length xs k)
    where
      by : (r : Ordering) → length (insert_key R xs k) ≤ length xs + 1
          → length (match_ordering r (k ∷ x ∷ xs) (x ∷ xs) (x ∷ insert_key R xs k)) ≤ length (x ∷ xs) + 1
      by Less h = omega arith
      by Equal h = omega arith
      by Greater h = omega (arith, h)

  folded_length : (done ks : List K) → length (fold (insert_key R) done ks) ≤ length done + length ks
  folded_length done [] = omega arith
  folded_length done (k ∷ ks) =
      omega (arith, folded_length (insert_key R done k) ks, inserted_length done k)

  pub rising_length : (ks : List K) → length (rising R ks) ≤ length ks
  rising_length ks = let h = folded_length [] ks in omega (arith, h)

found_length : {A B : Type 0} (f : A → Option B) (xs : List A) → length (filter_map f xs) ≤ length xs
found_length f [] = omega arith
found_length {A} {B} f (x ∷ xs) = by (f x) (found_length f xs)
  where
    by : (o : Option B) → length (filter_map f xs) ≤ length xs → length (cons_option o (filter_map f xs)) ≤ suc (length xs)
    by None h = omega (arith, h)
    by (Some y) h = omega (arith, h)

-- ---- passes

ends_length : (ss : List Segment) → length (end_points ss) ≡ 2 * length ss
ends_length [] = refl
ends_length (s ∷ ss) = omega (arith, ends_length ss)

crossings_length : (ss : List Segment) → length (crossing_pixels ss) ≤ length ss * length ss
unfolding crossing_pixels
crossings_length [] = omega arith
crossings_length (s ∷ ss) =
    omega (
      arith,
      length-append (filter_map (crossing_pixel s) ss) (crossing_pixels ss),
      found_length (crossing_pixel s) ss,
      crossings_length ss,
    )

hot_length : (ss : List Segment) → length (hot ss) ≤ 2 * length ss + length ss * length ss
hot_length ss =
    omega (
      arith,
      rising_length point_cmp (end_points ss ++ crossing_pixels ss),
      length-append (end_points ss) (crossing_pixels ss),
      ends_length ss,
      crossings_length ss,
    )

route_length : (ss : List Segment) (s : Segment) → length (route ss s) ≤ length (hot ss)
route_length ss s =
    omega (
      arith,
      rising_length (along_cmp s) (filter (meets_pixel_of s) (hot ss)),
      filter_length (meets_pixel_of s) (hot ss),
    )

-- each segment passes through each hot pixel at most once
passes_length : (ss us : List Segment) → sum_by (λ s. length (route us s)) ss ≤ length ss * length (hot us)
passes_length [] us = omega arith
passes_length (s ∷ ss) us =
    omega (arith, sum_by-cons (λ s. length (route us s)) s ss, route_length us s, passes_length ss us)

pub passes_small : (ss : List Segment) → length ss ≤ 2 ^ 16 → passes_of ss ≤ 2 ^ 50
passes_small ss few =
    let square = mul-le-mul few few in
    let pixels : length (hot ss) ≤ 2 ^ 33 = omega (arith, hot_length ss, few, square) in
    let all = mul-le-mul few pixels in
    omega (arith, passes_length ss ss, all)

-- ---- spans

whole_length : (a b : ℤ) → length (whole_numbers a b) ≡ int_gap a (b +ℤ pos 1)
whole_length a b =
    length-map (range_with_len 0 (int_gap a (b +ℤ pos 1))) (λ k. a +ℤ pos k) ∙ length-range_with_len 0 (int_gap a (b +ℤ pos 1))

columns_length : (low high : ℤ) (is : List ℤ)
    → length (flat_map (column_between low high) is) ≡ length is * int_gap low (high +ℤ pos 1)
columns_length low high [] = omega arith
columns_length low high (i ∷ is) =
    omega (
      arith,
      length-append (column_between low high i) (flat_map (column_between low high) is),
      length-map {B = TileId} (whole_numbers low high) (λ j. record { i = i; j = j }),
      whole_length low high,
      columns_length low high is,
    )

short_gap : (a b : ℤ) → neg_ℤ (pos 16384) ≤ℤ a → b ≤ℤ pos 16384 → int_gap a (b +ℤ pos 1) ≤ 2 ^ 16
short_gap a b low high = omega (arith, signed, int_gap_is a (b +ℤ pos 1), low, high)

-- the tiles of a segment lie in a square of tiles
pub tiles_length : (pr : Sizes) → IsProfile pr → (s : Segment) → IsSegment pr.bound s → length (tiles pr s) ≤ 2 ^ 32
tiles_length pr profile s fits =
    let px = column_reach pr profile s.p.x fits.p_within.x in
    let qx = column_reach pr profile s.q.x fits.q_within.x in
    let py = column_reach pr profile s.p.y fits.p_within.y in
    let qy = column_reach pr profile s.q.y fits.q_within.y in
    let p = tile_of pr s.p in
    let q = tile_of pr s.q in
    let wide : length (whole_numbers p.i q.i) ≤ 2 ^ 16 = omega (arith, short_gap p.i q.i px.0 qx.1, whole_length p.i q.i) in
    let high = short_gap (int_min p.j q.j) (int_max p.j q.j) (omega (arith, ints, clamps, py, qy)) (omega (arith, ints, clamps, py, qy)) in
    let square = mul-le-mul wide high in
    omega (
      arith,
      filter_length (λ t. meets_tile pr t s) (tiles_between pr s),
      columns_length (int_min p.j q.j) (int_max p.j q.j) (whole_numbers p.i q.i),
      square,
    )

pub spans_small : (pr : Sizes) → IsProfile pr → (ss : List Segment) → All (IsSegment pr.bound) ss → length ss ≤ 2 ^ 16
    → spans_of pr ss ≤ 2 ^ 48
spans_small pr profile ss fit few =
    let each = sum_by-le (λ s. length (tiles pr s)) (2 ^ 32) ss (λ k d l. tiles_length pr profile _ (fit k d l)) in
    let all : length ss * 2 ^ 32 ≤ 2 ^ 48 = omega (arith, few) in
    omega (arith, each, all)
