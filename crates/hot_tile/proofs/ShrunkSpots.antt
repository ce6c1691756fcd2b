-- A tile with a segment less. What the segment counts by its own is taken from the spots; the
-- pixels of which nothing is left are cold, and their steps leave the rows. The list is the
-- shorter one with the segment in its place, so at each key the old counts are sums.
use Rattle.std.proofs.Common.{◌≡◌, refl, ap, sym, ◌∙◌, subst, ℕ, ◌+◌, ◌-◌, arith, Bool, true, false, cond, not}
use Rattle.std.proofs.Common.{List, [], ◌∷◌, map, filter, sum_by, count_by, Contains}
use Rattle.std.proofs.Common.{Less, nat_eq, nat_cmp}
use Rattle.std.specs.List.{AllByRecursion}
use Rattle.std.specs.List.Sorted.{IsStrictlySortedBy}
use Rattle.std.proofs.lemmas.Bool.Decides.{nat_tests}
use Rattle.std.proofs.lemmas.List.Sums.{sum_by-cons}
use Rattle.grid_core.specs.Profile.{IsProfile}
use Rattle.grid_core.specs.Name.{label_cmp, label_eq}
use Rattle.grid_core.specs.Segment.{Segment}
use Rattle.grid_core.specs.LiveList.{names, without_name}
use Rattle.grid_core.specs.Rounding.{end_points, crossing_pixels}
use Rattle.grid_core.specs.Tiles.{in_tile}
use Rattle.grid_core.proofs.ListMembers.{sorted_filter}
use Rattle.grid_core.proofs.Filters.{all_kept}
use Rattle.tile_law.proofs.OneLess.{own_crossings_without}
use Rattle.tile_law.proofs.OneMore.{kept_ends_with, kept_crossings_with}
use Rattle.tile_law.proofs.OneMoreCounts.{with_without, without_is_new}
use Rattle.hot_tile.specs.declared.spots.Spot.{Spot}
use Rattle.hot_tile.specs.Spots.{keys, ends_counted, crossings_counted, less, is_cold, cooled}
use Rattle.hot_tile.specs.Own.{own_spots}
use Rattle.hot_tile.specs.Tile.{TileContent, frame_of, spots_in}
use Rattle.hot_tile.proofs.GrownSpots.{ends_of_own, crossings_of_own}
use Rattle.hot_tile.proofs.PartCounts.{has_this_key, ends_of_spots, crossings_of_spots, spots_are_spots}
use Rattle.hot_tile.proofs.SpotCounts.{at_key, AreSpots, IsHot, spots_same, below_counts_none}

-- ---- what is left

module _ (ys : List Spot) where
  -- one count of what is left, by n, where m of it is taken at each key
  module _ (n : Spot → ℕ) (m : ℕ → ℕ) (taken : (x : Spot) → n (less ys x) ≡ n x - m x.key) where
    -- what is left of spots in order counts the difference
    left_counts : (k : ℕ) (xs : List Spot) → IsStrictlySortedBy nat_cmp (keys xs)
        → sum_by (at_key n k) (map (less ys) xs) ≡ sum_by (at_key n k) xs - m k
    unfolding IsStrictlySortedBy
    left_counts k [] s = omega arith
    left_counts k (x ∷ xs) s = by (nat_eq x.key k) refl (left_counts k xs s.1)
      where
        by : (b : Bool) → nat_eq x.key k ≡ b
            → sum_by (at_key n k) (map (less ys) xs) ≡ sum_by (at_key n k) xs - m k
            → sum_by (at_key n k) (map (less ys) (x ∷ xs)) ≡ sum_by (at_key n k) (x ∷ xs) - m k
        by true e rest =
            let same : x.key ≡ k = grind (arith, nat_tests) in
            let none : sum_by (at_key n k) xs ≡ 0 =
            below_counts_none n k xs (subst (λ j. AllByRecursion (λ i. nat_cmp j i ≡ Less) (keys xs)) same s.0) in
            let first : at_key n k x ≡ n x = ap (λ b. cond b (n x) 0) e in
            let left : at_key n k (less ys x) ≡ n x - m k =
            ap (λ b. cond b (n (less ys x)) 0) e ∙ taken x ∙ ap (λ j. n x - m j) same in
            omega (
              arith,
              sum_by-cons (at_key n k) x xs,
              sum_by-cons (at_key n k) (less ys x) (map (less ys) xs),
              none,
              first,
              left,
              rest,
            )
        by false e rest =
            let first : at_key n k x ≡ 0 = ap (λ b. cond b (n x) 0) e in
            let left : at_key n k (less ys x) ≡ 0 = ap (λ b. cond b (n (less ys x)) 0) e in
            omega (
              arith,
              sum_by-cons (at_key n k) x xs,
              sum_by-cons (at_key n k) (less ys x) (map (less ys) xs),
              first,
              left,
              rest,
            )

  -- spots of which nothing is left count nothing
  warm_count : (n : Spot → ℕ) → ((x : Spot) → is_cold x ≡ true → n x ≡ 0) → (k : ℕ) (xs : List Spot)
      → sum_by (at_key n k) (filter (λ x. not (is_cold x)) xs) ≡ sum_by (at_key n k) xs
  warm_count n none k [] = refl
  warm_count n none k (x ∷ xs) = by (is_cold x) refl (warm_count n none k xs)
    where
      nothing : (b : Bool) (m : ℕ) → m ≡ 0 → cond b m 0 ≡ 0
      nothing true m e = e
      nothing false m e = refl

      by : (b : Bool) → is_cold x ≡ b
          → sum_by (at_key n k) (filter (λ x. not (is_cold x)) xs) ≡ sum_by (at_key n k) xs
          → sum_by (at_key n k) (cond (not b) (x ∷ filter (λ x. not (is_cold x)) xs) (filter (λ x. not (is_cold x)) xs))
          ≡ sum_by (at_key n k) (x ∷ xs)
      by true e rest =
          omega (arith, sum_by-cons (at_key n k) x xs, nothing (nat_eq x.key k) (n x) (none x e), rest)
      by false e rest =
          omega (
            arith,
            sum_by-cons (at_key n k) x xs,
            sum_by-cons (at_key n k) x (filter (λ x. not (is_cold x)) xs),
            rest,
          )

  no_ends : (x : Spot) → is_cold x ≡ true → x.ends ≡ 0
  no_ends x e = grind (arith, nat_tests)

  no_crossings : (x : Spot) → is_cold x ≡ true → x.crossings ≡ 0
  no_crossings x e = grind (arith, nat_tests)

  warm_hot : (x : Spot) → not (is_cold x) ≡ true → IsHot x
  warm_hot x e = grind (arith, nat_tests)

  -- their keys are as before
  pub keys_left : (xs : List Spot) → keys (map (less ys) xs) ≡ keys xs
  keys_left [] = refl
  keys_left (x ∷ xs) = ap (λ ks. x.key ∷ ks) (keys_left xs)

  -- what is left of spots are spots
  cooled_are_spots : (xs : List Spot) → AreSpots xs → AreSpots (cooled xs ys)
  cooled_are_spots xs s =
      record {
        in_order =
            sorted_filter (λ x. x.key) nat_cmp (λ x. not (is_cold x)) (map (less ys) xs)
            (subst (IsStrictlySortedBy nat_cmp) (sym (keys_left xs)) s.in_order);
        hot = all_kept IsHot (λ x. not (is_cold x)) warm_hot (map (less ys) xs);
      }

  -- and count the differences
  ends_cooled : (k : ℕ) (xs : List Spot) → IsStrictlySortedBy nat_cmp (keys xs)
      → ends_counted (cooled xs ys) k ≡ ends_counted xs k - ends_counted ys k
  ends_cooled k xs s =
      warm_count (λ x. x.ends) no_ends k (map (less ys) xs)
      ∙ left_counts (λ x. x.ends) (ends_counted ys) (λ x. refl) k xs s

  crossings_cooled : (k : ℕ) (xs : List Spot) → IsStrictlySortedBy nat_cmp (keys xs)
      → crossings_counted (cooled xs ys) k ≡ crossings_counted xs k - crossings_counted ys k
  crossings_cooled k xs s =
      warm_count (λ x. x.crossings) no_crossings k (map (less ys) xs)
      ∙ left_counts (λ x. x.crossings) (crossings_counted ys) (λ x. refl) k xs s

-- ---- the spots with a segment less

module _ (t : TileContent) (s : Segment) (profile : IsProfile t.profile) (order : IsStrictlySortedBy label_cmp (names t.segments))
    (live : Contains t.segments s) where
  abbrev fewer : List Segment
  fewer = without_name t.segments s.name

  abbrev shrunk : TileContent
  shrunk = record t { segments = fewer }

  fewer_in_order : IsStrictlySortedBy label_cmp (names fewer)
  fewer_in_order = sorted_filter (λ u. u.name) label_cmp (λ u. not (label_eq u.name s.name)) t.segments order

  abbrev own : List Spot
  own = own_spots (frame_of t) t.segments s

  -- at a key the counts are those that stay and those of the segment
  ends_parted : (k : ℕ) → ends_counted (spots_in t) k ≡ ends_counted (spots_in shrunk) k + ends_counted own k
  ends_parted k =
      ends_of_spots t k
      ∙ ap (λ us. count_by (has_this_key t k) (filter (in_tile t.profile t.id) (end_points us)))
      (sym (with_without s t.segments order live))
      ∙ kept_ends_with t.profile t.id fewer s fewer_in_order (without_is_new s t.segments) (has_this_key t k)
      ∙ sym (λ i. ends_of_spots shrunk k i + ends_of_own (frame_of t) t.segments s k i)

  crossings_parted : (k : ℕ)
      → crossings_counted (spots_in t) k ≡ crossings_counted (spots_in shrunk) k + crossings_counted own k
  crossings_parted k =
      crossings_of_spots t k
      ∙ ap (λ us. count_by (has_this_key t k) (filter (in_tile t.profile t.id) (crossing_pixels us)))
      (sym (with_without s t.segments order live))
      ∙ kept_crossings_with t.profile t.id fewer s fewer_in_order (without_is_new s t.segments) (has_this_key t k)
      ∙ sym (λ i. crossings_of_spots shrunk k i + (crossings_of_own (frame_of t) t.segments s k
      ∙ ap (count_by (has_this_key t k)) (sym (own_crossings_without t.profile t.id t.segments s order live))) i)

  -- the spots are what is left
  pub shrunk_spots : spots_in (record t { segments = without_name t.segments s.name })
      ≡ cooled (spots_in t) (own_spots (frame_of t) t.segments s)
  shrunk_spots =
      let spots = spots_are_spots t profile in
      spots_same (spots_in shrunk) (cooled (spots_in t) own) (spots_are_spots shrunk profile)
      (cooled_are_spots own (spots_in t) spots)
      (λ k. omega (arith, ends_parted k, ends_cooled own k (spots_in t) spots.in_order))
      (λ k. omega (arith, crossings_parted k, crossings_cooled own k (spots_in t) spots.in_order))
