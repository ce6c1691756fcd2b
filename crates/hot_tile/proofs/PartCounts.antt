-- The spots of a tile, and those that a segment counts by its own: at a key they count the ends and
-- the crossings whose pixels in the tile have it. For each pixel its count is a sum over the list
-- of ends, or of crossings; summed over all hot pixels with the key, each end counts once, at its
-- own pixel.
use Rattle.std.proofs.Common.{◌≡◌, refl, ap, sym, ◌∙◌, subst, ℕ, ◌+◌, arith, Bool, true, false, cond, ◌&&◌}
use Rattle.std.proofs.Common.{IsTrue, ◌⊎◌, inl, inr, List, [], ◌∷◌, ◌++◌, map, filter, sum_by, count_by}
use Rattle.std.proofs.Common.{Contains, Ordering, Less, Greater, nat_eq, nat_cmp, is_eq}
use Rattle.std.specs.List.{AllByRecursion}
use Rattle.std.specs.List.Sorted.{IsStrictlySortedBy}
use Rattle.std.specs.Ordering.{ordering_reverse}
use Rattle.std.proofs.lemmas.Cmp.{tied_itself}
use Rattle.std.proofs.lemmas.List.Elements.{Contains-append_left, Contains-append_right}
use Rattle.std.proofs.lemmas.List.Kept.{IsStrictlySortedBy-filter}
use Rattle.std.proofs.lemmas.List.Sums.{sum_by-cons}
use Rattle.grid_core.specs.declared.point.Point.{Point}
use Rattle.grid_core.specs.Vector.{point_cmp, point_eq}
use Rattle.grid_core.specs.Profile.{IsProfile}
use Rattle.grid_core.specs.Rounding.{end_points, crossing_pixels, hot, vertex_at}
use Rattle.grid_core.specs.Tiles.{in_tile}
use Rattle.grid_core.proofs.ListMembers.{contains_cases, contains_filter}
use Rattle.grid_core.proofs.Order.{point_total, point_exact}
use Rattle.grid_core.proofs.RisingMembers.{sorted_rising, contains_rising}
use Rattle.grid_core.proofs.RoundingMembers.{hot_is_counted}
use Rattle.grid_core.proofs.RouteEnds.{all_at}
use Rattle.tile_law.specs.Parts.{hot_in}
use Rattle.tile_law.proofs.OneMore.{count_of_kept}
use Rattle.tile_law.proofs.JoinedLists.{all_mapped}
use Rattle.tile_law.proofs.TileSums.{all_contained}
use Rattle.hot_tile.specs.declared.spots.Spot.{Spot}
use Rattle.hot_tile.specs.Frame.{key_of}
use Rattle.hot_tile.specs.Spots.{keys, ends_counted, crossings_counted}
use Rattle.hot_tile.specs.Tile.{TileContent, frame_of, spot_of, spots_in}
use Rattle.hot_tile.proofs.FrameLaws.{key_cmp}
use Rattle.hot_tile.proofs.SpotCounts.{at_key, AreSpots, IsHot}

-- ---- lists and sums

-- nothing, under a test
nothing : (b : Bool) (n : ℕ) → n ≡ 0 → cond b n 0 ≡ n
nothing true n e = refl
nothing false n e = sym e

module _ {X Y Z : Type 0} where
  pub map_twice : (f : X → Y) (g : Y → Z) (xs : List X) → map g (map f xs) ≡ map (λ x. g (f x)) xs
  map_twice f g [] = refl
  map_twice f g (x ∷ xs) = ap (λ ys. g (f x) ∷ ys) (map_twice f g xs)

module _ {X Y : Type 0} (f : X → Y) where
  -- images stand in the order of what they are of, where the orders agree
  module _ (Φ : X → Type 0) (R : X → X → Ordering) (S : Y → Y → Ordering)
      (agree : (a b : X) → Φ a → Φ b → R a b ≡ S (f a) (f b)) where
    images_above : (x : X) (xs : List X) → Φ x → AllByRecursion Φ xs → AllByRecursion (λ y. R x y ≡ Less) xs
        → AllByRecursion (λ y. S (f x) (f y) ≡ Less) xs
    images_above x [] p h k = tt
    images_above x (y ∷ ys) p h k = (sym (agree x y p h.0) ∙ k.0, images_above x ys p h.1 k.1)

    pub sorted_images : (xs : List X) → AllByRecursion Φ xs → IsStrictlySortedBy R xs → IsStrictlySortedBy S (map f xs)
    unfolding IsStrictlySortedBy
    sorted_images [] h s = tt
    sorted_images (x ∷ xs) h s = (
      all_mapped f (λ y. S (f x) y ≡ Less) xs (images_above x xs h.0 h.1 s.0),
      sorted_images xs h.1 s.1,
    )

  -- a sum over images
  sum_images : (n : Y → ℕ) (xs : List X) → sum_by n (map f xs) ≡ sum_by (λ x. n (f x)) xs
  sum_images n [] = refl
  sum_images n (x ∷ xs) =
      omega (arith, sum_by-cons n (f x) (map f xs), sum_by-cons (λ x. n (f x)) x xs, sum_images n xs)

module _ {X : Type 0} where
  -- a sum over what a filter keeps
  sum_kept : (p : X → Bool) (n : X → ℕ) (xs : List X) → sum_by n (filter p xs) ≡ sum_by (λ x. cond (p x) (n x) 0) xs
  sum_kept p n [] = refl
  sum_kept p n (x ∷ xs) = by (p x) refl (sum_kept p n xs)
    where
      by : (b : Bool) → p x ≡ b → sum_by n (filter p xs) ≡ sum_by (λ x. cond (p x) (n x) 0) xs
          → sum_by n (cond b (x ∷ filter p xs) (filter p xs)) ≡ sum_by (λ x. cond (p x) (n x) 0) (x ∷ xs)
      by true e rest =
          let here : cond (p x) (n x) 0 ≡ n x = ap (λ b. cond b (n x) 0) e in
          omega (arith, sum_by-cons n x (filter p xs), sum_by-cons (λ x. cond (p x) (n x) 0) x xs, here, rest)
      by false e rest =
          let here : cond (p x) (n x) 0 ≡ 0 = ap (λ b. cond b (n x) 0) e in
          omega (arith, sum_by-cons (λ x. cond (p x) (n x) 0) x xs, here, rest)

  sum_of_two : (n m : X → ℕ) (xs : List X) → sum_by (λ x. n x + m x) xs ≡ sum_by n xs + sum_by m xs
  sum_of_two n m [] = refl
  sum_of_two n m (x ∷ xs) =
      omega (arith, sum_by-cons (λ x. n x + m x) x xs, sum_by-cons n x xs, sum_by-cons m x xs, sum_of_two n m xs)

  sum_of_none : (p : X → Bool) (xs : List X) → sum_by (λ x. cond (p x) 0 0) xs ≡ 0
  sum_of_none p [] = refl
  sum_of_none p (x ∷ xs) =
      omega (arith, sum_by-cons (λ x. cond (p x) 0 0) x xs, nothing (p x) 0 refl, sum_of_none p xs)

-- ---- counts at pixels, summed over pixels

module _ (p : Point → Bool) where
  -- one thing at x, counted at the pixel g, if g passes
  abbrev counted_at : Point → Point → ℕ
  counted_at x g = cond (p g) (cond (point_eq g x) 1 0) 0

  counts_below : (x : Point) (hs : List Point) → AllByRecursion (λ h. point_cmp x h ≡ Less) hs
      → sum_by (counted_at x) hs ≡ 0
  counts_below x [] h = refl
  counts_below x (g ∷ hs) h =
      let other : point_cmp g x ≡ Greater = point_total.antisymm g x ∙ ap ordering_reverse h.0 in
      let here : counted_at x g ≡ 0 = ap (λ r. cond (p g) (cond (is_eq r) 1 0) 0) other ∙ nothing (p g) 0 refl in
      omega (arith, sum_by-cons (counted_at x) g hs, here, counts_below x hs h.1)

  -- in a rising list that has x the thing is counted once, if x passes
  counts_once : (x : Point) (hs : List Point) → IsStrictlySortedBy point_cmp hs → Contains hs x
      → sum_by (counted_at x) hs ≡ cond (p x) 1 0
  unfolding IsStrictlySortedBy
  counts_once x [] s c = absurd (omega (arith, c.1))
  counts_once x (g ∷ hs) s c = by (contains_cases g hs x c) (counts_once x hs s.1)
    where
      by : (g ≡ x) ⊎ Contains hs x → (Contains hs x → sum_by (counted_at x) hs ≡ cond (p x) 1 0)
          → sum_by (counted_at x) (g ∷ hs) ≡ cond (p x) 1 0
      by (inl same) rest =
          let here : counted_at x g ≡ cond (p x) 1 0 =
          ap (counted_at x) same ∙ ap (λ r. cond (p x) (cond (is_eq r) 1 0) 0) (tied_itself point_total x) in
          let none = counts_below x hs (subst (λ h. AllByRecursion (λ k. point_cmp h k ≡ Less) hs) same s.0) in
          omega (arith, sum_by-cons (counted_at x) g hs, here, none)
      by (inr later) rest =
          let less : point_cmp g x ≡ Less = all_at (λ k. point_cmp g k ≡ Less) hs x s.0 later in
          let here : counted_at x g ≡ 0 = ap (λ r. cond (p g) (cond (is_eq r) 1 0) 0) less ∙ nothing (p g) 0 refl in
          omega (arith, sum_by-cons (counted_at x) g hs, here, rest later)

  -- the counts at all pixels that pass, of a rising list that has all things, are the things that pass
  counts_summed : (hs : List Point) → IsStrictlySortedBy point_cmp hs → (xs : List Point)
      → AllByRecursion (λ x. Contains hs x) xs
      → sum_by (λ h. cond (p h) (count_by (point_eq h) xs) 0) hs ≡ count_by p xs
  counts_summed hs s [] c = sum_of_none p hs
  counts_summed hs s (x ∷ xs) c =
      (λ i. sum_by (λ h. one_more h i) hs)
      ∙ sum_of_two (counted_at x) (λ h. cond (p h) (count_by (point_eq h) xs) 0) hs
      ∙ (λ i. counts_once x hs s c.0 i + counts_summed hs s xs c.1 i)
      ∙ sym (sum_by-cons (λ h. cond (p h) 1 0) x xs)
    where
      added : (b : Bool) (n m k : ℕ) → k ≡ n + m → cond b k 0 ≡ cond b n 0 + cond b m 0
      added true n m k e = e
      added false n m k e = refl

      one_more : (h : Point)
          → cond (p h) (count_by (point_eq h) (x ∷ xs)) 0 ≡ counted_at x h + cond (p h) (count_by (point_eq h) xs) 0
      one_more h =
          added (p h) (cond (point_eq h x) 1 0) (count_by (point_eq h) xs) (count_by (point_eq h) (x ∷ xs))
          (sum_by-cons (λ y. cond (point_eq h y) 1 0) x xs)

-- ---- the spots of a tile

module _ (t : TileContent) where
  -- the pixel lies in the tile, or has this key
  abbrev here : Point → Bool
  here h = in_tile t.profile t.id h

  abbrev pub has_this_key : ℕ → Point → Bool
  has_this_key k h = nat_eq (key_of (frame_of t) h) k

  abbrev hot_here : List Point
  hot_here = hot_in t.profile t.id t.segments

  hot_rises : IsStrictlySortedBy point_cmp (hot t.segments)
  hot_rises = sorted_rising point_total (end_points t.segments ++ crossing_pixels t.segments)

  -- spots count as hot pixels do
  spots_count : (n : Spot → ℕ) (k : ℕ) → sum_by (at_key n k) (spots_in t)
      ≡ sum_by (λ h. cond (here h && has_this_key k h) (n (spot_of (frame_of t) (vertex_at t.segments h))) 0) (hot t.segments)
  spots_count n k =
      sum_images (spot_of (frame_of t)) (at_key n k) (map (vertex_at t.segments) hot_here)
      ∙ sum_images (vertex_at t.segments) (λ v. at_key n k (spot_of (frame_of t) v)) hot_here
      ∙ sum_kept here (λ h. at_key n k (spot_of (frame_of t) (vertex_at t.segments h))) (hot t.segments)
      ∙ (λ i. sum_by (λ h. both_tests (here h) (has_this_key k h) (n (spot_of (frame_of t) (vertex_at t.segments h))) i)
      (hot t.segments))
    where
      both_tests : (b c : Bool) (m : ℕ) → cond b (cond c m 0) 0 ≡ cond (b && c) m 0
      both_tests true c m = refl
      both_tests false c m = refl

  ends_are_hot : AllByRecursion (λ x. Contains (hot t.segments) x) (end_points t.segments)
  ends_are_hot =
      all_contained (λ x. Contains (hot t.segments) x) (end_points t.segments) (λ x c.
      (contains_rising point_total point_exact (end_points t.segments ++ crossing_pixels t.segments) x).1
      (Contains-append_left (end_points t.segments) (crossing_pixels t.segments) x c))

  crossings_are_hot : AllByRecursion (λ x. Contains (hot t.segments) x) (crossing_pixels t.segments)
  crossings_are_hot =
      all_contained (λ x. Contains (hot t.segments) x) (crossing_pixels t.segments) (λ x c.
      (contains_rising point_total point_exact (end_points t.segments ++ crossing_pixels t.segments) x).1
      (Contains-append_right (end_points t.segments) (crossing_pixels t.segments) x c))

  -- at a key the spots count the ends in the tile whose pixels have it, and the crossings likewise
  pub ends_of_spots : (k : ℕ)
      → ends_counted (spots_in t) k ≡ count_by (has_this_key k) (filter (in_tile t.profile t.id) (end_points t.segments))
  ends_of_spots k =
      spots_count (λ x. x.ends) k
      ∙ counts_summed (λ h. here h && has_this_key k h) (hot t.segments) hot_rises (end_points t.segments) ends_are_hot
      ∙ sym (count_of_kept here (has_this_key k) (end_points t.segments))

  pub crossings_of_spots : (k : ℕ)
      → crossings_counted (spots_in t) k
      ≡ count_by (has_this_key k) (filter (in_tile t.profile t.id) (crossing_pixels t.segments))
  crossings_of_spots k =
      spots_count (λ x. x.crossings) k
      ∙ counts_summed (λ h. here h && has_this_key k h) (hot t.segments) hot_rises (crossing_pixels t.segments) crossings_are_hot
      ∙ sym (count_of_kept here (has_this_key k) (crossing_pixels t.segments))

  -- the keys are those of the hot pixels
  pub keys_of_spots : keys (spots_in t) ≡ map (key_of (frame_of t)) (hot_in t.profile t.id t.segments)
  keys_of_spots =
      map_twice (spot_of (frame_of t)) (λ x. x.key) (map (vertex_at t.segments) hot_here)
      ∙ map_twice (vertex_at t.segments) (λ v. key_of (frame_of t) v.at) hot_here

  -- keys rise, and each spot counts something
  pub spots_are_spots : IsProfile t.profile → AreSpots (spots_in t)
  spots_are_spots profile =
      record {
        in_order =
            subst (IsStrictlySortedBy nat_cmp) (sym keys_of_spots)
            (sorted_images (key_of (frame_of t)) (λ h. IsTrue (here h)) point_cmp nat_cmp (key_cmp (frame_of t) profile)
            hot_here (all_contained (λ h. IsTrue (here h)) hot_here (λ h c. ((contains_filter here (hot t.segments) h).0 c).1))
            (IsStrictlySortedBy-filter point_cmp here (hot t.segments) hot_rises));
        hot =
            all_mapped (spot_of (frame_of t)) IsHot (map (vertex_at t.segments) hot_here)
            (all_mapped (vertex_at t.segments) (λ v. IsHot (spot_of (frame_of t) v)) hot_here
            (all_contained (λ h. IsHot (spot_of (frame_of t) (vertex_at t.segments h))) hot_here
            (λ h c. ((hot_is_counted t.segments).counted h).0 ((contains_filter here (hot t.segments) h).0 c).0)));
      }
