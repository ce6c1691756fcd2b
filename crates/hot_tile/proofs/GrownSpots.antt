-- The spots of a tile with a segment more: the old ones, with the segment's own counted more. Both
-- count the same at each key, since the ends and the crossings in the tile are those of the list
-- and those of the segment.
use Rattle.std.proofs.Common.{◌≡◌, refl, ap, sym, ◌∙◌, ℕ, ◌+◌, arith, Bool, true, false, cond}
use Rattle.std.proofs.Common.{List, [], ◌∷◌, ◌++◌, map, filter, sum_by, count_by, nat_eq, nat_cmp}
use Rattle.std.specs.Prelude.{filter_map, Option, Some, None, if◌then◌else◌}
use Rattle.std.specs.List.{AllByRecursion, cons_option}
use Rattle.std.specs.List.Sorted.{IsStrictlySortedBy}
use Rattle.std.proofs.lemmas.List.{map-append, append-nil}
use Rattle.std.proofs.lemmas.List.Sums.{sum_by-cons, sum_by-append}
use Rattle.grid_core.specs.declared.point.Point.{Point}
use Rattle.grid_core.specs.Profile.{IsProfile}
use Rattle.grid_core.specs.Name.{label_cmp, label_eq}
use Rattle.grid_core.specs.Segment.{Segment}
use Rattle.grid_core.specs.LiveList.{names, with_segment}
use Rattle.grid_core.specs.RisingSet.{rising}
use Rattle.grid_core.specs.Rounding.{crossing_pixel}
use Rattle.grid_core.specs.Tiles.{in_tile}
use Rattle.tile_law.specs.OneMore.{own_ends, own_crossings}
use Rattle.tile_law.proofs.OneMore.{kept_ends_with, kept_crossings_with}
use Rattle.hot_tile.specs.declared.spots.Spot.{Spot}
use Rattle.hot_tile.specs.Frame.{TileFrame, key_of, key_in}
use Rattle.hot_tile.specs.Spots.{keys, merged, ends_counted, crossings_counted}
use Rattle.hot_tile.specs.Own.{one_end, one_crossing, of_some, end_spot, pixel_spot, crossing_spot, end_spots, crossing_spots, own_spots}
use Rattle.hot_tile.specs.Tile.{TileContent, frame_of, spots_in}
use Rattle.hot_tile.proofs.PartCounts.{has_this_key, ends_of_spots, crossings_of_spots, spots_are_spots}
use Rattle.hot_tile.proofs.SpotCounts.{at_key, AreSpots, IsHot, spots_same, merged_are_spots, none_are_spots, ends_merged, crossings_merged, keys_merged}

-- ---- what a segment counts by its own

all_joined : {X : Type 0} (P : X → Type 0) (xs ys : List X) → AllByRecursion P xs → AllByRecursion P ys
    → AllByRecursion P (xs ++ ys)
all_joined P [] ys h k = k
all_joined P (x ∷ xs) ys h k = (h.0, all_joined P xs ys h.1 k)

module _ (f : TileFrame) where
  -- the pixel lies in the tile, or has this key
  abbrev here : Point → Bool
  here h = in_tile f.profile f.id h

  abbrev with_key : ℕ → Point → Bool
  with_key k h = nat_eq (key_of f h) k

  -- one thing at h, as a spot that counts m of it
  module _ (one : ℕ → Spot) (own_key : (k : ℕ) → (one k).key ≡ k) where
    abbrev spot_at : Point → List Spot
    spot_at h = of_some (λ k. one k ∷ []) (key_in f h)

    -- it has the key of h, if that lies in the tile
    keys_at : (h : Point) (hs : List Point)
        → keys (spot_at h) ++ map (key_of f) (filter here hs) ≡ map (key_of f) (filter here (h ∷ hs))
    keys_at h hs = by (here h)
      where
        by : (b : Bool)
            → keys (of_some (λ k. one k ∷ []) (if b then Some (key_of f h) else None)) ++ map (key_of f) (filter here hs)
            ≡ map (key_of f) (cond b (h ∷ filter here hs) (filter here hs))
        by true = ap (λ k. k ∷ map (key_of f) (filter here hs)) (own_key (key_of f h))
        by false = refl

    counts_at : (n : Spot → ℕ) → ((j : ℕ) → n (one j) ≡ 1) → (k : ℕ) (h : Point) (hs : List Point)
        → sum_by (at_key n k) (spot_at h) + count_by (with_key k) (filter here hs)
        ≡ count_by (with_key k) (filter here (h ∷ hs))
    counts_at n counts k h hs = by (here h)
      where
        once : at_key n k (one (key_of f h)) ≡ cond (with_key k h) 1 0
        once = λ i. cond (nat_eq (own_key (key_of f h) i) k) (counts (key_of f h) i) 0

        by : (b : Bool)
            → sum_by (at_key n k) (of_some (λ k. one k ∷ []) (if b then Some (key_of f h) else None))
            + count_by (with_key k) (filter here hs)
            ≡ count_by (with_key k) (cond b (h ∷ filter here hs) (filter here hs))
        by true =
            omega (
              arith,
              sum_by-cons (at_key n k) (one (key_of f h)) [],
              sum_by-cons (λ h. cond (with_key k h) 1 0) h (filter here hs),
              once,
            )
        by false = omega arith

    counts_nothing : (n : Spot → ℕ) → ((j : ℕ) → n (one j) ≡ 0) → (k : ℕ) (h : Point) → sum_by (at_key n k) (spot_at h) ≡ 0
    counts_nothing n none k h = by (here h)
      where
        nothing : (b : Bool) (m : ℕ) → m ≡ 0 → cond b m 0 ≡ 0
        nothing true m e = e
        nothing false m e = refl

        by : (b : Bool) → sum_by (at_key n k) (of_some (λ k. one k ∷ []) (if b then Some (key_of f h) else None)) ≡ 0
        by true =
            omega (
              arith,
              sum_by-cons (at_key n k) (one (key_of f h)) [],
              nothing (nat_eq (one (key_of f h)).key k) (n (one (key_of f h))) (none (key_of f h)),
            )
        by false = refl

    hot_at : ((j : ℕ) → IsHot (one j)) → (h : Point) → AllByRecursion IsHot (spot_at h)
    hot_at hot h = by (key_in f h)
      where
        by : (o : Option ℕ) → AllByRecursion IsHot (of_some (λ k. one k ∷ []) o)
        by None = tt
        by (Some k) = (hot k, tt)

  -- ---- the ends

  keys_of_ends : (s : Segment) → keys (end_spots f s) ≡ map (key_of f) (own_ends f.profile f.id s)
  keys_of_ends s =
      map-append (λ x. x.key) (end_spot f s.p) (end_spot f s.q)
      ∙ ap (λ ks. keys (end_spot f s.p) ++ ks) (sym (append-nil (keys (end_spot f s.q))) ∙ keys_at one_end (λ k. refl) s.q [])
      ∙ keys_at one_end (λ k. refl) s.p (s.q ∷ [])

  ends_of_ends : (k : ℕ) (s : Segment) → ends_counted (end_spots f s) k ≡ count_by (with_key k) (own_ends f.profile f.id s)
  ends_of_ends k s =
      omega (
        arith,
        sum_by-append (at_key (λ x. x.ends) k) (end_spot f s.p) (end_spot f s.q),
        counts_at one_end (λ k. refl) (λ x. x.ends) (λ j. refl) k s.q [],
        counts_at one_end (λ k. refl) (λ x. x.ends) (λ j. refl) k s.p (s.q ∷ []),
      )

  crossings_of_ends : (k : ℕ) (s : Segment) → crossings_counted (end_spots f s) k ≡ 0
  crossings_of_ends k s =
      omega (
        arith,
        sum_by-append (at_key (λ x. x.crossings) k) (end_spot f s.p) (end_spot f s.q),
        counts_nothing one_end (λ k. refl) (λ x. x.crossings) (λ j. refl) k s.q,
        counts_nothing one_end (λ k. refl) (λ x. x.crossings) (λ j. refl) k s.p,
      )

  -- ---- the crossings

  module _ (s : Segment) where
    abbrev found : List Segment → List Point
    found ss = filter_map (crossing_pixel s) ss

    keys_of_crossings : (ss : List Segment)
        → keys (crossing_spots f ss s) ≡ map (key_of f) (own_crossings f.profile f.id ss s)
    keys_of_crossings [] = refl
    keys_of_crossings (u ∷ ss) =
        map-append (λ x. x.key) (crossing_spot f s u) (crossing_spots f ss s)
        ∙ ap (λ ks. keys (crossing_spot f s u) ++ ks) (keys_of_crossings ss) ∙ by (crossing_pixel s u)
      where
        by : (o : Option Point)
            → keys (of_some (pixel_spot f) o) ++ map (key_of f) (filter here (found ss))
            ≡ map (key_of f) (filter here (cons_option o (found ss)))
        by None = refl
        by (Some h) = keys_at one_crossing (λ k. refl) h (found ss)

    crossings_of_crossings : (k : ℕ) (ss : List Segment)
        → crossings_counted (crossing_spots f ss s) k ≡ count_by (with_key k) (own_crossings f.profile f.id ss s)
    crossings_of_crossings k [] = refl
    crossings_of_crossings k (u ∷ ss) =
        sum_by-append (at_key (λ x. x.crossings) k) (crossing_spot f s u) (crossing_spots f ss s)
        ∙ ap (λ m. crossings_counted (crossing_spot f s u) k + m) (crossings_of_crossings k ss) ∙ by (crossing_pixel s u)
      where
        by : (o : Option Point)
            → crossings_counted (of_some (pixel_spot f) o) k + count_by (with_key k) (filter here (found ss))
            ≡ count_by (with_key k) (filter here (cons_option o (found ss)))
        by None = omega arith
        by (Some h) = counts_at one_crossing (λ k. refl) (λ x. x.crossings) (λ j. refl) k h (found ss)

    ends_of_crossings : (k : ℕ) (ss : List Segment) → ends_counted (crossing_spots f ss s) k ≡ 0
    ends_of_crossings k [] = refl
    ends_of_crossings k (u ∷ ss) =
        sum_by-append (at_key (λ x. x.ends) k) (crossing_spot f s u) (crossing_spots f ss s)
        ∙ (λ i. by (crossing_pixel s u) i + ends_of_crossings k ss i)
      where
        by : (o : Option Point) → ends_counted (of_some (pixel_spot f) o) k ≡ 0
        by None = refl
        by (Some h) = counts_nothing one_crossing (λ k. refl) (λ x. x.ends) (λ j. refl) k h

    hot_crossings : (ss : List Segment) → AllByRecursion IsHot (crossing_spots f ss s)
    hot_crossings [] = tt
    hot_crossings (u ∷ ss) = all_joined IsHot (crossing_spot f s u) (crossing_spots f ss s) (by (crossing_pixel s u)) (hot_crossings ss)
      where
        by : (o : Option Point) → AllByRecursion IsHot (of_some (pixel_spot f) o)
        by None = tt
        by (Some h) = hot_at one_crossing (λ k. refl) (λ j. omega arith) h

  -- ---- both

  module _ (ss : List Segment) (s : Segment) where
    -- the segment counts its ends and its crossings in the tile
    pub ends_of_own : (k : ℕ) → ends_counted (own_spots f ss s) k ≡ count_by (with_key k) (own_ends f.profile f.id s)
    ends_of_own k =
        omega (
          arith,
          ends_merged k [] (end_spots f s ++ crossing_spots f ss s),
          sum_by-append (at_key (λ x. x.ends) k) (end_spots f s) (crossing_spots f ss s),
          ends_of_ends k s,
          ends_of_crossings s k ss,
        )

    pub crossings_of_own : (k : ℕ)
        → crossings_counted (own_spots f ss s) k ≡ count_by (with_key k) (own_crossings f.profile f.id ss s)
    crossings_of_own k =
        omega (
          arith,
          crossings_merged k [] (end_spots f s ++ crossing_spots f ss s),
          sum_by-append (at_key (λ x. x.crossings) k) (end_spots f s) (crossing_spots f ss s),
          crossings_of_ends k s,
          crossings_of_crossings s k ss,
        )

    -- its keys are those of its ends and crossings, in order, each once
    pub keys_of_own : keys (own_spots f ss s)
        ≡ rising nat_cmp (map (key_of f) (own_ends f.profile f.id s ++ own_crossings f.profile f.id ss s))
    keys_of_own =
        keys_merged [] (end_spots f s ++ crossing_spots f ss s)
        ∙ ap (rising nat_cmp)
        (map-append (λ x. x.key) (end_spots f s) (crossing_spots f ss s)
        ∙ (λ i. keys_of_ends s i ++ keys_of_crossings s ss i)
        ∙ sym (map-append (key_of f) (own_ends f.profile f.id s) (own_crossings f.profile f.id ss s)))

    -- keys rise, and each spot counts something
    pub own_are_spots : AreSpots (own_spots f ss s)
    own_are_spots =
        merged_are_spots [] (end_spots f s ++ crossing_spots f ss s) none_are_spots
        (all_joined IsHot (end_spots f s) (crossing_spots f ss s)
        (all_joined IsHot (end_spot f s.p) (end_spot f s.q) (hot_at one_end (λ k. refl) (λ j. omega arith) s.p)
        (hot_at one_end (λ k. refl) (λ j. omega arith) s.q))
        (hot_crossings s ss))

-- ---- the spots with a segment more

pub grown_spots : (t : TileContent) (s : Segment) → IsProfile t.profile → IsStrictlySortedBy label_cmp (names t.segments)
    → AllByRecursion (λ u. label_eq u.name s.name ≡ false) t.segments
    → spots_in (record t { segments = with_segment t.segments s })
    ≡ merged (spots_in t) (own_spots (frame_of t) t.segments s)
grown_spots t s profile order new =
    spots_same (spots_in more) (merged (spots_in t) (own_spots (frame_of t) t.segments s))
    (spots_are_spots more profile)
    (merged_are_spots (spots_in t) (own_spots (frame_of t) t.segments s) (spots_are_spots t profile)
    (own_are_spots (frame_of t) t.segments s).hot)
    (λ k. omega (
      arith,
      ends_of_spots more k,
      kept_ends_with t.profile t.id t.segments s order new (has_this_key t k),
      ends_merged k (spots_in t) (own_spots (frame_of t) t.segments s),
      ends_of_spots t k,
      ends_of_own (frame_of t) t.segments s k,
    ))
    (λ k. omega (
      arith,
      crossings_of_spots more k,
      kept_crossings_with t.profile t.id t.segments s order new (has_this_key t k),
      crossings_merged k (spots_in t) (own_spots (frame_of t) t.segments s),
      crossings_of_spots t k,
      crossings_of_own (frame_of t) t.segments s k,
    ))
  where
    more : TileContent
    more = record t { segments = with_segment t.segments s }
