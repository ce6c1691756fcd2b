-- The part of a tile with one segment more. In the tile the ends and the crossings of the longer list
-- are those of the list and those that the segment brings; so the counts are sums, the hot pixels
-- are the old ones and the segment's own, and a route has its old pixels and the fresh ones that
-- it meets.
use Rattle.std.proofs.Common.{◌≡◌, refl, ap, sym, subst, ◌∙◌, ◌+◌, ◌<◌, arith, Bool, true, false, cond}
use Rattle.std.proofs.Common.{◌&&◌, IsTrue, ◌↔◌, ◌⊎◌, inl, inr, List, [], ◌∷◌, ◌++◌, filter}
use Rattle.std.proofs.Common.{filter_map, fold, count_by, Contains, Ordering}
use Rattle.std.specs.BTreeSet.{insert_key}
use Rattle.std.specs.Cmp.{IsTotalOrder}
use Rattle.std.specs.List.{AllByRecursion}
use Rattle.std.specs.List.Sorted.{IsStrictlySortedBy}
use Rattle.std.proofs.lemmas.List.Elements.{filter-append, Contains-append_left, Contains-append_right, Contains-append_cases}
use Rattle.std.proofs.lemmas.List.Sums.{sum_by-cons, sum_by-append, fold-append}
use Rattle.std.proofs.lemmas.Map.Lookups.{CmpEqualImpliesEq}
use Rattle.grid_core.specs.declared.point.Point.{Point}
use Rattle.grid_core.specs.declared.tile.TileId.{TileId}
use Rattle.grid_core.specs.Vector.{point_cmp, point_eq}
use Rattle.grid_core.specs.Profile.{Sizes}
use Rattle.grid_core.specs.Name.{label_cmp, label_eq}
use Rattle.grid_core.specs.Segment.{Segment}
use Rattle.grid_core.specs.LiveList.{names, with_segment}
use Rattle.grid_core.specs.Meets.{meets_pixel_of}
use Rattle.grid_core.specs.RisingSet.{rising}
use Rattle.grid_core.specs.Rounding.{end_points, crossing_pixel, crossing_pixels, along_cmp}
use Rattle.grid_core.specs.Tiles.{in_tile, meets_tile, near}
use Rattle.grid_core.proofs.Filters.{counted}
use Rattle.grid_core.proofs.ListMembers.{counted_iff, contains_filter}
use Rattle.grid_core.proofs.Order.{point_total, point_exact}
use Rattle.grid_core.proofs.RisingMembers.{sorted_rising, contains_rising, any_iff, same_members}
use Rattle.grid_core.proofs.RisingSets.{filter_rising}
use Rattle.grid_core.proofs.RouteOrder.{along_and_pixel_total, along_and_pixel_exact, rising_by_product}
use Rattle.tile_law.specs.Parts.{hot_in, route_among}
use Rattle.tile_law.specs.OneMore.{own_ends, own_crossings}
use Rattle.tile_law.proofs.Edits.{near_with_met}
use Rattle.tile_law.proofs.OneMoreCounts.{ends_with, crossings_with}

-- ---- sets by their members

-- lists of one and the same members have one rising list
pub rising_by_members : {K : Type 0} {R : K → K → Ordering} (o : IsTotalOrder R) → CmpEqualImpliesEq R
    → (xs ys : List K) → ((q : K) → Contains xs q ↔ Contains ys q) → rising R xs ≡ rising R ys
rising_by_members {R} o exact xs ys same =
    same_members o exact (rising R xs) (rising R ys) (sorted_rising o xs) (sorted_rising o ys)
    (λ q. (
      λ c. (contains_rising o exact ys q).1 ((same q).0 ((contains_rising o exact xs q).0 c)),
      λ c. (contains_rising o exact xs q).1 ((same q).1 ((contains_rising o exact ys q).0 c)),
    ))

-- a list has h where it counts it
pub contains_counted : (hs : List Point) (h : Point) → Contains hs h ↔ (0 < count_by (point_eq h) hs)
contains_counted hs h = (
  λ c. (counted_iff (point_eq h) hs).0 ((any_iff point_total point_exact h hs).1 c),
  λ n. (any_iff point_total point_exact h hs).0 ((counted_iff (point_eq h) hs).1 n),
)

-- lists that count alike have one rising list
pub rising_counted : (hs ks : List Point) → ((h : Point) → count_by (point_eq h) hs ≡ count_by (point_eq h) ks)
    → rising point_cmp hs ≡ rising point_cmp ks
rising_counted hs ks same =
    rising_by_members point_total point_exact hs ks (λ h. (
      λ c. (contains_counted ks h).1 (subst (λ n. 0 < n) (same h) ((contains_counted hs h).0 c)),
      λ c. (contains_counted hs h).1 (subst (λ n. 0 < n) (sym (same h)) ((contains_counted ks h).0 c)),
    ))

-- what was set in order first may be joined as it stands
pub rising_again : {K : Type 0} {R : K → K → Ordering} (o : IsTotalOrder R) → CmpEqualImpliesEq R
    → (xs ys : List K) → rising R (xs ++ ys) ≡ rising R (rising R xs ++ ys)
rising_again {R} o exact xs ys =
    rising_by_members o exact (xs ++ ys) (rising R xs ++ ys) (λ q. (
      λ c. elim (Contains-append_cases xs ys q c) [
        | inl first ↦ Contains-append_left (rising R xs) ys q ((contains_rising o exact xs q).1 first)
        | inr second ↦ Contains-append_right (rising R xs) ys q second
      ],
      λ c. elim (Contains-append_cases (rising R xs) ys q c) [
        | inl first ↦ Contains-append_left xs ys q ((contains_rising o exact xs q).0 first)
        | inr second ↦ Contains-append_right xs ys q second
      ],
    ))

-- a route has the pixels that the segment meets, whatever list they are taken from
pub route_by_members : (hs ks : List Point) (s : Segment) → ((h : Point) → Contains hs h ↔ Contains ks h)
    → route_among hs s ≡ route_among ks s
route_by_members hs ks s same =
    sym (rising_by_product s hs)
    ∙ rising_by_members (along_and_pixel_total s) (along_and_pixel_exact s) (filter (meets_pixel_of s) hs)
    (filter (meets_pixel_of s) ks)
    (λ h. (
      λ c. let k = (contains_filter (meets_pixel_of s) hs h).0 c in
          (contains_filter (meets_pixel_of s) ks h).1 ((same h).0 k.0, k.1),
      λ c. let k = (contains_filter (meets_pixel_of s) ks h).0 c in
          (contains_filter (meets_pixel_of s) hs h).1 ((same h).1 k.0, k.1),
    ))
    ∙ rising_by_product s ks

-- a route with more pixels: the fresh ones that the segment meets are put in one after the other
pub route_with : (hs fresh more : List Point) (s : Segment)
    → ((h : Point) → Contains more h ↔ (Contains hs h ⊎ Contains fresh h))
    → route_among more s ≡ fold (insert_key (along_cmp s)) (route_among hs s) (filter (meets_pixel_of s) fresh)
route_with hs fresh more s members =
    route_by_members more (hs ++ fresh) s (λ h. (
      λ c. elim ((members h).0 c) [
        | inl old ↦ Contains-append_left hs fresh h old
        | inr new ↦ Contains-append_right hs fresh h new
      ],
      λ c. (members h).1 (Contains-append_cases hs fresh h c),
    ))
    ∙ ap (rising (along_cmp s)) (filter-append (meets_pixel_of s) hs fresh)
    ∙ fold-append (insert_key (along_cmp s)) [] (filter (meets_pixel_of s) hs) (filter (meets_pixel_of s) fresh)

-- ---- counts of what a filter keeps

module _ {X : Type 0} where
  -- what two tests pass, counted after the one or by both
  pub count_of_kept : (p q : X → Bool) (xs : List X) → count_by q (filter p xs) ≡ count_by (λ x. p x && q x) xs
  count_of_kept p q [] = refl
  count_of_kept p q (x ∷ xs) = by (p x) refl (count_of_kept p q xs)
    where
      by : (b : Bool) → p x ≡ b → count_by q (filter p xs) ≡ count_by (λ x. p x && q x) xs
          → count_by q (cond b (x ∷ filter p xs) (filter p xs)) ≡ count_by (λ x. p x && q x) (x ∷ xs)
      by true e rest =
          omega (
            arith,
            sum_by-cons (λ y. cond (q y) 1 0) x (filter p xs),
            sum_by-cons (λ y. cond (p y && q y) 1 0) x xs,
            ap (λ b. counted (b && q x)) e,
            rest,
          )
      by false e rest =
          omega (arith, sum_by-cons (λ y. cond (p y && q y) 1 0) x xs, ap (λ b. counted (b && q x)) e, rest)

-- ---- with a segment more

module _ (pr : Sizes) (t : TileId) where
  -- the hot pixels of the tile are the set of the ends and the crossings that lie in it
  hot_here : (ss : List Segment) → hot_in pr t ss
      ≡ rising point_cmp (filter (in_tile pr t) (end_points ss) ++ filter (in_tile pr t) (crossing_pixels ss))
  hot_here ss =
      filter_rising point_total (in_tile pr t) (λ g h e. ap (in_tile pr t) (point_exact g h e))
      (end_points ss ++ crossing_pixels ss)
      ∙ ap (rising point_cmp) (filter-append (in_tile pr t) (end_points ss) (crossing_pixels ss))

  module _ (ss : List Segment) (s : Segment) (order : IsStrictlySortedBy label_cmp (names ss))
      (new : AllByRecursion (λ u. label_eq u.name s.name ≡ false) ss) where
    -- of a test, in the tile: the ends of the list and the two of s
    pub kept_ends_with : (p : Point → Bool)
        → count_by p (filter (in_tile pr t) (end_points (with_segment ss s)))
        ≡ count_by p (filter (in_tile pr t) (end_points ss)) + count_by p (own_ends pr t s)
    kept_ends_with p =
        count_of_kept (in_tile pr t) p (end_points (with_segment ss s))
        ∙ ends_with ss s order new (λ h. in_tile pr t h && p h)
        ∙ sym (λ i. count_of_kept (in_tile pr t) p (end_points ss) i
        + count_of_kept (in_tile pr t) p (s.p ∷ s.q ∷ []) i)

    -- the crossings of the list, and those of s with it
    pub kept_crossings_with : (p : Point → Bool)
        → count_by p (filter (in_tile pr t) (crossing_pixels (with_segment ss s)))
        ≡ count_by p (filter (in_tile pr t) (crossing_pixels ss)) + count_by p (own_crossings pr t ss s)
    kept_crossings_with p =
        count_of_kept (in_tile pr t) p (crossing_pixels (with_segment ss s))
        ∙ crossings_with ss s order new (λ h. in_tile pr t h && p h)
        ∙ sym (λ i. count_of_kept (in_tile pr t) p (crossing_pixels ss) i
        + count_of_kept (in_tile pr t) p (filter_map (crossing_pixel s) ss) i)

    -- the hot pixels are the old ones, and the ends and crossings of s
    pub hot_with : hot_in pr t (with_segment ss s)
        ≡ rising point_cmp (hot_in pr t ss ++ (own_ends pr t s ++ own_crossings pr t ss s))
    hot_with =
        hot_here (with_segment ss s)
        ∙ rising_counted (ends (with_segment ss s) ++ crossings (with_segment ss s))
        ((ends ss ++ crossings ss) ++ (own_ends pr t s ++ own_crossings pr t ss s))
        (λ h. omega (
          arith,
          both (point_eq h) (ends (with_segment ss s)) (crossings (with_segment ss s)),
          both (point_eq h) (ends ss ++ crossings ss) (own_ends pr t s ++ own_crossings pr t ss s),
          both (point_eq h) (ends ss) (crossings ss),
          both (point_eq h) (own_ends pr t s) (own_crossings pr t ss s),
          kept_ends_with (point_eq h),
          kept_crossings_with (point_eq h),
        ))
        ∙ rising_again point_total point_exact (ends ss ++ crossings ss) (own_ends pr t s ++ own_crossings pr t ss s)
        ∙ ap (λ hs. rising point_cmp (hs ++ (own_ends pr t s ++ own_crossings pr t ss s))) (sym (hot_here ss))
      where
        ends : List Segment → List Point
        ends us = filter (in_tile pr t) (end_points us)

        crossings : List Segment → List Point
        crossings us = filter (in_tile pr t) (crossing_pixels us)

        both : (p : Point → Bool) (hs ks : List Point) → count_by p (hs ++ ks) ≡ count_by p hs + count_by p ks
        both p hs ks = sum_by-append (λ h. cond (p h) 1 0) hs ks

  -- ---- the segments that meet the tile

  -- of a tile's own segments all meet it, with the one more as well
  pub near_all_with : (ss : List Segment) (s : Segment) → near pr t ss ≡ ss → IsTrue (meets_tile pr t s)
      → near pr t (with_segment ss s) ≡ with_segment ss s
  near_all_with ss s all m = near_with_met pr t ss s m ∙ ap (λ us. with_segment us s) all
