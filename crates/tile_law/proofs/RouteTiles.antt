-- The route of a segment is its parts in the tiles that the segment meets, joined in the order in
-- which it meets them: what is later in the route lies in the same tile or in a later one, so the
-- route is its groups by tile, one after another.

use Rattle.std.proofs.Common.{◌≡◌, refl, ap, sym, subst, ◌∙◌, IsTrue, Bool, true, false, cond}
use Rattle.std.proofs.Common.{List, [], ◌∷◌, ◌++◌, map, filter, flat_map, Contains, inl, inr, arith}
use Rattle.std.proofs.Common.{Ordering, Less}
use Rattle.std.specs.Prelude.{◌<◌, ◌⊎◌}
use Rattle.std.specs.Cmp.{IsTotalOrder}
use Rattle.std.specs.List.{AllByRecursion}
use Rattle.std.specs.List.Sorted.{IsStrictlySortedBy}
use Rattle.std.specs.Ordering.{eq_by_cmp, is_eq, ordering_reverse}
use Rattle.std.proofs.lemmas.Cmp.{tied_itself}
use Rattle.std.proofs.lemmas.List.{append-nil}
use Rattle.std.proofs.lemmas.List.Elements.{filter_agree, recursion_from_All, All-from_recursion}
use Rattle.std.proofs.lemmas.Map.Views.{tells_apart}
use Rattle.grid_core.specs.declared.point.Point.{Point}
use Rattle.grid_core.specs.declared.tile.TileId.{TileId}
use Rattle.grid_core.specs.Name.{label_cmp, label_eq}
use Rattle.grid_core.specs.LiveList.{names}
use Rattle.grid_core.specs.Vector.{point_cmp}
use Rattle.grid_core.specs.Profile.{Sizes}
use Rattle.grid_core.specs.Segment.{Segment}
use Rattle.grid_core.specs.Meets.{meets_pixel_of}
use Rattle.grid_core.specs.RisingSet.{rising}
use Rattle.grid_core.specs.Rounding.{RoutedSegment, hot, along_cmp, route}
use Rattle.grid_core.specs.Tiles.{tile_of, in_tile, meets_tile, near, along_tile_cmp, along, part_of}
use Rattle.grid_core.proofs.Filters.{all_kept, none_kept, filter_swapped}
use Rattle.grid_core.proofs.ListMembers.{contains_cases}
use Rattle.grid_core.proofs.Order.{label_total}
use Rattle.grid_core.proofs.RisingMembers.{sorted_rising, any_iff}
use Rattle.grid_core.proofs.RisingSets.{All-rising}
use Rattle.grid_core.proofs.RouteEnds.{all_at}
use Rattle.grid_core.proofs.RouteOrder.{along_total}
use Rattle.grid_core.proofs.SortedLists.{grouped}
use Rattle.grid_core.proofs.TileOrder.{tile_decides, along_tile_total, along_tile_exact}
use Rattle.tile_law.specs.Parts.{route_in}
use Rattle.tile_law.specs.Laws.{RouteIsJoined}
use Rattle.tile_law.proofs.AlongTiles.{later_tile}
use Rattle.tile_law.proofs.Locality.{route_here, outside}
use Rattle.tile_law.proofs.MetTiles.{contains_along, sorted_along}
use Rattle.tile_law.proofs.TileBoxes.{meets_tile_of}

-- each pixel of a route is met by its segment
pub route_met : (ss : List Segment) (s : Segment) → AllByRecursion (λ h. IsTrue (meets_pixel_of s h)) (route ss s)
route_met ss s =
    recursion_from_All (λ h. IsTrue (meets_pixel_of s h)) (route ss s)
    (All-rising (along_cmp s) (λ h. IsTrue (meets_pixel_of s h)) (filter (meets_pixel_of s) (hot ss))
    (All-from_recursion (λ h. IsTrue (meets_pixel_of s h)) (filter (meets_pixel_of s) (hot ss))
    (all_kept (λ h. IsTrue (meets_pixel_of s h)) (meets_pixel_of s) (λ h e. e) (hot ss))))

same_tests : (b c : Bool) → (b ≡ true → c ≡ true) → (c ≡ true → b ≡ true) → b ≡ c
same_tests true c f g = sym (f refl)
same_tests false true f g = g refl
same_tests false false f g = refl

module _ (pr : Sizes) (some : 0 < pr.side) (s : Segment) (ordered : point_cmp s.p s.q ≡ Less) where
  -- the two tests for the tile of a pixel
  in_tile_along : (t : TileId) (h : Point) → eq_by_cmp (along_tile_cmp s) t (tile_of pr h) ≡ in_tile pr t h
  in_tile_along t h =
      same_tests (eq_by_cmp (along_tile_cmp s) t (tile_of pr h)) (in_tile pr t h)
      (λ e. (tile_decides (tile_of pr h) t).1 (sym (tells_apart (along_tile_exact s) t (tile_of pr h) e)))
      (λ e. ap is_eq (ap (along_tile_cmp s t) ((tile_decides (tile_of pr h) t).0 e)
      ∙ tied_itself (along_tile_total s) t))

  -- a route is its parts in some tiles, joined, where these stand along s and have all that s meets
  pub route_in_tiles : (ss : List Segment) (ts : List TileId) → IsStrictlySortedBy (along_tile_cmp s) ts
      → ((t : TileId) → IsTrue (meets_tile pr t s) → Contains ts t)
      → route ss s ≡ flat_map (λ t. filter (in_tile pr t) (route ss s)) ts
  route_in_tiles ss ts sorted has =
      grouped (along_cmp s) (along_tile_total s) (tile_of pr) (λ h. IsTrue (meets_pixel_of s h)) ts
      (record {
        rising = sorted;
        later = later_tile pr some s ordered;
        found = λ h m. (any_iff (along_tile_total s) (along_tile_exact s) (tile_of pr h) ts).1
            (has (tile_of pr h) (meets_tile_of pr some s h m));
      })
      (route ss s) (route_met ss s) (sorted_rising (along_total s) (filter (meets_pixel_of s) (hot ss)))
      ∙ pieces ts
    where
      pieces : (ts : List TileId)
          → flat_map (λ t. filter (λ h. eq_by_cmp (along_tile_cmp s) t (tile_of pr h)) (route ss s)) ts
          ≡ flat_map (λ t. filter (in_tile pr t) (route ss s)) ts
      pieces [] = refl
      pieces (t ∷ ts) = λ i.
          filter_agree (λ h. eq_by_cmp (along_tile_cmp s) t (tile_of pr h)) (in_tile pr t) (in_tile_along t) (route ss s) i
          ++ pieces ts i

  -- a route is its parts in the tiles along s, joined
  pub route_along : (ss : List Segment) → route ss s ≡ flat_map (λ t. filter (in_tile pr t) (route ss s)) (along pr s)
  route_along ss =
      route_in_tiles ss (along pr s) (sorted_along pr some s) (λ t. (contains_along pr some s ordered t).1)

-- ---- the parts of one segment

module _ {X K : Type 0} (f : X → K) {R : K → K → Ordering} (o : IsTotalOrder R) where
  all_of_keys : (P : K → Type 0) (xs : List X) → AllByRecursion P (map f xs) → AllByRecursion (λ x. P (f x)) xs
  all_of_keys P [] h = tt
  all_of_keys P (x ∷ xs) h = (h.0, all_of_keys P xs h.1)

  others : (k : K) (xs : List X) → AllByRecursion (λ x. R k (f x) ≡ Less) xs
      → AllByRecursion (λ x. eq_by_cmp R (f x) k ≡ false) xs
  others k [] h = tt
  others k (x ∷ xs) h = (ap is_eq (o.antisymm (f x) k ∙ ap ordering_reverse h.0), others k xs h.1)

  -- of a list whose keys rise, one element has the key of an element
  pub one_of_key : (xs : List X) (x : X) → IsStrictlySortedBy R (map f xs) → Contains xs x
      → filter (λ y. eq_by_cmp R (f y) (f x)) xs ≡ x ∷ []
  unfolding IsStrictlySortedBy
  one_of_key [] x s c = absurd (omega (arith, c.1))
  one_of_key (y ∷ ys) x s c = by (contains_cases y ys x c) (one_of_key ys x s.1)
    where
      test : X → Bool
      test z = eq_by_cmp R (f z) (f x)

      later : AllByRecursion (λ z. R (f y) (f z) ≡ Less) ys
      later = all_of_keys (λ k. R (f y) k ≡ Less) ys s.0

      by : (y ≡ x) ⊎ Contains ys x → (Contains ys x → filter test ys ≡ x ∷ [])
          → cond (test y) (y ∷ filter test ys) (filter test ys) ≡ x ∷ []
      by (inl e) rest =
          let here : test y ≡ true = ap (λ z. eq_by_cmp R (f z) (f x)) e ∙ ap is_eq (tied_itself o (f x)) in
          let none : filter test ys ≡ [] =
          none_kept test ys (subst (λ z. AllByRecursion (λ v. eq_by_cmp R (f v) (f z) ≡ false) ys) e (others (f y) ys later)) in
          ap (λ b. cond b (y ∷ filter test ys) (filter test ys)) here ∙ (λ i. e i ∷ none i)
      by (inr d) rest =
          let less : R (f y) (f x) ≡ Less = all_at (λ z. R (f y) (f z) ≡ Less) ys x later d in
          ap (λ r. cond (is_eq r) (y ∷ filter test ys) (filter test ys)) less ∙ rest d

-- to filter images is to filter by the image's test
filter_mapped : {X Y : Type 0} (f : X → Y) (p : Y → Bool) (xs : List X)
    → filter p (map f xs) ≡ map f (filter (λ x. p (f x)) xs)
filter_mapped f p [] = refl
filter_mapped f p (x ∷ xs) = by (p (f x)) (filter_mapped f p xs)
  where
    by : (b : Bool) → filter p (map f xs) ≡ map f (filter (λ x. p (f x)) xs)
        → cond b (f x ∷ filter p (map f xs)) (filter p (map f xs))
        ≡ map f (cond b (x ∷ filter (λ x. p (f x)) xs) (filter (λ x. p (f x)) xs))
    by true rest = ap (λ ys. f x ∷ ys) rest
    by false rest = rest

joined_mapped : {X Y Z : Type 0} (f : X → Y) (g : Y → List Z) (xs : List X) → flat_map g (map f xs) ≡ flat_map (λ x. g (f x)) xs
joined_mapped f g [] = refl
joined_mapped f g (x ∷ xs) = ap (λ zs. g (f x) ++ zs) (joined_mapped f g xs)

-- where no element of the one kind is of the other, nothing is of both
none_of_both : {X : Type 0} (p q : X → Bool) → ((x : X) → p x ≡ true → q x ≡ false) → (xs : List X) → filter q (filter p xs) ≡ []
none_of_both p q h xs = none_kept q (filter p xs) (all_kept (λ x. q x ≡ false) p h xs)

module _ (pr : Sizes) (some : 0 < pr.side) where
  -- a route has no pixel in a tile that its segment doesn't meet
  pub route_far : (t : TileId) (ss : List Segment) (s : Segment) → meets_tile pr t s ≡ false
      → filter (in_tile pr t) (route ss s) ≡ []
  route_far t ss s e =
      route_here pr t ss s
      ∙ ap (rising (along_cmp s)) (filter_swapped (in_tile pr t) (meets_pixel_of s) (hot ss)
      ∙ none_of_both (meets_pixel_of s) (in_tile pr t) (λ h m. outside pr some t s h e m) (hot ss))

  -- what a part has of a segment of the list are the points of its route that lie in the tile
  pub route_in_part : (t : TileId) (ss : List Segment) (s : Segment) → IsStrictlySortedBy label_cmp (names ss) → Contains ss s
      → route_in (part_of pr t ss) s.name ≡ filter (in_tile pr t) (route ss s)
  route_in_part t ss s sorted c =
      ap (flat_map points) (filter_mapped routed (λ r. label_eq r.ur.name s.name) (near pr t ss))
      ∙ joined_mapped routed points (filter named (near pr t ss))
      ∙ ap (flat_map here) (filter_swapped (meets_tile pr t) named ss
      ∙ ap (near pr t) (one_of_key (λ (u : Segment). u.name) label_total ss s sorted c))
      ∙ by (meets_tile pr t s) refl
    where
      points : RoutedSegment → List Point
      points r = r.points

      here : Segment → List Point
      here u = filter (in_tile pr t) (route ss u)

      routed : Segment → RoutedSegment
      routed u = record { ur = u; points = here u }

      named : Segment → Bool
      named u = label_eq u.name s.name

      by : (b : Bool) → meets_tile pr t s ≡ b → flat_map here (cond b (s ∷ []) []) ≡ here s
      by true e = append-nil (here s)
      by false e = sym (route_far t ss s e)

  -- the route of a segment of the list is what the parts have of it, joined along the segment
  pub route_of_parts : (ss : List Segment) (s : Segment) → point_cmp s.p s.q ≡ Less
      → IsStrictlySortedBy label_cmp (names ss) → Contains ss s
      → route ss s ≡ flat_map (λ t. route_in (part_of pr t ss) s.name) (along pr s)
  route_of_parts ss s ordered sorted c = route_along pr some s ordered ss ∙ pieces (along pr s)
    where
      pieces : (ts : List TileId)
          → flat_map (λ t. filter (in_tile pr t) (route ss s)) ts ≡ flat_map (λ t. route_in (part_of pr t ss) s.name) ts
      pieces [] = refl
      pieces (t ∷ ts) = λ i. sym (route_in_part t ss s sorted c) i ++ pieces ts i

pub route_is_joined : (pr : Sizes) → 0 < pr.side → (ss : List Segment) (s : Segment) → point_cmp s.p s.q ≡ Less
    → RouteIsJoined pr ss s
route_is_joined pr some ss s ordered =
    record { pieces = route_along pr some s ordered ss; of_parts = route_of_parts pr some ss s ordered }
