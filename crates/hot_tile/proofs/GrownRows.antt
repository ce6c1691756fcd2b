-- The rows of a tile: steps of the pixels that a segment meets, in order along it. With a segment
-- more each row gets the steps of those fresh pixels that its segment meets. Steps stand in the
-- order in which the segment meets their pixels, so to put in a pixel is to put in its step.
use Rattle.std.proofs.Common.{◌≡◌, refl, ap, sym, ◌∙◌, subst, ℕ, arith, Bool, true, false, cond, not, ◌||◌}
use Rattle.std.proofs.Common.{IsTrue, ◌↔◌, ◌⊎◌, inl, inr, List, [], ◌∷◌, ◌++◌, map, filter, filter_map, fold, Contains}
use Rattle.std.proofs.Common.{Ordering, Less, Equal, Greater, nat_eq, nat_cmp, is_eq}
use Rattle.std.specs.BTreeSet.{insert_key}
use Rattle.std.specs.Cmp.{IsTotalOrder}
use Rattle.std.specs.List.{AllByRecursion, list_any}
use Rattle.std.specs.List.Sorted.{IsStrictlySortedBy}
use Rattle.std.specs.Ordering.{match_ordering}
use Rattle.std.proofs.lemmas.Bool.Decides.{nat_tests}
use Rattle.std.proofs.lemmas.List.Elements.{Contains-append_left, Contains-append_right, Contains-append_cases}
use Rattle.grid_core.specs.declared.point.Point.{Point}
use Rattle.grid_core.specs.Vector.{point_cmp, point_eq}
use Rattle.grid_core.specs.Profile.{IsProfile}
use Rattle.grid_core.specs.Name.{label_cmp, label_eq}
use Rattle.grid_core.specs.Segment.{Segment}
use Rattle.grid_core.specs.LiveList.{names, with_segment}
use Rattle.grid_core.specs.Meets.{meets_pixel_of}
use Rattle.grid_core.specs.RisingSet.{rising}
use Rattle.grid_core.specs.Rounding.{RoutedSegment, crossing_pixel, along_cmp, hot, route}
use Rattle.grid_core.specs.Tiles.{in_tile, near}
use Rattle.grid_core.proofs.Filters.{same_kept, all_kept}
use Rattle.grid_core.proofs.ListMembers.{contains_filter}
use Rattle.grid_core.proofs.Order.{point_total, point_exact}
use Rattle.grid_core.proofs.RisingMembers.{all_inserted, sorted_rising, contains_rising, any_iff}
use Rattle.grid_core.proofs.RisingSets.{rising-map}
use Rattle.grid_core.proofs.RouteEnds.{all_at}
use Rattle.grid_core.proofs.RouteOrder.{along_total, rising_alike}
use Rattle.tile_law.specs.Parts.{hot_in, route_among}
use Rattle.tile_law.specs.OneMore.{own_ends, own_crossings}
use Rattle.tile_law.proofs.Locality.{route_here}
use Rattle.tile_law.proofs.OneMore.{hot_with, route_with}
use Rattle.tile_law.proofs.TileSums.{all_contained}
use Rattle.hot_tile.specs.Frame.{TileFrame, key_of, step_of}
use Rattle.hot_tile.specs.Spots.{keys, has_key, fresh_keys}
use Rattle.hot_tile.specs.Own.{own_spots}
use Rattle.hot_tile.specs.Steps.{meets_key, grown_row}
use Rattle.hot_tile.specs.Tile.{TileContent, frame_of, row_of, path_in, spots_in, rows_in}
use Rattle.hot_tile.proofs.FrameLaws.{pixel_back, key_cmp, along_by_step}
use Rattle.hot_tile.proofs.GrownSpots.{keys_of_own}
use Rattle.hot_tile.proofs.PartCounts.{map_twice, sorted_images, keys_of_spots}

-- ---- images of lists

module _ {X Y : Type 0} (g : X → Y) where
  -- what is kept of images is the images of what is kept
  pub filter_images : (p : Y → Bool) (xs : List X) → filter p (map g xs) ≡ map g (filter (λ x. p (g x)) xs)
  filter_images p [] = refl
  filter_images p (x ∷ xs) = by (p (g x)) (filter_images p xs)
    where
      by : (b : Bool) → filter p (map g xs) ≡ map g (filter (λ x. p (g x)) xs)
          → cond b (g x ∷ filter p (map g xs)) (filter p (map g xs))
          ≡ map g (cond b (x ∷ filter (λ x. p (g x)) xs) (filter (λ x. p (g x)) xs))
      by true rest = ap (λ ys. g x ∷ ys) rest
      by false rest = rest

  -- to put in an image is to put in what it is of, where the orders agree
  module _ (Φ : X → Type 0) {R : X → X → Ordering} (o : IsTotalOrder R) (S : Y → Y → Ordering)
      (agree : (a b : X) → Φ a → Φ b → R a b ≡ S (g a) (g b)) where
    image_put : (x : X) (xs : List X) → Φ x → AllByRecursion Φ xs
        → map g (insert_key R xs x) ≡ insert_key S (map g xs) (g x)
    image_put x [] p h = refl
    image_put x (y ∷ xs) p h =
        by (R x y) (image_put x xs p h.1)
        ∙ ap (λ r. match_ordering r (g x ∷ g y ∷ map g xs) (g y ∷ map g xs) (g y ∷ insert_key S (map g xs) (g x)))
        (agree x y p h.0)
      where
        by : (r : Ordering) → map g (insert_key R xs x) ≡ insert_key S (map g xs) (g x)
            → map g (match_ordering r (x ∷ y ∷ xs) (y ∷ xs) (y ∷ insert_key R xs x))
            ≡ match_ordering r (g x ∷ g y ∷ map g xs) (g y ∷ map g xs) (g y ∷ insert_key S (map g xs) (g x))
        by Less rest = refl
        by Equal rest = refl
        by Greater rest = ap (λ ys. g y ∷ ys) rest

    pub images_put : (xs ys : List X) → AllByRecursion Φ xs → AllByRecursion Φ ys
        → map g (fold (insert_key R) xs ys) ≡ fold (insert_key S) (map g xs) (map g ys)
    images_put xs [] h k = refl
    images_put xs (y ∷ ys) h k =
        images_put (insert_key R xs y) ys (all_inserted o Φ y xs k.0 h) k.1
        ∙ ap (λ zs. fold (insert_key S) zs (map g ys)) (image_put y xs k.0 h)

-- ---- pixels of the tile

-- the pixel lies in the tile
abbrev pub LiesHere : TileFrame → Point → Type 0
LiesHere f h = IsTrue (in_tile f.profile f.id h)

-- two numbers are one where they tie
pub same_tests : (j k : ℕ) → nat_eq j k ≡ is_eq (nat_cmp k j)
same_tests j k = grind (arith, nat_tests)

module _ (f : TileFrame) (profile : IsProfile f.profile) where
  -- a pixel of the tile is in a list of such where its key is
  pub key_found : (hs : List Point) (h : Point) → AllByRecursion (LiesHere f) hs → LiesHere f h
      → has_key (map (key_of f) hs) (key_of f h) ≡ list_any (point_eq h) hs
  key_found [] h a i = refl
  key_found (g ∷ hs) h a i =
      λ k. (same_tests (key_of f g) (key_of f h) ∙ ap is_eq (sym (key_cmp f profile h g i a.0))) k || key_found hs h a.1 i k

  -- the keys of a set of pixels are the set of their keys
  pub keys_rising : (hs : List Point) → AllByRecursion (LiesHere f) hs
      → rising nat_cmp (map (key_of f) hs) ≡ map (key_of f) (rising point_cmp hs)
  keys_rising hs a =
      rising-map nat_cmp (key_of f) hs
      ∙ ap (map (key_of f))
      (rising_alike (LiesHere f) (λ g h. nat_cmp (key_of f g) (key_of f h)) point_cmp point_total
      (λ g h i j. sym (key_cmp f profile g h i j)) hs a)

  module _ (u : Segment) (ordered : point_cmp u.p u.q ≡ Less) where
    abbrev step_at : Point → ℕ
    step_at h = step_of u (key_of f h)

    -- u meets the pixel, which lies in the tile
    abbrev IsOnRow : Point → Type 0
    IsOnRow h = LiesHere f h × IsTrue (meets_pixel_of u h)

    on_row_alike : (g h : Point) → IsOnRow g → IsOnRow h → along_cmp u g h ≡ nat_cmp (step_at g) (step_at h)
    on_row_alike g h i j = along_by_step f profile u ordered g h i.0 j.0 i.1 j.1

    met_on_row : (hs : List Point) → AllByRecursion (LiesHere f) hs
        → AllByRecursion IsOnRow (filter (meets_pixel_of u) hs)
    met_on_row hs a =
        all_contained IsOnRow (filter (meets_pixel_of u) hs)
        (λ h c. let k = (contains_filter (meets_pixel_of u) hs h).0 c in (here_by_member hs h a k.0, k.1))
      where
        here_by_member : (hs : List Point) (h : Point) → AllByRecursion (LiesHere f) hs → Contains hs h → LiesHere f h
        here_by_member hs h a c = all_at (LiesHere f) hs h a c

    pub route_on_row : (hs : List Point) → AllByRecursion (LiesHere f) hs → AllByRecursion IsOnRow (route_among hs u)
    route_on_row hs a = folded [] (filter (meets_pixel_of u) hs) tt (met_on_row hs a)
      where
        folded : (done ks : List Point) → AllByRecursion IsOnRow done → AllByRecursion IsOnRow ks
            → AllByRecursion IsOnRow (fold (insert_key (along_cmp u)) done ks)
        folded done [] d k = d
        folded done (h ∷ ks) d k = folded (insert_key (along_cmp u) done h) ks (all_inserted (along_total u) IsOnRow h done k.0 d) k.1

    -- the pixels by key that u meets, as steps
    met_steps : (hs : List Point) → AllByRecursion (LiesHere f) hs
        → map (step_of u) (filter (meets_key f u) (map (key_of f) hs)) ≡ map step_at (filter (meets_pixel_of u) hs)
    met_steps hs a =
        ap (map (step_of u))
        (filter_images (key_of f) (meets_key f u) hs
        ∙ ap (map (key_of f))
        (same_kept (λ h. meets_key f u (key_of f h)) (meets_pixel_of u) hs (back hs a)))
        ∙ map_twice (key_of f) (step_of u) (filter (meets_pixel_of u) hs)
      where
        back : (hs : List Point) → AllByRecursion (LiesHere f) hs
            → AllByRecursion (λ h. meets_key f u (key_of f h) ≡ meets_pixel_of u h) hs
        back [] a = tt
        back (h ∷ hs) a = (ap (meets_pixel_of u) (pixel_back f profile h a.0), back hs a.1)

    -- with fresh pixels, the row grows by their keys
    pub row_grows : (hs fresh : List Point) → AllByRecursion (LiesHere f) hs → AllByRecursion (LiesHere f) fresh
        → map step_at (fold (insert_key (along_cmp u)) (route_among hs u) (filter (meets_pixel_of u) fresh))
        ≡ grown_row f u (map step_at (route_among hs u)) (map (key_of f) fresh)
    row_grows hs fresh a b =
        images_put step_at IsOnRow (along_total u) nat_cmp on_row_alike (route_among hs u) (filter (meets_pixel_of u) fresh)
        (route_on_row hs a) (met_on_row fresh b)
        ∙ ap (fold (insert_key nat_cmp) (map step_at (route_among hs u))) (sym (met_steps fresh b))

    -- the row in a tile with these hot pixels
    pub row_made : (hs : List Point) → AllByRecursion (LiesHere f) hs
        → map step_at (route_among hs u) ≡ grown_row f u [] (map (key_of f) hs)
    row_made hs a =
        images_put step_at IsOnRow (along_total u) nat_cmp on_row_alike [] (filter (meets_pixel_of u) hs) tt (met_on_row hs a)
        ∙ ap (fold (insert_key nat_cmp) []) (sym (met_steps hs a))

    pub row_rises : (hs : List Point) → AllByRecursion (LiesHere f) hs
        → IsStrictlySortedBy nat_cmp (map step_at (route_among hs u))
    row_rises hs a =
        sorted_images step_at IsOnRow (along_cmp u) nat_cmp on_row_alike (route_among hs u) (route_on_row hs a)
        (sorted_rising (along_total u) (filter (meets_pixel_of u) hs))

-- ---- the rows of a tile

module _ (t : TileContent) where
  abbrev hot_here : List Point
  hot_here = hot_in t.profile t.id t.segments

  pub all_here : AllByRecursion (LiesHere (frame_of t)) (hot_in t.profile t.id t.segments)
  all_here = all_kept (LiesHere (frame_of t)) (in_tile t.profile t.id) (λ h e. e) (hot t.segments)

  -- a row is the steps of the hot pixels of the tile that the segment meets
  pub path_is : (u : Segment)
      → path_in t u ≡ map (λ h. step_of u (key_of (frame_of t) h)) (route_among (hot_in t.profile t.id t.segments) u)
  path_is u = ap (map (λ h. step_of u (key_of (frame_of t) h))) (route_here t.profile t.id t.segments u)

  -- the rows of a tile's own segments
  pub rows_are_paths : near t.profile t.id t.segments ≡ t.segments → rows_in t ≡ map (path_in t) t.segments
  rows_are_paths all =
      map_twice (λ (u : Segment). routed u) (row_of (frame_of t)) (near t.profile t.id t.segments) ∙ ap (map (path_in t)) all
    where
      routed : Segment → RoutedSegment
      routed u = record { ur = u; points = filter (in_tile t.profile t.id) (route t.segments u) }

  module _ (profile : IsProfile t.profile) (u : Segment) (ordered : point_cmp u.p u.q ≡ Less) where
    -- steps rise
    pub path_rises : IsStrictlySortedBy nat_cmp (path_in t u)
    path_rises =
        subst (IsStrictlySortedBy nat_cmp) (sym (path_is u)) (row_rises (frame_of t) profile u ordered hot_here all_here)

    -- the row is made by the keys of the hot pixels
    pub path_made : path_in t u ≡ grown_row (frame_of t) u [] (keys (spots_in t))
    path_made =
        path_is u ∙ row_made (frame_of t) profile u ordered hot_here all_here
        ∙ ap (grown_row (frame_of t) u []) (sym (keys_of_spots t))

    -- a tile without hot pixels has empty rows
    pub path_none : spots_in t ≡ [] → path_in t u ≡ []
    path_none none = path_made ∙ ap (λ xs. grown_row (frame_of t) u [] (keys xs)) none

-- ---- with a segment more

module _ (t : TileContent) (s : Segment) (profile : IsProfile t.profile) (order : IsStrictlySortedBy label_cmp (names t.segments))
    (new : AllByRecursion (λ u. label_eq u.name s.name ≡ false) t.segments) where
  abbrev f : TileFrame
  f = frame_of t

  abbrev old : List Point
  old = hot_in t.profile t.id t.segments

  abbrev own : List Point
  own = own_ends t.profile t.id s ++ own_crossings t.profile t.id t.segments s

  own_here : (h : Point) → Contains own h → LiesHere f h
  own_here h c =
      elim (Contains-append_cases (own_ends t.profile t.id s) (own_crossings t.profile t.id t.segments s) h c) [
        | inl e ↦ ((contains_filter (in_tile t.profile t.id) (s.p ∷ s.q ∷ []) h).0 e).1
        | inr e ↦ ((contains_filter (in_tile t.profile t.id) (filter_map (crossing_pixel s) t.segments) h).0 e).1
      ]

  -- the pixel's key isn't among the old ones
  abbrev is_fresh : Point → Bool
  is_fresh h = not (has_key (keys (spots_in t)) (key_of f h))

  abbrev fresh : List Point
  fresh = filter is_fresh (rising point_cmp own)

  in_own : (h : Point) → Contains fresh h → Contains own h
  in_own h c = (contains_rising point_total point_exact own h).0 ((contains_filter is_fresh (rising point_cmp own) h).0 c).0

  fresh_here : AllByRecursion (LiesHere f) fresh
  fresh_here = all_contained (LiesHere f) fresh (λ h c. own_here h (in_own h c))

  -- their keys are the fresh keys
  keys_of_fresh : fresh_keys (spots_in t) (own_spots f t.segments s) ≡ map (key_of f) fresh
  keys_of_fresh =
      ap (filter (λ k. not (has_key (keys (spots_in t)) k)))
      (keys_of_own f t.segments s ∙ keys_rising f profile own (all_contained (LiesHere f) own own_here))
      ∙ filter_images (key_of f) (λ k. not (has_key (keys (spots_in t)) k)) (rising point_cmp own)

  abbrev all : List Point
  all = hot_in t.profile t.id (with_segment t.segments s)

  -- the hot pixels are the old ones and the fresh ones
  hot_or_fresh : (h : Point) → Contains all h ↔ (Contains old h ⊎ Contains fresh h)
  hot_or_fresh h = (
    λ c. either ((contains_rising point_total point_exact (old ++ own) h).0
        (subst (λ hs. Contains hs h) (hot_with t.profile t.id t.segments s order new) c)),
    λ c. subst (λ hs. Contains hs h) (sym (hot_with t.profile t.id t.segments s order new))
        ((contains_rising point_total point_exact (old ++ own) h).1 (joined c)),
  )
    where
      joined : Contains old h ⊎ Contains fresh h → Contains (old ++ own) h
      joined (inl c) = Contains-append_left old own h c
      joined (inr c) = Contains-append_right old own h (in_own h c)

      found : LiesHere f h → (b : Bool) → has_key (keys (spots_in t)) (key_of f h) ≡ b → Contains own h
          → Contains old h ⊎ Contains fresh h
      found i true e c =
          inl ((any_iff point_total point_exact h old).0
          (sym (key_found f profile old h (all_here t) i)
          ∙ ap (λ ks. has_key ks (key_of f h)) (sym (keys_of_spots t)) ∙ e))
      found i false e c =
          inr ((contains_filter is_fresh (rising point_cmp own) h).1
          ((contains_rising point_total point_exact own h).1 c, ap not e))

      either : Contains (old ++ own) h → Contains old h ⊎ Contains fresh h
      either c =
          elim (Contains-append_cases old own h c) [
            | inl first ↦ inl first
            | inr second ↦ found (own_here h second) (has_key (keys (spots_in t)) (key_of f h)) refl second
          ]

  -- each row grows by the fresh pixels that its segment meets
  pub path_grows : (u : Segment) → point_cmp u.p u.q ≡ Less
      → path_in (record t { segments = with_segment t.segments s }) u
      ≡ grown_row (frame_of t) u (path_in t u) (fresh_keys (spots_in t) (own_spots (frame_of t) t.segments s))
  path_grows u ordered =
      path_is (record t { segments = with_segment t.segments s }) u
      ∙ ap (map (λ h. step_of u (key_of f h))) (route_with old fresh all u hot_or_fresh)
      ∙ row_grows f profile u ordered old fresh (all_here t) fresh_here
      ∙ (λ i. grown_row f u (sym (path_is t u) i) (sym keys_of_fresh i))
