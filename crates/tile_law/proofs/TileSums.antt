-- Passes by tiles: over tiles that have all pixels of the routes, each tile once, the passes of the
-- parts add up to the lengths of the routes. Each pixel of a route is counted in its own tile and
-- in no other, so both sums are taken over segments first, and then over the pixels of a route.

use Rattle.std.proofs.Common.{◌≡◌, refl, ap, sym, subst, ◌∙◌, IsTrue, Bool, true, false, cond, not, true≢false, arith}
use Rattle.std.proofs.Common.{List, [], ◌∷◌, ◌++◌, length, map, filter, flat_map, count_by, Contains, inl, inr}
use Rattle.std.specs.Prelude.{ℕ, ◌+◌, ◌<◌, ◌⊎◌, sum_by}
use Rattle.std.specs.List.{AllByRecursion, IsDistinct, list_any}
use Rattle.std.proofs.lemmas.Bool.{false_from_ne_true, or_parts}
use Rattle.std.proofs.lemmas.List.Elements.{Contains-append_left, Contains-append_right}
use Rattle.std.proofs.lemmas.List.Kept.{IsStrictlySortedBy-filter}
use Rattle.std.proofs.lemmas.List.Sums.{sum_by-cons, sum_by-append, length-filter}
use Rattle.std.proofs.lemmas.Map.Keys.{IsDistinct-from_sorted}
use Rattle.grid_core.specs.declared.point.Point.{Point}
use Rattle.grid_core.specs.declared.tile.TileId.{TileId}
use Rattle.grid_core.specs.Profile.{Sizes}
use Rattle.grid_core.specs.Segment.{Segment}
use Rattle.grid_core.specs.Meets.{meets_pixel_of}
use Rattle.grid_core.specs.RisingSet.{rising}
use Rattle.grid_core.specs.Rounding.{RoutedSegment, route}
use Rattle.grid_core.specs.Tiles.{tile_cmp, tile_eq, tile_of, in_tile, meets_tile, near, part_of, passes_in}
use Rattle.grid_core.proofs.Filters.{counted, all_kept}
use Rattle.grid_core.proofs.ListMembers.{contains_first, contains_later, contains_cases, contains_filter, contains_map, contains_flat_map}
use Rattle.grid_core.proofs.RisingMembers.{sorted_rising, contains_rising, any_iff}
use Rattle.grid_core.proofs.TileOrder.{tile_total, tile_exact, tile_decides}
use Rattle.tile_law.specs.Parts.{passes_of}
use Rattle.tile_law.specs.Laws.{CoversTiles, passes_in_tiles, PassesAddUp}
use Rattle.grid_core.proofs.RouteEnds.{all_at}
use Rattle.tile_law.proofs.Locality.{routed_here, part_by_near}
use Rattle.tile_law.proofs.RouteTiles.{route_met, route_far}
use Rattle.tile_law.proofs.TileBoxes.{meets_tile_of}

not_true : (b : Bool) → not b ≡ true → b ≡ false
not_true true k = absurd (true≢false (sym k))
not_true false k = refl

-- ---- sums

module _ {X : Type 0} where
  -- what holds of each element
  pub all_contained : (P : X → Type 0) (xs : List X) → ((x : X) → Contains xs x → P x) → AllByRecursion P xs
  all_contained P [] h = tt
  all_contained P (x ∷ xs) h = (
    h x (contains_first x xs),
    all_contained P xs (λ y c. h y (contains_later x xs y c)),
  )

  -- equal terms, equal sums
  pub sum_same : (f g : X → ℕ) (xs : List X) → AllByRecursion (λ x. f x ≡ g x) xs → sum_by f xs ≡ sum_by g xs
  sum_same f g [] h = refl
  sum_same f g (x ∷ xs) h =
      sum_by-cons f x xs ∙ (λ i. h.0 i + sum_same f g xs h.1 i) ∙ sym (sum_by-cons g x xs)

  sum_zero : (xs : List X) → sum_by (λ x. 0) xs ≡ 0
  sum_zero [] = refl
  sum_zero (x ∷ xs) = let rest = sum_zero xs in omega (arith, sum_by-cons (λ x. 0) x xs, rest)

  sum_ones : (f : X → ℕ) (xs : List X) → AllByRecursion (λ x. f x ≡ 1) xs → sum_by f xs ≡ length xs
  sum_ones f [] h = refl
  sum_ones f (x ∷ xs) h =
      let rest = sum_ones f xs h.1 in
      omega (arith, sum_by-cons f x xs, h.0, rest)

  sum_of_sums : (f g : X → ℕ) (xs : List X) → sum_by (λ x. f x + g x) xs ≡ sum_by f xs + sum_by g xs
  sum_of_sums f g [] = refl
  sum_of_sums f g (x ∷ xs) =
      let rest = sum_of_sums f g xs in
      omega (arith, sum_by-cons (λ x. f x + g x) x xs, sum_by-cons f x xs, sum_by-cons g x xs, rest)

  -- terms that are 0 may be left out
  sum_of_kept : (f : X → ℕ) (p : X → Bool) → ((x : X) → p x ≡ false → f x ≡ 0) → (xs : List X)
      → sum_by f (filter p xs) ≡ sum_by f xs
  sum_of_kept f p h [] = refl
  sum_of_kept f p h (x ∷ xs) = by (p x) refl (sum_of_kept f p h xs)
    where
      by : (b : Bool) → p x ≡ b → sum_by f (filter p xs) ≡ sum_by f xs
          → sum_by f (cond b (x ∷ filter p xs) (filter p xs)) ≡ sum_by f (x ∷ xs)
      by true e rest = sum_by-cons f x (filter p xs) ∙ ap (λ n. f x + n) rest ∙ sym (sum_by-cons f x xs)
      by false e rest = omega (arith, sum_by-cons f x xs, h x e, rest)

sum_of_images : {X Y : Type 0} (f : Y → ℕ) (g : X → Y) (xs : List X) → sum_by f (map g xs) ≡ sum_by (λ x. f (g x)) xs
sum_of_images f g [] = refl
sum_of_images f g (x ∷ xs) =
    sum_by-cons f (g x) (map g xs) ∙ ap (λ n. f (g x) + n) (sum_of_images f g xs) ∙ sym (sum_by-cons (λ x. f (g x)) x xs)

-- a sum over pairs in either order
pub sum_swapped : {X Y : Type 0} (f : X → Y → ℕ) (xs : List X) (ys : List Y)
    → sum_by (λ x. sum_by (f x) ys) xs ≡ sum_by (λ y. sum_by (λ x. f x y) xs) ys
sum_swapped f [] ys = sym (sum_zero ys)
sum_swapped f (x ∷ xs) ys =
    sum_by-cons (λ x. sum_by (f x) ys) x xs
    ∙ ap (λ n. sum_by (f x) ys + n) (sum_swapped f xs ys)
    ∙ sym (sum_of_sums (f x) (λ y. sum_by (λ x. f x y) xs) ys)
    ∙ sym (λ i. sum_by (λ y. sum_by-cons (λ x. f x y) x xs i) ys)

-- ---- each pixel in one tile

-- of tiles that stand there once, one is t where t is there
one_tile : (t : TileId) (ts : List TileId) → IsDistinct tile_eq ts → Contains ts t → count_by (tile_eq t) ts ≡ 1
unfolding IsDistinct
one_tile t [] d c = absurd (omega (arith, c.1))
one_tile t (u ∷ us) d c = by (contains_cases u us t c) (one_tile t us d.1)
  where
    none : (vs : List TileId) → AllByRecursion (λ v. tile_eq t v ≡ false) vs → count_by (tile_eq t) vs ≡ 0
    none [] h = refl
    none (v ∷ vs) h =
        let rest = none vs h.1 in
        let here = ap counted h.0 in
        omega (arith, sum_by-cons (λ w. counted (tile_eq t w)) v vs, here, rest)

    apart : tile_eq u t ≡ false → tile_eq t u ≡ false
    apart e =
        false_from_ne_true (tile_eq t u) (λ h. true≢false (sym ((tile_decides u t).1 (sym ((tile_decides t u).0 h))) ∙ e))

    by : (u ≡ t) ⊎ Contains us t → (Contains us t → count_by (tile_eq t) us ≡ 1) → count_by (tile_eq t) (u ∷ us) ≡ 1
    by (inl e) more =
        let here = ap counted ((tile_decides t u).1 (sym e)) in
        let rest = none us (subst (λ w. AllByRecursion (λ v. tile_eq w v ≡ false) us) e d.0) in
        omega (arith, sum_by-cons (λ w. counted (tile_eq t w)) u us, here, rest)
    by (inr k) more =
        let rest = more k in
        let here = ap counted (apart (all_at (λ v. tile_eq u v ≡ false) us t d.0 k)) in
        omega (arith, sum_by-cons (λ w. counted (tile_eq t w)) u us, here, rest)

-- pixels whose tiles all stand in ts, each tile once, are as many as there are in these tiles together
pixels_in_tiles : (pr : Sizes) (ts : List TileId) → IsDistinct tile_eq ts → (hs : List Point)
    → AllByRecursion (λ h. Contains ts (tile_of pr h)) hs
    → sum_by (λ t. length (filter (in_tile pr t) hs)) ts ≡ length hs
pixels_in_tiles pr ts once hs all =
    (λ i. sum_by (λ t. length-filter (in_tile pr t) hs i) ts)
    ∙ sum_swapped (λ t h. counted (in_tile pr t h)) ts hs
    ∙ sum_ones (λ h. sum_by (λ t. counted (in_tile pr t h)) ts) hs (each hs all)
  where
    each : (hs : List Point) → AllByRecursion (λ h. Contains ts (tile_of pr h)) hs
        → AllByRecursion (λ h. sum_by (λ t. counted (in_tile pr t h)) ts ≡ 1) hs
    each [] k = tt
    each (h ∷ hs) k = (one_tile (tile_of pr h) ts once k.0, each hs k.1)

-- ---- passes

module _ (pr : Sizes) (some : 0 < pr.side) where
  -- the passes of a part are those of all segments, in that tile
  passes_here : (t : TileId) (ss : List Segment)
      → passes_in (part_of pr t ss) ≡ sum_by (λ s. length (filter (in_tile pr t) (route ss s))) ss
  passes_here t ss =
      sum_of_images (λ (r : RoutedSegment). length r.points) (routed_here pr some t ss) (near pr t ss)
      ∙ sum_of_kept (λ s. length (filter (in_tile pr t) (route ss s))) (meets_tile pr t)
      (λ s e. ap length (route_far pr some t ss s e)) ss

  -- the tile of each pixel of a route is one of ts
  HasRoutes : List TileId → List Segment → Type 0
  HasRoutes ts ss = (s : Segment) → Contains ss s → AllByRecursion (λ h. Contains ts (tile_of pr h)) (route ss s)

  passes_of_tiles : (ts : List TileId) → IsDistinct tile_eq ts → (ss : List Segment) → HasRoutes ts ss
      → passes_in_tiles pr ts ss ≡ passes_of ss
  unfolding HasRoutes
  passes_of_tiles ts once ss has =
      (λ i. sum_by (λ t. passes_here t ss i) ts)
      ∙ sum_swapped (λ t s. length (filter (in_tile pr t) (route ss s))) ts ss
      ∙ sum_same (λ s. sum_by (λ t. length (filter (in_tile pr t) (route ss s))) ts) (λ s. length (route ss s)) ss
      (all_contained (λ s. sum_by (λ t. length (filter (in_tile pr t) (route ss s))) ts ≡ length (route ss s)) ss
      (λ s c. pixels_in_tiles pr ts once (route ss s) (has s c)))

  -- the passes of a rounding are those of its parts, in tiles that have all that the segments meet
  passes_of_parts : (ss : List Segment) (ts : List TileId) → CoversTiles pr ss ts
      → passes_in_tiles pr ts ss ≡ passes_of ss
  unfolding HasRoutes
  passes_of_parts ss ts covers =
      passes_of_tiles ts covers.once ss (λ s c. in_tiles s c (route ss s) (route_met ss s))
    where
      in_tiles : (s : Segment) → Contains ss s → (hs : List Point) → AllByRecursion (λ h. IsTrue (meets_pixel_of s h)) hs
          → AllByRecursion (λ h. Contains ts (tile_of pr h)) hs
      in_tiles s c [] k = tt
      in_tiles s c (h ∷ hs) k = (covers.all s c (tile_of pr h) (meets_tile_of pr some s h k.0), in_tiles s c hs k.1)

  -- ---- a change

  -- the tiles in which a rounding has a pass
  routed_tiles : List Segment → List TileId
  routed_tiles ss = flat_map (λ s. map (tile_of pr) (route ss s)) ss

  has_routes : (ss : List Segment) (s : Segment) → Contains ss s
      → AllByRecursion (λ h. Contains (routed_tiles ss) (tile_of pr h)) (route ss s)
  unfolding routed_tiles
  has_routes ss s c =
      all_contained (λ h. Contains (routed_tiles ss) (tile_of pr h)) (route ss s)
      (λ h k. (contains_flat_map (λ s. map (tile_of pr) (route ss s)) (tile_of pr h) ss).1
      (c.0, s, c.1, c.2, (contains_map (tile_of pr) (route ss s) (tile_of pr h)).1 (k.0, h, k.1, k.2, refl)))

  module _ (ts : List TileId) where
    left_out : TileId → Bool
    left_out t = not (list_any (tile_eq t) ts)

    -- some tiles and then those of ts: each once, and with all of the tiles that were asked for
    with_others : List TileId → List TileId
    with_others us = filter left_out (rising tile_cmp us) ++ ts

    others_distinct : (us : List TileId) → IsDistinct tile_eq us → AllByRecursion (λ u. left_out u ≡ true) us
        → IsDistinct tile_eq ts → IsDistinct tile_eq (us ++ ts)
    unfolding IsDistinct left_out
    others_distinct [] d h e = e
    others_distinct (u ∷ us) d h e = (
      apart_joined us d.0,
      others_distinct us d.1 h.1 e,
    )
      where
        none : (vs : List TileId) → list_any (tile_eq u) vs ≡ false → AllByRecursion (λ v. tile_eq u v ≡ false) vs
        none [] k = tt
        none (v ∷ vs) k = let parts = or_parts (tile_eq u v) (list_any (tile_eq u) vs) k in (parts.0, none vs parts.1)

        apart_joined : (vs : List TileId) → AllByRecursion (λ v. tile_eq u v ≡ false) vs
            → AllByRecursion (λ v. tile_eq u v ≡ false) (vs ++ ts)
        apart_joined [] k = none ts (not_true (list_any (tile_eq u) ts) h.0)
        apart_joined (v ∷ vs) k = (k.0, apart_joined vs k.1)

    distinct_with_others : (us : List TileId) → IsDistinct tile_eq ts → IsDistinct tile_eq (with_others us)
    unfolding with_others left_out
    distinct_with_others us once =
        others_distinct (filter left_out (rising tile_cmp us))
        (IsDistinct-from_sorted tile_cmp (filter left_out (rising tile_cmp us))
        (IsStrictlySortedBy-filter tile_cmp left_out (rising tile_cmp us) (sorted_rising tile_total us)))
        (all_kept (λ u. left_out u ≡ true) left_out (λ u e. e) (rising tile_cmp us)) once

    contains_with_others : (us : List TileId) (t : TileId) → Contains us t → Contains (with_others us) t
    unfolding with_others left_out
    contains_with_others us t c = by (list_any (tile_eq t) ts) refl
      where
        by : (b : Bool) → list_any (tile_eq t) ts ≡ b → Contains (filter left_out (rising tile_cmp us) ++ ts) t
        by true e =
            Contains-append_right (filter left_out (rising tile_cmp us)) ts t ((any_iff tile_total tile_exact t ts).0 e)
        by false e =
            Contains-append_left (filter left_out (rising tile_cmp us)) ts t
            ((contains_filter left_out (rising tile_cmp us) t).1
            ((contains_rising tile_total tile_exact us t).1 c, ap not e))

    -- where two live lists have the same segments in each tile outside of ts, their passes differ by
    -- what those of the parts in ts differ
    passes_gained : (ss us : List Segment) → IsDistinct tile_eq ts
        → ((t : TileId) → list_any (tile_eq t) ts ≡ false → near pr t ss ≡ near pr t us)
        → passes_in_tiles pr ts us + passes_of ss ≡ passes_in_tiles pr ts ss + passes_of us
    unfolding with_others left_out HasRoutes
    passes_gained ss us once same =
        let old = passes_of_tiles (with_others both) (distinct_with_others both once) ss
        (λ s c. widened (routed_tiles ss) (route ss s) (λ t k. Contains-append_left (routed_tiles ss) (routed_tiles us) t k) (has_routes ss s c)) in
        let new = passes_of_tiles (with_others both) (distinct_with_others both once) us
        (λ s c. widened (routed_tiles us) (route us s) (λ t k. Contains-append_right (routed_tiles ss) (routed_tiles us) t k) (has_routes us s c)) in
        let old_parts = sum_by-append (λ t. passes_in (part_of pr t ss)) (filter left_out (rising tile_cmp both)) ts in
        let new_parts = sum_by-append (λ t. passes_in (part_of pr t us)) (filter left_out (rising tile_cmp both)) ts in
        let outside = sum_same (λ t. passes_in (part_of pr t ss)) (λ t. passes_in (part_of pr t us))
        (filter left_out (rising tile_cmp both))
        (all_kept (λ t. passes_in (part_of pr t ss) ≡ passes_in (part_of pr t us)) left_out
        (λ t e. ap passes_in (part_by_near pr some t ss us (same t (not_true (list_any (tile_eq t) ts) e))))
        (rising tile_cmp both)) in
        omega (arith, old, new, old_parts, new_parts, outside)
      where
        both : List TileId
        both = routed_tiles ss ++ routed_tiles us

        widened : (vs : List TileId) (hs : List Point) → ((t : TileId) → Contains vs t → Contains both t)
            → AllByRecursion (λ h. Contains vs (tile_of pr h)) hs
            → AllByRecursion (λ h. Contains (with_others both) (tile_of pr h)) hs
        widened vs [] f k = tt
        widened vs (h ∷ hs) f k = (contains_with_others both (tile_of pr h) (f (tile_of pr h) k.0), widened vs hs f k.1)

pub passes_add_up : (pr : Sizes) → 0 < pr.side → (ss : List Segment) → PassesAddUp pr ss
passes_add_up pr some ss =
    record {
      whole = passes_of_parts pr some ss;
      change = λ us ts once same. passes_gained pr some ts ss us once same;
    }
