-- The tiles that were found for a segment may take it in, or give it up: each has what the live list
-- has there.
use Rattle.std.proofs.Common.{◌≡◌, refl, sym, ap, subst, ◌∙◌, ◌<◌, ◌≤◌, ◌^◌, arith, List, [], ◌∷◌, map, length, Contains, IsTrue, Option, IsPermutation}
use Rattle.std.specs.Prelude.{All, option_copied}
use Rattle.std.specs.Borrow.{Bor}
use Rattle.std.specs.List.{AllByRecursion}
use Rattle.std.proofs.lemmas.List.{length-map}
use Rattle.std.proofs.lemmas.List.Elements.{All-from_recursion}
use Rattle.std.proofs.lemmas.List.Sorted.{length_permutation}
use Rattle.grid_core.specs.declared.tile.TileId.{TileId}
use Rattle.grid_core.specs.Profile.{Sizes, IsProfile}
use Rattle.grid_core.specs.Segment.{Segment, IsSegment}
use Rattle.grid_core.specs.LiveList.{names}
use Rattle.grid_core.specs.Tiles.{near, tiles, along, along_tile_cmp, meets_tile}
use Rattle.grid_core.proofs.Filters.{filter_length}
use Rattle.grid_core.proofs.ListMembers.{contains_first, contains_later, contains_filter}
use Rattle.tile_law.specs.Laws.{IsTileInReach}
use Rattle.tile_law.proofs.MetTiles.{tiles_are_met}
use Rattle.tile_law.proofs.Reach.{met_tiles_are_in_reach}
use Rattle.hot_tile.specs.Tile.{TileContent}
use Rattle.version_core.specs.Stands.{content_of, tile_with}
use Rattle.version_core.proofs.Bounds.{tiles_length, rising_length}
use Rattle.version_core.proofs.Found.{name_listed}
use Rattle.version_core.proofs.Rebased.{names_kept}
use Rattle.seg_edit.specs.Contents.{segments_in, found_contents, IsContentOf, MayGrow, MayShrink}
use Rattle.seg_edit.proofs.Preparing.{met_here, segments_near}

-- what holds of each member holds of all
all_of : {X : Type 0} (P : X → Type 0) (xs : List X) → ((x : X) → Contains xs x → P x) → AllByRecursion P xs
all_of P [] h = tt
all_of P (x ∷ xs) h = (h x (contains_first x xs), all_of P xs (λ y c. h y (contains_later x xs y c)))

-- tiles along a segment are in reach
pub along_in_reach : (pr : Sizes) → IsProfile pr → (s : Segment) → IsSegment pr.bound s → AllByRecursion IsTileInReach (along pr s)
along_in_reach pr profile s fits =
    all_of IsTileInReach (along pr s)
    (λ t c. met_tiles_are_in_reach pr profile s fits t (((tiles_are_met pr profile.some_side s fits.ordered).met_along t).0 c))

-- they aren't many
pub along_few : (pr : Sizes) → IsProfile pr → (s : Segment) → IsSegment pr.bound s → length (along pr s) ≤ 2 ^ 32
along_few pr profile s fits =
    omega (arith, rising_length (along_tile_cmp s) (tiles pr s), tiles_length pr profile s fits)

-- a content is one of its tile
content_is_of : (pr : Sizes) (t : TileId) (ss : List Segment) → IsContentOf pr t (content_of pr t ss)
content_is_of pr t ss = by (near pr t ss)
  where
    by : (us : List Segment) → IsContentOf pr t (tile_with pr t us)
    by [] = tt
    by (u ∷ us) = (refl, refl)

-- contents and tiles of what was found
pub found_tiles : (found : List (TileId × Option (Bor TileContent))) → map (λ c. c.0) (found_contents found) ≡ map (λ e. e.0) found
found_tiles [] = refl
found_tiles (e ∷ es) = ap (λ ts. e.0 ∷ ts) (found_tiles es)

pub found_turned : (pr : Sizes) (s : Segment) (found : List (TileId × Option (Bor TileContent)))
    → IsPermutation (along pr s) (map (λ e. e.0) found) → IsPermutation (along pr s) (map (λ c. c.0) (found_contents found))
found_turned pr s found h = subst (IsPermutation (along pr s)) (sym (found_tiles found)) h

pub found_as_contents : (pr : Sizes) (ss : List Segment) (found : List (TileId × Option (Bor TileContent)))
    → AllByRecursion (λ e. option_copied e.1 ≡ content_of pr e.0 ss) found
    → AllByRecursion (λ c. c.1 ≡ content_of pr c.0 ss) (found_contents found)
found_as_contents pr ss [] h = tt
found_as_contents pr ss (e ∷ es) h = (h.0, found_as_contents pr ss es h.1)

module _ (pr : Sizes) (profile : IsProfile pr) (ss : List Segment) (few : length ss < 65536) (s : Segment)
    (fits : IsSegment pr.bound s) (found : List (TileId × Option (Bor TileContent)))
    (each : AllByRecursion (λ e. option_copied e.1 ≡ content_of pr e.0 ss) found)
    (turned : IsPermutation (along pr s) (map (λ e. e.0) found)) where
  pub found_few : length found ≤ 2 ^ 32
  found_few =
      omega (arith, length_permutation (along pr s) (map (λ e. e.0) found) turned, length-map found (λ (e : TileId × Option (Bor TileContent)). e.0), along_few pr profile s fits)

  met : (t : TileId) → Contains (map (λ e. e.0) found) t → IsTrue (meets_tile pr t s)
  met t c = (met_here pr profile.some_side s fits.ordered (map (λ e. e.0) found) turned t).0 c

  may_grow : (¬ Contains (names ss) s.name) → (es : List (TileId × Option (Bor TileContent)))
      → AllByRecursion (λ e. option_copied e.1 ≡ content_of pr e.0 ss) es
      → ((t : TileId) → Contains (map (λ e. e.0) es) t → IsTrue (meets_tile pr t s))
      → AllByRecursion (λ e. MayGrow pr s (e.0, option_copied e.1)) es
  may_grow new [] own meets = tt
  may_grow new (e ∷ es) own meets =
      let m = meets e.0 (contains_first e.0 (map (λ d. d.0) es)) in
      let at : segments_in (option_copied e.1) ≡ near pr e.0 ss = ap segments_in own.0 ∙ segments_near pr e.0 ss in (
        record {
          met = m;
          reach = met_tiles_are_in_reach pr profile s fits e.0 m;
          own = subst (IsContentOf pr e.0) (sym own.0) (content_is_of pr e.0 ss);
          new = λ c. new (names_kept (meets_tile pr e.0) ss s.name (subst (λ us. Contains (names us) s.name) at c));
          few = subst (λ us. length us < 65536) (sym at) (omega (arith, filter_length (meets_tile pr e.0) ss, few));
        },
        may_grow new es own.1 (λ t c. meets t (contains_later e.0 (map (λ d. d.0) es) t c)),
      )

  pub all_may_grow : (¬ Contains (names ss) s.name) → All (λ e. MayGrow pr s (e.0, option_copied e.1)) found
  all_may_grow new = All-from_recursion _ found (may_grow new found each met)

  may_shrink : Contains ss s → (es : List (TileId × Option (Bor TileContent)))
      → AllByRecursion (λ e. option_copied e.1 ≡ content_of pr e.0 ss) es
      → ((t : TileId) → Contains (map (λ e. e.0) es) t → IsTrue (meets_tile pr t s))
      → AllByRecursion (λ e. MayShrink pr s.name (e.0, option_copied e.1)) es
  may_shrink here [] own meets = tt
  may_shrink here (e ∷ es) own meets =
      let m = meets e.0 (contains_first e.0 (map (λ d. d.0) es)) in
      let at : segments_in (option_copied e.1) ≡ near pr e.0 ss = ap segments_in own.0 ∙ segments_near pr e.0 ss in
      let there : Contains (near pr e.0 ss) s = (contains_filter (meets_tile pr e.0) ss s).1 (here, m) in (
        record {
          reach = met_tiles_are_in_reach pr profile s fits e.0 m;
          own = subst (IsContentOf pr e.0) (sym own.0) (content_is_of pr e.0 ss);
          here = subst (λ us. Contains (names us) s.name) (sym at) (name_listed (near pr e.0 ss) s there);
        },
        may_shrink here es own.1 (λ t c. meets t (contains_later e.0 (map (λ d. d.0) es) t c)),
      )

  pub all_may_shrink : Contains ss s → All (λ e. MayShrink pr s.name (e.0, option_copied e.1)) found
  all_may_shrink here = All-from_recursion _ found (may_shrink here found each met)
