-- Why a change of one edit stands on the live list that it was prepared on: its tiles are those that
-- its segment meets, and in each of them the segments that are near after the edit are those that
-- were near before, with the segment or without it.
use Rattle.std.proofs.Common.{◌≡◌, refl, sym, ap, subst, ◌∙◌, ◌<◌, List, [], ◌∷◌, ◌++◌, map, Contains, IsTrue, Option, ◌↔◌, Bool, true, false, Less, is_eq}
use Rattle.std.specs.List.{AllByRecursion, IsDistinct}
use Rattle.std.specs.List.Sorted.{IsPermutation}
use Rattle.std.specs.Ordering.{eq_by_cmp}
use Rattle.std.proofs.lemmas.List.{append-nil}
use Rattle.std.proofs.lemmas.List.Sorted.{Contains-permutation, IsPermutation-sym}
use Rattle.std.proofs.lemmas.Cmp.{eq_by_cmp_equiv, tied_itself}
use Rattle.std.proofs.lemmas.Map.Views.{tells_apart}
use Rattle.std.proofs.lemmas.Map.Keys.{IsDistinct-IsPermutation, IsDistinct-from_sorted}
use Rattle.grid_core.specs.declared.tile.TileId.{TileId}
use Rattle.grid_core.specs.Name.{Label}
use Rattle.grid_core.specs.Profile.{Sizes}
use Rattle.grid_core.specs.Vector.{point_cmp}
use Rattle.grid_core.specs.Segment.{Segment}
use Rattle.grid_core.specs.LiveList.{with_segment, without_name}
use Rattle.grid_core.specs.Tiles.{near, tiles, along, meets_tile, tile_eq, along_tile_cmp}
use Rattle.grid_core.proofs.ListMembers.{contains_first, contains_later}
use Rattle.grid_core.proofs.RisingMembers.{contains_rising}
use Rattle.grid_core.proofs.TileOrder.{tile_total, tile_exact, along_tile_total, along_tile_exact, tile_decides}
use Rattle.tile_law.proofs.Edits.{near_with_met, near_without}
use Rattle.tile_law.proofs.MetTiles.{tiles_are_met}
use Rattle.hot_tile.specs.Tile.{TileContent}
use Rattle.version_core.specs.declared.change.Edit.{Edit}
use Rattle.version_core.specs.Edits.{edited_segment, tiles_of_edits}
use Rattle.version_core.specs.Stands.{content_of, tile_with}
use Rattle.version_core.proofs.Rebased.{Cover}
use Rattle.seg_edit.specs.Contents.{segments_in, grown, thinned}

-- what a tile has, as the segments near it
pub segments_near : (pr : Sizes) (t : TileId) (ss : List Segment) → segments_in (content_of pr t ss) ≡ near pr t ss
segments_near pr t ss = by (near pr t ss)
  where
    by : (us : List Segment) → segments_in (tile_with pr t us) ≡ us
    by [] = refl
    by (u ∷ us) = refl

-- two tests that decide that tiles are equal
same_tests : (b c : Bool) → (b ≡ true → c ≡ true) → (c ≡ true → b ≡ true) → b ≡ c
same_tests true c f g = sym (f refl)
same_tests false true f g = g refl
same_tests false false f g = refl

module _ (pr : Sizes) (some : 0 < pr.side) (s : Segment) (ordered : point_cmp s.p s.q ≡ Less) where
  -- ---- the tiles

  pub met_by_edit : (e : Edit) → edited_segment e ≡ s → (t : TileId)
      → Contains (tiles_of_edits pr (e ∷ [])) t ↔ IsTrue (meets_tile pr t s)
  met_by_edit e is t =
      let own = append-nil (tiles pr (edited_segment e)) in
      let met = tiles_are_met pr some (edited_segment e) (subst (λ u. point_cmp u.p u.q ≡ Less) (sym is) ordered) in
      let members = contains_rising tile_total tile_exact (tiles pr (edited_segment e) ++ []) t in
      subst (λ u. Contains (tiles_of_edits pr (e ∷ [])) t ↔ IsTrue (meets_tile pr t u)) is (
        λ c. (met.met t).0 (subst (λ ts. Contains ts t) own (members.0 c)),
        λ m. members.1 (subst (λ ts. Contains ts t) (sym own) ((met.met t).1 m)),
      )

  pub along_once : IsDistinct tile_eq (along pr s)
  along_once =
      subst (λ e. IsDistinct e (along pr s)) (λ i a b. alike a b i)
      (IsDistinct-from_sorted (along_tile_cmp s) (along pr s) (tiles_are_met pr some s ordered).in_order_along)
    where
      alike : (a b : TileId) → eq_by_cmp (along_tile_cmp s) a b ≡ tile_eq a b
      alike a b =
          same_tests (eq_by_cmp (along_tile_cmp s) a b) (tile_eq a b)
          (λ e. (tile_decides a b).1 (tells_apart (along_tile_exact s) a b e))
          (λ e. ap is_eq (ap (along_tile_cmp s a) (sym ((tile_decides a b).0 e)) ∙ tied_itself (along_tile_total s) a))

  -- tiles in any order, which are those along the segment
  module _ (ts : List TileId) (turned : IsPermutation (along pr s) ts) where
    pub met_here : (t : TileId) → Contains ts t ↔ IsTrue (meets_tile pr t s)
    met_here t =
        let met = (tiles_are_met pr some s ordered).met_along t in (
          λ c. met.0 (Contains-permutation ts (along pr s) t (IsPermutation-sym (along pr s) ts turned) c),
          λ m. Contains-permutation (along pr s) ts t turned (met.1 m),
        )

    pub once_here : IsDistinct tile_eq ts
    once_here = IsDistinct-IsPermutation tile_eq (eq_by_cmp_equiv tile_total).symm (along pr s) ts turned along_once

    pub covered_here : (e : Edit) → edited_segment e ≡ s → Cover pr ts (e ∷ [])
    covered_here e is = (λ t m. (met_here t).1 (subst (λ u. IsTrue (meets_tile pr t u)) is m), tt)

-- ---- the contents

-- tiles and contents as they were before and after
pub grown_tiles : (pr : Sizes) (s : Segment) (cs : List (TileId × Option TileContent))
    → map (λ c. c.0) (map (grown pr s) cs) ≡ map (λ c. c.0) cs
grown_tiles pr s [] = refl
grown_tiles pr s (c ∷ cs) = ap (λ ts. c.0 ∷ ts) (grown_tiles pr s cs)

pub thinned_tiles : (pr : Sizes) (name : Label) (cs : List (TileId × Option TileContent))
    → map (λ c. c.0) (map (thinned pr name) cs) ≡ map (λ c. c.0) cs
thinned_tiles pr name [] = refl
thinned_tiles pr name (c ∷ cs) = ap (λ ts. c.0 ∷ ts) (thinned_tiles pr name cs)

pub grown_contents : (pr : Sizes) (s : Segment) (ss : List Segment) (cs : List (TileId × Option TileContent))
    → ((t : TileId) → Contains (map (λ c. c.0) cs) t → IsTrue (meets_tile pr t s))
    → AllByRecursion (λ c. c.1 ≡ content_of pr c.0 ss) cs
    → AllByRecursion (λ c. c.1 ≡ content_of pr c.0 (with_segment ss s)) (map (grown pr s) cs)
grown_contents pr s ss [] met h = tt
grown_contents pr s ss (c ∷ cs) met h = (
  ap (λ us. tile_with pr c.0 (with_segment us s)) (ap segments_in h.0 ∙ segments_near pr c.0 ss)
      ∙ ap (tile_with pr c.0) (sym (near_with_met pr c.0 ss s (met c.0 (contains_first c.0 (map (λ d. d.0) cs))))),
  grown_contents pr s ss cs (λ t k. met t (contains_later c.0 (map (λ d. d.0) cs) t k)) h.1,
)

pub thinned_contents : (pr : Sizes) (name : Label) (ss : List Segment) (cs : List (TileId × Option TileContent))
    → AllByRecursion (λ c. c.1 ≡ content_of pr c.0 ss) cs
    → AllByRecursion (λ c. c.1 ≡ content_of pr c.0 (without_name ss name)) (map (thinned pr name) cs)
thinned_contents pr name ss [] h = tt
thinned_contents pr name ss (c ∷ cs) h = (
  ap (λ us. tile_with pr c.0 (without_name us name)) (ap segments_in h.0 ∙ segments_near pr c.0 ss)
      ∙ ap (tile_with pr c.0) (sym (near_without pr c.0 ss name)),
  thinned_contents pr name ss cs h.1,
)
