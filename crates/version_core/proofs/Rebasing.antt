-- The law of rebasing: a prepared change that stands on one live list stands on each other one that
-- has the same segments near its tiles and none of the names that it inserts.
use Rattle.std.proofs.Common.{◌≡◌, ap, sym, ◌∙◌, ℕ, ◌<◌, false, true≢false, List, [], ◌∷◌, map, Contains, IsTrue, Option}
use Rattle.std.specs.Prelude.{flat_map, length}
use Rattle.std.specs.List.{AllByRecursion, IsDistinct, list_any}
use Rattle.std.proofs.lemmas.Bool.{false_from_ne_true}
use Rattle.std.proofs.lemmas.List.Elements.{Contains-append_left, Contains-append_right}
use Rattle.std.proofs.lemmas.Map.Keys.{IsDistinct-from_sorted}
use Rattle.grid_core.specs.declared.tile.TileId.{TileId}
use Rattle.grid_core.specs.Profile.{Sizes}
use Rattle.grid_core.specs.Segment.{Segment}
use Rattle.grid_core.specs.LiveList.{IsLiveList}
use Rattle.grid_core.specs.Tiles.{near, meets_tile, tiles, tile_of, tile_cmp, tile_eq}
use Rattle.grid_core.proofs.AlongSegments.{meets_p}
use Rattle.grid_core.proofs.ListMembers.{contains_first, contains_later}
use Rattle.grid_core.proofs.RisingMembers.{sorted_rising, contains_rising, any_iff}
use Rattle.grid_core.proofs.TileOrder.{tile_total, tile_exact}
use Rattle.tile_law.proofs.MetTiles.{tiles_are_met}
use Rattle.tile_law.proofs.TileBoxes.{meets_tile_of}
use Rattle.hot_tile.specs.Tile.{TileContent}
use Rattle.version_core.specs.declared.change.Edit.{Edit}
use Rattle.version_core.specs.Edits.{after_edits, edited_segment, tiles_of_edits}
use Rattle.version_core.specs.Stands.{PreparedChange, Stands, tile_with, content_of}
use Rattle.version_core.proofs.Rebased.{Cover, AreMet, Agree, GivenBefore, fits_rebased, near_alike_all}
use Rattle.version_core.proofs.Apart.{AreFar, near_after_far}
use Rattle.version_core.specs.Laws.{AreSegments}
use Rattle.version_core.proofs.Gains.{same_gain}
use Rattle.version_core.proofs.Spans.{sums_moved}

abbrev all_tiles : Sizes → List Edit → List TileId
all_tiles pr es = flat_map (λ e. tiles pr (edited_segment e)) es

-- a tile that the segment of one of the edits meets is one of the edits' tiles
tile_of_first : (n : ℕ) (pr : Sizes) → 0 < pr.side → (e : Edit) (es : List Edit) → AreSegments n (e ∷ es) → (t : TileId)
    → IsTrue (meets_tile pr t (edited_segment e)) → Contains (tiles_of_edits pr (e ∷ es)) t
tile_of_first n pr some e es fits t met =
    (contains_rising tile_total tile_exact (all_tiles pr (e ∷ es)) t).1
    (Contains-append_left (tiles pr (edited_segment e)) (all_tiles pr es) t
    (((tiles_are_met pr some (edited_segment e) fits.0.ordered).met t).1 met))

tile_of_later : (pr : Sizes) (e : Edit) (es : List Edit) (t : TileId) → Contains (tiles_of_edits pr es) t
    → Contains (tiles_of_edits pr (e ∷ es)) t
tile_of_later pr e es t h =
    (contains_rising tile_total tile_exact (all_tiles pr (e ∷ es)) t).1
    (Contains-append_right (tiles pr (edited_segment e)) (all_tiles pr es) t
    ((contains_rising tile_total tile_exact (all_tiles pr es) t).0 h))

widened : (pr : Sizes) (ts us : List TileId) → ((t : TileId) → Contains ts t → Contains us t) → (es : List Edit)
    → Cover pr ts es → Cover pr us es
widened pr ts us more [] h = tt
widened pr ts us more (e ∷ es) h = (λ t m. more t (h.0 t m), widened pr ts us more es h.1)

pub edits_covered : (n : ℕ) (pr : Sizes) → 0 < pr.side → (es : List Edit) → AreSegments n es
    → Cover pr (tiles_of_edits pr es) es
edits_covered n pr some [] fits = tt
edits_covered n pr some (e ∷ es) fits = (
  λ t m. tile_of_first n pr some e es fits t m,
  widened pr (tiles_of_edits pr es) (tiles_of_edits pr (e ∷ es)) (tile_of_later pr e es) es (edits_covered n pr some es fits.1),
)

-- each segment meets the tile of its first end
pub edits_met : (pr : Sizes) → 0 < pr.side → (es : List Edit) → AreMet pr es
edits_met pr some [] = tt
edits_met pr some (e ∷ es) =
    ((tile_of pr (edited_segment e).p, meets_tile_of pr some (edited_segment e) (edited_segment e).p (meets_p (edited_segment e))), edits_met pr some es)

-- a tile that isn't one of the edits' is far from them
pub far_from : (pr : Sizes) (ts : List TileId) (t : TileId) → list_any (tile_eq t) ts ≡ false → (es : List Edit)
    → Cover pr ts es → AreFar pr t es
far_from pr ts t out [] cover = tt
far_from pr ts t out (e ∷ es) cover = (
  false_from_ne_true (meets_tile pr t (edited_segment e))
      (λ m. true≢false (sym ((any_iff tile_total tile_exact t ts).1 (cover.0 t m)) ∙ out)),
  far_from pr ts t out es cover.1,
)

-- what holds of each member holds of all
all_members : (P : TileId → Type 0) (ts : List TileId) → ((t : TileId) → Contains ts t → P t) → AllByRecursion P ts
all_members P [] h = tt
all_members P (t ∷ ts) h = (h t (contains_first t ts), all_members P ts (λ u c. h u (contains_later t ts u c)))

-- contents that are those of one live list are those of another that has the same segments near their tiles
same_contents : (pr : Sizes) (ss us : List Segment) (cs : List (TileId × Option TileContent))
    → ((t : TileId) → Contains (map (λ c. c.0) cs) t → near pr t ss ≡ near pr t us)
    → AllByRecursion (λ c. c.1 ≡ content_of pr c.0 ss) cs
    → AllByRecursion (λ c. c.1 ≡ content_of pr c.0 us) cs
same_contents pr ss us [] same h = tt
same_contents pr ss us (c ∷ cs) same h = (
  h.0 ∙ ap (tile_with pr c.0) (same c.0 (contains_first c.0 (map (λ d. d.0) cs))),
  same_contents pr ss us cs (λ t k. same t (contains_later c.0 (map (λ d. d.0) cs) t k)) h.1,
)

-- the law of rebasing
pub stands_rebased : (n : ℕ) (x : PreparedChange) → 0 < x.profile.side → (ss us : List Segment) → IsLiveList n ss
    → IsLiveList n us → AreSegments n x.change.edits → Agree x.profile (tiles_of_edits x.profile x.change.edits) ss us
    → GivenBefore [] us x.change.edits → Stands x ss → Stands x us
stands_rebased n x some ss us live live2 fits agree new stands =
    let pr = x.profile in
    let es = x.change.edits in
    let ts = tiles_of_edits pr es in
    let cover = edits_covered n pr some es fits in
    let fit = stands.fits in
    let fit2 = fits_rebased pr ts x.change.editor [] ss us es cover (edits_met pr some es) agree new fit in
    let after : (t : TileId) → Contains ts t → near pr t (after_edits ss es) ≡ near pr t (after_edits us es) = λ t c. near_alike_all pr t ss us es (agree t c) in
    let once : IsDistinct tile_eq ts = IsDistinct-from_sorted tile_cmp ts (sorted_rising tile_total (all_tiles pr es)) in
    record {
      fits = fit2;
      tiles = stands.tiles;
      contents =
          same_contents pr (after_edits ss es) (after_edits us es) x.contents (λ t c. after t ((stands.tiles t).0 c)) stands.contents;
      gain =
          stands.gain
          ∙ same_gain pr some ts once ss (after_edits ss es) us (after_edits us es)
          (λ t out. sym (near_after_far n pr t x.change.editor [] ss es live fits (far_from pr ts t out es cover) fit))
          (λ t out. sym (near_after_far n pr t x.change.editor [] us es live2 fits (far_from pr ts t out es cover) fit2))
          (all_members (λ t. near pr t ss ≡ near pr t us) ts agree)
          (all_members (λ t. near pr t (after_edits ss es) ≡ near pr t (after_edits us es)) ts after);
      span_gain =
          stands.span_gain
          ∙ sums_moved (λ s. length (tiles pr s)) n x.change.editor [] [] ss us es live live2 fits fit fit2;
    }
