-- What a change gains, told by the contents of its tiles before it and after it: outside of its tiles
-- nothing changes, and each content has the passes of the rounding's part in its tile.
use Rattle.std.proofs.Common.{◌≡◌, refl, sym, ap, ◌∙◌, ℕ, ◌+◌, ◌<◌, arith, List, [], ◌∷◌, map, Option}
use Rattle.std.specs.Prelude.{sum_by}
use Rattle.std.specs.List.{AllByRecursion, IsDistinct}
use Rattle.std.proofs.lemmas.List.Sums.{sum_by-cons}
use Rattle.grid_core.specs.declared.tile.TileId.{TileId}
use Rattle.grid_core.specs.Name.{Label}
use Rattle.grid_core.specs.Profile.{Sizes}
use Rattle.grid_core.specs.Segment.{Segment}
use Rattle.grid_core.specs.LiveList.{IsLiveList}
use Rattle.grid_core.specs.Tiles.{near, tile_eq, part_of, passes_in}
use Rattle.tile_law.specs.Parts.{passes_of}
use Rattle.tile_law.specs.Laws.{passes_in_tiles}
use Rattle.tile_law.proofs.Locality.{part_is_local}
use Rattle.tile_law.proofs.TileSums.{passes_add_up}
use Rattle.hot_tile.specs.Tile.{TileContent}
use Rattle.version_core.specs.declared.change.Edit.{Edit}
use Rattle.version_core.specs.Edits.{after_edits, FitEdits}
use Rattle.version_core.specs.Laws.{AreSegments}
use Rattle.version_core.specs.Stands.{content_of, tile_with, content_passes}
use Rattle.version_core.proofs.Apart.{near_after_far}
use Rattle.version_core.proofs.Rebased.{Cover}
use Rattle.version_core.proofs.Rebasing.{far_from}

-- a content has as many passes as the part in its tile
content_as_part : (pr : Sizes) → 0 < pr.side → (t : TileId) (ss : List Segment)
    → content_passes (content_of pr t ss) ≡ passes_in (part_of pr t ss)
content_as_part pr some t ss = by (near pr t ss) ∙ ap passes_in (sym (part_is_local pr some t ss))
  where
    by : (us : List Segment) → content_passes (tile_with pr t us) ≡ passes_in (part_of pr t us)
    by [] = refl
    by (u ∷ us) = refl

-- the contents of some tiles have together as many passes as the parts in them
pub contents_passes : (pr : Sizes) → 0 < pr.side → (ss : List Segment) (cs : List (TileId × Option TileContent))
    → AllByRecursion (λ c. c.1 ≡ content_of pr c.0 ss) cs
    → sum_by (λ c. content_passes c.1) cs ≡ passes_in_tiles pr (map (λ c. c.0) cs) ss
contents_passes pr some ss [] h = refl
contents_passes pr some ss (c ∷ cs) h =
    let first : content_passes c.1 ≡ passes_in (part_of pr c.0 ss) = ap content_passes h.0 ∙ content_as_part pr some c.0 ss in
    let rest = contents_passes pr some ss cs h.1 in
    let left = sum_by-cons (λ (d : TileId × Option TileContent). content_passes d.1) c cs in
    let right = sum_by-cons (λ t. passes_in (part_of pr t ss)) c.0 (map (λ d. d.0) cs) in
    omega (arith, first, rest, left, right)

-- the passes after edits, and those before: they differ by what the parts in the edits' tiles differ
pub passes_moved : (n : ℕ) (pr : Sizes) → 0 < pr.side → (editor : ℕ) (given : List Label) (ss : List Segment) (es : List Edit)
    → IsLiveList n ss → AreSegments n es → FitEdits editor given ss es
    → (ts : List TileId) → IsDistinct tile_eq ts → Cover pr ts es
    → passes_in_tiles pr ts (after_edits ss es) + passes_of ss ≡ passes_in_tiles pr ts ss + passes_of (after_edits ss es)
passes_moved n pr some editor given ss es live fits fit ts once cover =
    (passes_add_up pr some ss).change (after_edits ss es) ts once
    (λ t out. sym (near_after_far n pr t editor given ss es live fits (far_from pr ts t out es cover) fit))
