-- Tiles that are given with what the version after a prepared change has of them: they are the new
-- contents of the change's tiles.
use Rattle.std.proofs.Common.{◌≡◌, sym, ap, subst, ◌∙◌, ℕ, ◌+◌, ◌<◌, ◌≤◌, ◌^◌, List, [], ◌∷◌, ◌++◌, map, take, length, get_or, Option}
use Rattle.std.specs.Prelude.{option_map}
use Rattle.std.specs.Arc.{arc_value}
use Rattle.std.specs.declared.sync.Arc.{Arc}
use Rattle.std.proofs.lemmas.List.{map-append, take_more}
use Rattle.grid_core.specs.declared.tile.TileId.{TileId}
use Rattle.hot_tile.specs.Tile.{TileContent}
use Rattle.version_core.specs.Edits.{after_edits, tiles_of_edits}
use Rattle.version_core.specs.Laws.{AreSegments}
use Rattle.version_core.specs.Replaced.{plain_tile, contents_after}
use Rattle.version_core.specs.Stands.{PreparedChange, content_of}
use Rattle.version_core.specs.Version.{VersionState, MayFollow, IsNext, most_segments}
use Rattle.seg_edit.specs.Waiting.{IsWaiting}

-- one tile more is given with its content
pub given_more : {Z : Type 0} (f : TileId → Option TileContent) (ids : List TileId) (i : ℕ) (d : TileId)
    (given : List (TileId × Option (Arc TileContent Z))) (content : Option (Arc TileContent Z)) → i < length ids
    → option_map arc_value content ≡ f (get_or ids i d) → map plain_tile given ≡ map (λ t. (t, f t)) (take i ids)
    → map plain_tile (given ++ (get_or ids i d, content) ∷ []) ≡ map (λ t. (t, f t)) (take (i + 1) ids)
given_more f ids i d given content below own so_far =
    let g : TileId → TileId × Option TileContent = λ t. (t, f t) in
    map-append plain_tile given ((get_or ids i d, content) ∷ [])
    ∙ (λ k. so_far k ++ (get_or ids i d, own k) ∷ [])
    ∙ sym (map-append g (take i ids) (get_or ids i d ∷ []))
    ∙ ap (map g) (sym (take_more ids i d below))

-- what the next version has of the change's tiles are their new contents
pub given_after : (v w : VersionState) (x : PreparedChange) → IsWaiting v x → IsNext v x.change w
    → (given : List (TileId × Option TileContent))
    → given ≡ map (λ t. (t, content_of w.profile t w.live)) (tiles_of_edits x.profile x.change.edits)
    → given ≡ contents_after v.profile v.live x.change.edits
given_after v w x waiting next given are =
    are
    ∙ (λ k. map (λ t. (t, content_of (next.profile k) t (next.live k))) (tiles_of_edits (waiting.profile k) x.change.edits))

-- a waiting change may follow the version, where there is room for it
pub waiting_may_follow : (v : VersionState) (x : PreparedChange) → IsWaiting v x → AreSegments x.profile.bound x.change.edits
    → v.number + 1 < 2 ^ 32 → length (after_edits v.live x.change.edits) ≤ most_segments → MayFollow v x.change
waiting_may_follow v x waiting within numbered few =
    record {
      numbered = numbered;
      fits = waiting.stands.fits;
      within = subst (λ pr. AreSegments pr.bound x.change.edits) waiting.profile within;
      few = few;
    }
