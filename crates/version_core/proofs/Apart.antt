-- Changes that don't touch a tile leave the segments near it. By induction on their edits: a segment
-- that is put in or taken out and doesn't meet the tile isn't near it.
use Rattle.std.proofs.Common.{◌≡◌, refl, ◌∙◌, ℕ, false, List, [], ◌∷◌, ◌++◌, Contains}
use Rattle.std.specs.List.{AllByRecursion}
use Rattle.grid_core.specs.declared.tile.TileId.{TileId}
use Rattle.grid_core.specs.Name.{Label}
use Rattle.grid_core.specs.Profile.{Sizes}
use Rattle.grid_core.specs.Segment.{Segment}
use Rattle.grid_core.specs.LiveList.{names, IsLiveList, with_segment, without_name}
use Rattle.grid_core.specs.Tiles.{near, meets_tile}
use Rattle.grid_core.proofs.ListMembers.{contains_map}
use Rattle.grid_core.proofs.LiveLists.{with_segment_is_live, without_name_is_live}
use Rattle.tile_law.specs.Laws.{IsFar}
use Rattle.tile_law.proofs.Edits.{near_with_far, near_without_far, far_name}
use Rattle.version_core.specs.declared.change.Edit.{Edit}
use Rattle.version_core.specs.declared.change.Edit.TheVariants.{Insert, Delete}
use Rattle.version_core.specs.Edits.{Changes, after_edits, edited_segment, inserted_names, FitEdits}
use Rattle.version_core.specs.History.{live_from, FitFrom}
use Rattle.version_core.specs.Laws.{AreSegments}

-- the segment of no edit meets the tile
abbrev pub AreFar : Sizes → TileId → List Edit → Type 0
AreFar pr t es = AllByRecursion (λ e. meets_tile pr t (edited_segment e) ≡ false) es

-- a live list is one after edits
pub live_after : (n editor : ℕ) (given : List Label) (ss : List Segment) (es : List Edit) → IsLiveList n ss
    → AreSegments n es → IsLiveList n (after_edits ss es)
live_after n editor given ss [] live fits = live
live_after n editor given ss (Insert s ∷ es) live fits =
    live_after n editor given (with_segment ss s) es (with_segment_is_live n ss s live fits.0) fits.1
live_after n editor given ss (Delete s ∷ es) live fits =
    live_after n editor given (without_name ss s.name) es (without_name_is_live n ss s.name live) fits.1

-- a name that no segment has is far from each tile
far_if_new : (pr : Sizes) (t : TileId) (ss : List Segment) (name : Label) → (¬ Contains (names ss) name)
    → IsFar pr t ss name
far_if_new pr t ss name new u here same =
    absurd (new ((contains_map (λ (v : Segment). v.name) ss name).1 (here.0, u, here.1, here.2, same)))

-- edits far from a tile leave the segments near it
pub near_after_far : (n : ℕ) (pr : Sizes) (t : TileId) (editor : ℕ) (given : List Label) (ss : List Segment) (es : List Edit)
    → IsLiveList n ss → AreSegments n es → AreFar pr t es → FitEdits editor given ss es
    → near pr t (after_edits ss es) ≡ near pr t ss
near_after_far n pr t editor given ss [] live fits far fit = refl
near_after_far n pr t editor given ss (Insert s ∷ es) live fits far fit =
    near_after_far n pr t editor (s.name ∷ given) (with_segment ss s) es (with_segment_is_live n ss s live fits.0) fits.1
    far.1 fit.3
    ∙ near_with_far pr t ss s live.rising far.0 (far_if_new pr t ss s.name fit.2)
near_after_far n pr t editor given ss (Delete s ∷ es) live fits far fit =
    near_after_far n pr t editor given (without_name ss s.name) es (without_name_is_live n ss s.name live) fits.1
    far.1 fit.1
    ∙ near_without_far pr t ss s.name (far_name pr t ss s live.rising fit.0 far.0)

-- changes far from a tile leave the segments near it
pub near_after_changes : (n : ℕ) (pr : Sizes) (t : TileId) (given : List Label) (ss : List Segment) (h : List Changes)
    → IsLiveList n ss → AllByRecursion (λ x. AreSegments n x.edits) h → AllByRecursion (λ x. AreFar pr t x.edits) h
    → FitFrom given ss h → near pr t (live_from ss h) ≡ near pr t ss
near_after_changes n pr t given ss [] live fits far fit = refl
near_after_changes n pr t given ss (x ∷ h) live fits far fit =
    near_after_changes n pr t (inserted_names x.edits ++ given) (after_edits ss x.edits) h
    (live_after n x.editor given ss x.edits live fits.0) fits.1 far.1 fit.1
    ∙ near_after_far n pr t x.editor given ss x.edits live fits.0 far.0 fit.0
