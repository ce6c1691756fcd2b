-- Edits and changes of a live list, and what a version has of them.
use Rattle.std.specs.Prelude.{◌≡◌, ℕ, List, [], ◌∷◌, fold, flat_map, Contains}
use Rattle.version_core.specs.declared.change.Edit.{Edit}
use Rattle.version_core.specs.declared.change.Edit.TheVariants.{Insert, Delete}
use Rattle.grid_core.specs.declared.tile.TileId.{TileId}
use Rattle.grid_core.specs.Name.{Label}
use Rattle.grid_core.specs.Profile.{Sizes}
use Rattle.grid_core.specs.Segment.{Segment}
use Rattle.grid_core.specs.LiveList.{names, with_segment, without_name}
use Rattle.grid_core.specs.RisingSet.{rising}
use Rattle.grid_core.specs.Tiles.{tile_cmp, tiles}

-- a change as contracts see it
pub record Changes : Type 0 where
  pub editor : ℕ
  pub edits : List Edit

-- the segment that an edit puts in or takes out
abbrev pub edited_segment : Edit → Segment
edited_segment (Insert s) = s
edited_segment (Delete s) = s

-- the live list after an edit
abbrev pub after_edit : List Segment → Edit → List Segment
after_edit ss (Insert s) = with_segment ss s
after_edit ss (Delete s) = without_name ss s.name

-- the live list after edits, one after the other
abbrev pub after_edits : List Segment → List Edit → List Segment
after_edits ss es = fold after_edit ss es

-- the tiles of edits: those that their segments meet, by column and then row, each once
abbrev pub tiles_of_edits : Sizes → List Edit → List TileId
tiles_of_edits pr es = rising tile_cmp (flat_map (λ e. tiles pr (edited_segment e)) es)

-- the names that edits insert
abbrev pub inserted_names : List Edit → List Label
inserted_names [] = []
inserted_names (Insert s ∷ es) = s.name ∷ inserted_names es
inserted_names (Delete s ∷ es) = inserted_names es

-- the edits fit the live list, one after the other: an inserted name has this editor, isn't live
-- there and isn't among the names given before; a deleted segment is live there
abbrev pub FitEdits : ℕ → List Label → List Segment → List Edit → Type 0
FitEdits editor given ss [] = Unit {0}
FitEdits editor given ss (Insert s ∷ es) =
    (s.name.editor ≡ editor)
    × (¬ Contains given s.name)
    × (¬ Contains (names ss) s.name)
    × FitEdits editor (s.name ∷ given) (with_segment ss s) es
FitEdits editor given ss (Delete s ∷ es) =
    Contains ss s × FitEdits editor given (without_name ss s.name) es
