-- Histories of changes: the live list after them, which changes touched a tile, and with which later
-- change a prepared one clashes. Changes are numbered from 1.
use Rattle.std.specs.Prelude.{ℕ, ◌+◌, List, [], ◌∷◌, ◌++◌, fold, map, flat_map, filter, filter_map, drop, slice_get}
use Rattle.std.specs.Prelude.{Bool, Option, None, option_map, unwrap_or}
use Rattle.std.specs.List.{list_any, enumerate_from, last_or}
use Rattle.grid_core.specs.declared.tile.TileId.{TileId}
use Rattle.grid_core.specs.Name.{Label}
use Rattle.grid_core.specs.Profile.{Sizes}
use Rattle.grid_core.specs.Segment.{Segment}
use Rattle.grid_core.specs.Tiles.{tile_eq}
use Rattle.version_core.specs.Edits.{Changes, after_edits, tiles_of_edits, inserted_names, FitEdits}

-- the live list after changes, one after the other
abbrev pub live_from : List Segment → List Changes → List Segment
live_from ss h = fold (λ us x. after_edits us x.edits) ss h

-- the live list after a history
abbrev pub live : List Changes → List Segment
live h = live_from [] h

-- each change fits the live list before it, and no name is given twice, those given before included
abbrev pub FitFrom : List Label → List Segment → List Changes → Type 0
FitFrom given ss [] = Unit {0}
FitFrom given ss (x ∷ h) =
    FitEdits x.editor given ss x.edits
    × FitFrom (inserted_names x.edits ++ given) (after_edits ss x.edits) h

-- each change of a history fits the live list before it, and no name is given twice
abbrev pub Fit : List Changes → Type 0
Fit h = FitFrom [] [] h

-- the change touches the tile: one of its segments meets it
abbrev pub touches : Sizes → TileId → Changes → Bool
touches pr t x = list_any (tile_eq t) (tiles_of_edits pr x.edits)

-- the number of the last change that touches the tile, 0 if none does
abbrev pub last_touch : Sizes → List Changes → TileId → ℕ
last_touch pr h t =
    unwrap_or (last_or None (map (λ x. x.0) (filter (λ x. touches pr t x.1) (enumerate_from 1 h)))) 0

-- the tiles that two changes share, by column and then row
abbrev pub shared_tiles : Sizes → Changes → Changes → List TileId
shared_tiles pr x y = filter (λ t. touches pr t y) (tiles_of_edits pr x.edits)

-- a change's number and the least tile that x shares with it, if they share one
abbrev pub clash_with : Sizes → Changes → ℕ × Changes → Option (ℕ × TileId)
clash_with pr x y = option_map (λ t. (y.0, t)) (slice_get (shared_tiles pr x y.1) 0)

-- of the changes after the first b, the number of the last that shares a tile with x, and the least
-- tile that it shares
abbrev pub clash : Sizes → List Changes → ℕ → Changes → Option (ℕ × TileId)
clash pr h b x = last_or None (filter_map (clash_with pr x) (enumerate_from (b + 1) (drop b h)))

-- the names that the changes of a history insert
abbrev pub given_names : List Changes → List Label
given_names h = flat_map (λ x. inserted_names x.edits) h
