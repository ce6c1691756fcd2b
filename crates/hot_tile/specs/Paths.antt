-- The passes of the segments of a tile once pixels became hot, or cold.
use Rattle.std.specs.Prelude.{ℕ, ◌+◌, List, [], ◌∷◌, ◌++◌, map, take, drop}
use Rattle.grid_core.specs.Segment.{Segment}
use Rattle.hot_tile.specs.Steps.{grown_row, thinned_row}
use Rattle.hot_tile.specs.Tile.{TileContent, frame_of, path_in}

-- the passes of u with those through the pixels that became hot
abbrev pub grown_path : TileContent → List ℕ → Segment → List ℕ
grown_path t fresh u = grown_row (frame_of t) u (path_in t u) fresh

-- those of all segments, with those of s before the one at an index, in a tile with these hot pixels
abbrev pub grown_paths : TileContent → ℕ → Segment → List ℕ → List ℕ → List (List ℕ)
grown_paths t at s hot fresh =
    map (grown_path t fresh) (take at t.segments)
    ++ grown_row (frame_of t) s [] hot ∷ map (grown_path t fresh) (drop at t.segments)

-- the passes of u without those through the pixels that became cold
abbrev pub thinned_path : TileContent → List ℕ → Segment → List ℕ
thinned_path t cold u = thinned_row (grown_row (frame_of t) u [] cold) (path_in t u)

-- those of all segments but the one at an index
abbrev pub thinned_paths : TileContent → ℕ → List ℕ → List (List ℕ)
thinned_paths t at cold =
    map (thinned_path t cold) (take at t.segments) ++ map (thinned_path t cold) (drop (at + 1) t.segments)
