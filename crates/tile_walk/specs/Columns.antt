-- The tiles of one column, from one row to another.
use Rattle.std.specs.Prelude.{ℕ, ◌+◌, ℤ, pos, ◌+ℤ◌, ◌-ℤ◌, unsigned_abs, int_lt, Bool, if◌then◌else◌}
use Rattle.std.specs.Prelude.{List, map, filter}
use Rattle.std.specs.List.{range_with_len}
use Rattle.std.specs.Int.{int_gap}
use Rattle.grid_core.specs.declared.tile.TileId.{TileId}

-- the tiles of column i from row `low` up to row `high`
abbrev pub column_up : ℤ → ℤ → ℤ → List TileId
column_up i low high =
    map (λ k. record { i = i; j = low +ℤ pos k }) (range_with_len 0 (int_gap low (high +ℤ pos 1)))

-- the tiles of column i from row `high` down to row `low`
abbrev pub column_down : ℤ → ℤ → ℤ → List TileId
column_down i high low =
    map (λ k. record { i = i; j = high -ℤ pos k }) (range_with_len 0 (int_gap low (high +ℤ pos 1)))

-- the tiles of column i from one row to another, downwards where the segment falls
abbrev pub column_from : Bool → ℤ → ℤ → ℤ → List TileId
column_from falls i from to = if falls then column_down i from to else column_up i from to

-- how many tiles that are
abbrev pub rows_from : Bool → ℤ → ℤ → ℕ
rows_from falls from to =
    if falls then int_gap to (from +ℤ pos 1) else int_gap from (to +ℤ pos 1)

-- how many tiles a segment meets at most from one tile to another: one, and one more for each column
-- and each row that it goes on
abbrev pub most_tiles : TileId → TileId → ℕ
most_tiles first last = unsigned_abs (last.i -ℤ first.i) + unsigned_abs (last.j -ℤ first.j) + 1

-- the tiles of a list that lie in columns before i
abbrev pub before : ℤ → List TileId → List TileId
before i ts = filter (λ t. int_lt t.i i) ts
