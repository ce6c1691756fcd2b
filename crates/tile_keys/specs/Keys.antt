-- Keys of tiles and of names, for one map of both: tiles under keys below first_name_key, in blocks of
-- 4 by 4 tiles, names from that key on.
use Rattle.std.specs.Prelude.{ℕ, zero, suc, ◌+◌, ◌*◌, ◌/◌, ◌%◌, ◌^◌, ℤ, pos, ◌+ℤ◌, unsigned_abs}
use Rattle.grid_core.specs.declared.tile.TileId.{TileId}
use Rattle.grid_core.specs.Name.{Label}

-- two numbers digit by digit, in base 4, as one number in base 16: each of its digits has one digit
-- of the first number and one of the second
abbrev pub interleaved : ℕ → ℕ → ℕ → ℕ
interleaved zero a b = 0
interleaved (suc digits) a b = 16 * interleaved digits (a / 4) (b / 4) + (4 * (a % 4) + b % 4)

-- the number of a tile's column, or of its row, raised by 16,384: from 0 to 32,768 for a tile in
-- reach
abbrev pub raised_index : ℤ → ℕ
raised_index i = unsigned_abs (i +ℤ pos 16384)

-- the key of a tile
abbrev pub tile_key : TileId → ℕ
tile_key t = interleaved 8 (raised_index t.i) (raised_index t.j)

-- the first key of a name; no tile in reach has it or a greater one
abbrev pub first_name_key : ℕ
first_name_key = 3 * 2 ^ 30

-- the key of the segment of this name
abbrev pub name_key : Label → ℕ
name_key n = first_name_key + (n.editor * 2 ^ 16 + n.serial)
