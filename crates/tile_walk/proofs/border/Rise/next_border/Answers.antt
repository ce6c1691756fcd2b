use Rattle.std.proofs.Common.{rules, arith, to_z-of_z, SFits, w64, ◌≤◌, ◌^◌, ◌+◌}
use Rattle.std.specs.Prelude.{ℤ, pos, ◌+ℤ◌, ◌-ℤ◌, ◌<ℤ◌, ◌≤ℤ◌, unsigned_abs}
use Rattle.grid_core.proofs.Signed.{signed, from_lt_true, from_lt_false, fits_by_size, size_between, sum_within}
use Rattle.tile_walk.proofs.Floors.{sum_below, sum_above}
use Rattle.tile_walk.proofs.border.Rise.next_border.Goals as goal

-- sums of rows and of rests fit
rows_fit : (a b : ℤ) → unsigned_abs a ≤ 2 ^ 32 → unsigned_abs b ≤ 2 ^ 49
    → unsigned_abs (a +ℤ b) ≤ 2 ^ 32 + 2 ^ 49
rows_fit a b h k = sum_within a b (2 ^ 32) (2 ^ 49) h k

rests_fit : (a b tile : ℤ) → pos 0 ≤ℤ a → a <ℤ tile → pos 0 ≤ℤ b → b <ℤ tile → tile ≤ℤ pos (2 ^ 49)
    → unsigned_abs (a +ℤ b) ≤ 2 ^ 50
rests_fit a b tile h k l m n =
    size_between (a +ℤ b) (2 ^ 50) (omega (arith, signed, h, l)) (omega (arith, signed, k, m, n))

pub returns-then-above-self : goal.returns-then-above-self
returns-then-above-self c h split =
    let r = c.args.self in
    let b = c.args.border in
    let row : SFits w64 b.row = search rules in
    let rows : SFits w64 r.rows = search rules in
    let above : SFits w64 b.above = search rules in
    let rest : SFits w64 r.rest = search rules in
    let tile : SFits w64 r.tile = search rules in
    let size = rows_fit b.row r.rows c.requires.small r.small_rows in
    let left = rests_fit b.above r.rest r.tile c.requires.low c.requires.high r.low r.high r.small_tile in
    let next : SFits w64 (b.row +ℤ r.rows) = fits_by_size w64 (b.row +ℤ r.rows) (omega arith) in
    let sum : SFits w64 (b.above +ℤ r.rest) = fits_by_size w64 (b.above +ℤ r.rest) (omega arith) in
    let less = from_lt_true (b.above +ℤ r.rest) r.tile (simp to_z-of_z at c.if-above-self.true) in
    simp to_z-of_z (sum_below split r.rows r.rest r.low less)

pub returns-else-above-self : goal.returns-else-above-self
returns-else-above-self c h split =
    let r = c.args.self in
    let b = c.args.border in
    let row : SFits w64 b.row = search rules in
    let rows : SFits w64 r.rows = search rules in
    let above : SFits w64 b.above = search rules in
    let rest : SFits w64 r.rest = search rules in
    let tile : SFits w64 r.tile = search rules in
    let size = rows_fit b.row r.rows c.requires.small r.small_rows in
    let left = rests_fit b.above r.rest r.tile c.requires.low c.requires.high r.low r.high r.small_tile in
    let next : SFits w64 (b.row +ℤ r.rows) = fits_by_size w64 (b.row +ℤ r.rows) (omega arith) in
    let sum : SFits w64 (b.above +ℤ r.rest) = fits_by_size w64 (b.above +ℤ r.rest) (omega arith) in
    let last : SFits w64 (b.row +ℤ r.rows +ℤ pos 1) =
    fits_by_size w64 (b.row +ℤ r.rows +ℤ pos 1)
    (let s = sum_within (b.row +ℤ r.rows) (pos 1) (2 ^ 32 + 2 ^ 49) 1 size (omega (arith, signed)) in omega arith) in
    let least = from_lt_false (b.above +ℤ r.rest) r.tile (simp to_z-of_z at c.if-above-self.false) in
    let part = sum_above split r.rows r.rest r.high least in
    let fewer = size_between (b.above +ℤ r.rest -ℤ r.tile) (2 ^ 50)
    (omega (arith, signed, part.low)) (omega (arith, signed, part.high, r.small_tile)) in
    let over : SFits w64 (b.above +ℤ r.rest -ℤ r.tile) =
    fits_by_size w64 (b.above +ℤ r.rest -ℤ r.tile) (omega arith) in
    simp to_z-of_z part
