-- How far tiles reach: a segment within a profile's bound meets no tile whose column or row is
-- greater than 16,384 in size, since its ends lie in none and the tile is between theirs.

use Rattle.std.proofs.Common.{arith}
use Rattle.std.specs.Prelude.{◌≤◌, ◌*◌, ℤ, pos, neg_ℤ, ◌≤ℤ◌, ◌<ℤ◌, unsigned_abs}
use Rattle.std.specs.Int.{int_div_euclid, int_min, int_max}
use Rattle.std.proofs.lemmas.Int.{ints, clamps}
use Rattle.grid_core.specs.Profile.{Sizes, IsProfile}
use Rattle.grid_core.specs.Segment.{Segment}
use Rattle.grid_core.specs.Tiles.{tile_of}
use Rattle.grid_core.proofs.Quotients.{times_more, floor_le, floor_ge}
use Rattle.grid_core.proofs.Ring.{int_mul-neg}
use Rattle.grid_core.proofs.Signed.{signed, size_bounds, size_between}
use Rattle.tile_law.specs.Laws.{MetTilesAreInReach}
use Rattle.tile_law.proofs.MetTiles.{met_between}

-- a coordinate within the bound lies in a column or row from -16,384 to 16,384
pub column_reach : (pr : Sizes) → IsProfile pr → (x : ℤ) → unsigned_abs x ≤ pr.bound
    → (neg_ℤ (pos 16384) ≤ℤ int_div_euclid x (pos pr.side)) × (int_div_euclid x (pos pr.side) ≤ℤ pos 16384)
column_reach pr profile x within =
    let positive : pos 0 <ℤ pos pr.side = omega (arith, signed, profile.some_side) in
    let far : unsigned_abs x ≤ 16384 * pr.side = omega (arith, within, profile.reach) in
    let size = size_bounds x (16384 * pr.side) far in
    let left = int_mul-neg (pos pr.side) (pos 16384) in
    let right = times_more (pos pr.side) (pos 16384) in (
      floor_ge x (pos pr.side) (neg_ℤ (pos 16384)) positive (omega (arith, signed, size, left)),
      floor_le x (pos pr.side) (pos 16384) positive (omega (arith, signed, size, right, positive)),
    )

-- what lies between two numbers of this reach has it
between_reach : (a b t : ℤ) → neg_ℤ (pos 16384) ≤ℤ a → a ≤ℤ t → t ≤ℤ b → b ≤ℤ pos 16384 → unsigned_abs t ≤ 16384
between_reach a b t low after before high =
    size_between t 16384 (omega (arith, signed, low, after)) (omega (arith, signed, before, high))

pub met_tiles_are_in_reach : (pr : Sizes) → IsProfile pr → (s : Segment) → MetTilesAreInReach pr s
met_tiles_are_in_reach pr profile s fits t met =
    let between = met_between pr profile.some_side s fits.ordered t met in
    let px = column_reach pr profile s.p.x fits.p_within.x in
    let qx = column_reach pr profile s.q.x fits.q_within.x in
    let py = column_reach pr profile s.p.y fits.p_within.y in
    let qy = column_reach pr profile s.q.y fits.q_within.y in
    record {
      column = between_reach _ _ t.i px.0 between.after between.before qx.1;
      row = between_reach (int_min (tile_of pr s.p).j (tile_of pr s.q).j) (int_max (tile_of pr s.p).j (tile_of pr s.q).j)
          t.j (omega (arith, ints, clamps, py, qy)) between.above between.below (omega (arith, ints, clamps, py, qy));
    }
