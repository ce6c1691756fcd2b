-- The sizes of a drawing: how far its coordinates reach, and how wide its tiles are.
use Rattle.std.specs.Prelude.{ℕ, ◌≤◌, ◌<◌, ◌^◌, ◌*◌}

-- coordinates are at most `bound` in size, and a tile has `side` by `side` pixels
pub record Sizes : Type 0 where
  pub bound : ℕ
  pub side : ℕ

-- neither size is 0, the bound is at most 2 ^ 30 and the side at most 2 ^ 16; the bound is at most
-- 16,384 tiles away from pixel (0, 0): the numbers of a tile, raised by 16,384, are below 2 ^ 16
pub record IsProfile (p : Sizes) : Type 0 where
  pub some_bound : 0 < p.bound
  pub greatest_bound : p.bound ≤ 2 ^ 30
  pub some_side : 0 < p.side
  pub greatest_side : p.side ≤ 2 ^ 16
  pub reach : p.bound ≤ 16384 * p.side
