-- Where the line of a segment passes from one column of tiles to the next. The border before column
-- i is at x = side * i - 1/2. Heights are above the lower side of row 0, in units of 1 / (2 dx) of a
-- pixel, in which they are whole; dx is how far the segment goes to the right.
use Rattle.std.specs.Prelude.{◌≡◌, ◌⊎◌, ℤ, pos, ◌+ℤ◌, ◌-ℤ◌, ◌*ℤ◌, ◌<ℤ◌, ◌≤ℤ◌}
use Rattle.grid_core.specs.Profile.{Sizes}
use Rattle.grid_core.specs.Segment.{Segment, direction}
use Rattle.grid_core.specs.Tiles.{tile_of}

-- how high a tile is
abbrev pub tile_height : Sizes → Segment → ℤ
tile_height pr s = pos 2 *ℤ pos pr.side *ℤ (direction s).x

-- how far the line rises from one border to the next
abbrev pub rise_of : Sizes → Segment → ℤ
rise_of pr s = pos 2 *ℤ pos pr.side *ℤ (direction s).y

-- how high the line stands on the border before column i
abbrev pub height_at : Sizes → Segment → ℤ → ℤ
height_at pr s i =
    (direction s).y *ℤ (pos 2 *ℤ (pos pr.side *ℤ i -ℤ s.p.x) -ℤ pos 1)
    +ℤ (direction s).x *ℤ (pos 2 *ℤ s.p.y +ℤ pos 1)

-- a number is so many whole parts and a rest, which is less than a part
pub record IsSplit (part number whole rest : ℤ) : Type 0 where
  pub whole_and_rest : part *ℤ whole +ℤ rest ≡ number
  pub low : pos 0 ≤ℤ rest
  pub high : rest <ℤ part

-- on the border before column i the line stands in this row, and so much above the row's lower side
abbrev pub IsBorder : Sizes → Segment → ℤ → ℤ → ℤ → Type 0
IsBorder pr s i row above = IsSplit (tile_height pr s) (height_at pr s i) row above

-- the segment enters column i in this row: the first column in the row of p, and each other one in the
-- row in which its line stands on the border before it
abbrev pub IsEntry : Sizes → Segment → ℤ → ℤ → Type 0
IsEntry pr s i row =
    ((i ≡ (tile_of pr s.p).i) × (row ≡ (tile_of pr s.p).j))
    ⊎ (((tile_of pr s.p).i <ℤ i) × ((above : ℤ) × IsBorder pr s i row above))
