-- From border to border: how far the line of a segment rises, and in which row it leaves a column.
use Rattle.std.specs.Prelude.{◌≡◌, ℤ, pos, ◌+ℤ◌, ◌-ℤ◌, ◌*ℤ◌, Bool, not, ◌&&◌, if◌then◌else◌}
use Rattle.std.specs.Ordering.{int_eq}
use Rattle.grid_core.specs.Profile.{Sizes}
use Rattle.grid_core.specs.Segment.{Segment}
use Rattle.tile_walk.specs.declared.border.Border.{Border}
use Rattle.tile_walk.specs.declared.border.Rise.{Rise}
use Rattle.tile_walk.specs.Borders.{tile_height, rise_of}

-- from border to border the line rises by so many rows and a rest
pub record IsRise (pr : Sizes) (s : Segment) (r : Rise) : Type 0 where
  pub tile_is : r.tile ≡ tile_height pr s
  pub rises : r.tile *ℤ r.rows +ℤ r.rest ≡ rise_of pr s

-- the row in which the line leaves the column before a border: a rising one that passes through a
-- corner of four tiles leaves it in the row below the corner
abbrev pub exit_of : Bool → Border → ℤ
exit_of falls b = if int_eq b.above (pos 0) && not falls then b.row -ℤ pos 1 else b.row
