use Rattle.std.proofs.Common.{sym, subst}
use Rattle.grid_core.specs.Vector.{IsWithin}
use Rattle.rat_cross.proofs.Bounds.{pixel_within}
use Rattle.rat_cross.proofs.cross_point.pixel.Goals as goal

pub returns-then-is_narrow_point-clause-within : goal.returns-then-is_narrow_point-clause-within
returns-then-is_narrow_point-clause-within c n h =
    subst (IsWithin n) (sym c.narrow_pixel.ensures) (pixel_within n c.args.c.now h)

pub returns-else-is_narrow_point-clause-within : goal.returns-else-is_narrow_point-clause-within
returns-else-is_narrow_point-clause-within c n h =
    subst (IsWithin n) (sym c.wide_pixel.ensures) (pixel_within n c.args.c.now h)
