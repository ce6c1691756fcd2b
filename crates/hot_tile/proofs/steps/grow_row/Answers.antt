use Rattle.std.proofs.Common.{sym, subst, map, take}
use Rattle.std.specs.Ordering.{nat_cmp}
use Rattle.std.specs.List.{filter}
use Rattle.std.specs.List.Sorted.{IsStrictlySortedBy}
use Rattle.hot_tile.specs.Frame.{step_of}
use Rattle.hot_tile.specs.Steps.{meets_key}
use Rattle.hot_tile.proofs.PathLaws.{folded_rises}
use Rattle.hot_tile.proofs.steps.grow_row.Goals as goal

pub put-requires : goal.put-requires
put-requires c =
    subst (IsStrictlySortedBy nat_cmp) (sym c.loop-key.invariant)
    (folded_rises c.args.old.now
    (map (step_of c.args.u.now) (filter (meets_key c.args.frame.now c.args.u.now) (take c.loop-key.key-index c.args.pixels.now)))
    c.requires.rising)
