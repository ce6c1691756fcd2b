use Rattle.std.proofs.Common.{sym, subst, [], map, take}
use Rattle.std.specs.Ordering.{nat_cmp}
use Rattle.std.specs.List.{filter}
use Rattle.std.specs.List.Sorted.{IsStrictlySortedBy}
use Rattle.hot_tile.specs.Frame.{step_of}
use Rattle.hot_tile.specs.Spots.{keys}
use Rattle.hot_tile.specs.Steps.{meets_key}
use Rattle.hot_tile.proofs.PathLaws.{folded_rises, none_rises}
use Rattle.hot_tile.proofs.steps.make_row.Goals as goal

pub put-requires : goal.put-requires
put-requires c =
    subst (IsStrictlySortedBy nat_cmp) (sym c.loop-spot.invariant)
    (folded_rises []
    (map (step_of c.args.s.now) (filter (meets_key c.args.frame.now c.args.s.now) (keys (take c.loop-spot.spot-index c.in_columns-spot-items.result.now))))
    none_rises)
