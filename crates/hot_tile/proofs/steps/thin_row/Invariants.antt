use Rattle.std.proofs.Common.{◌+◌, ◌-◌, ◌≤◌, length}
use Rattle.hot_tile.proofs.CoolLaws.{IsThinning}
use Rattle.hot_tile.proofs.steps.thin_row.Given as goal

abbrev pub invariant-steps : goal.invariant-steps
invariant-steps l =
    record {
      within : l.i ≤ length l.old;
      gone_within : l.j ≤ length l.gone;
      so_far : IsThinning l.old l.gone l.i l.j l.row.items;
    }

abbrev pub decreases-steps : goal.decreases-steps
decreases-steps l = (length l.old - l.i) + (length l.gone - l.j)
