use Rattle.std.proofs.Common.{◌≡◌, ◌++◌, map, take}
use Rattle.hot_tile.specs.Frame.{pixel_at, step_of}
use Rattle.hot_tile.proofs.tile.push_points.Given as goal

abbrev pub invariant-loop-step : goal.invariant-loop-step
invariant-loop-step l =
    l.points.items ≡ l.fn.points.items ++ map (λ k. pixel_at l.frame (step_of l.s k)) (take l.step-index l.row)
