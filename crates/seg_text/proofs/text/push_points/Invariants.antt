use Rattle.std.proofs.Common.{◌≡◌, ◌++◌, take}
use Rattle.std.specs.Prelude.{flat_map}
use Rattle.seg_text.specs.Text.{spaced_point}
use Rattle.seg_text.proofs.text.push_points.Given as goal

-- the points so far have been appended
abbrev pub invariant-loop-at : goal.invariant-loop-at
invariant-loop-at l = l.out.items ≡ l.fn.out.items ++ flat_map spaced_point (take l.at-index l.points)
