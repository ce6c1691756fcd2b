use Rattle.std.proofs.Common.{◌≡◌, ◌++◌, map}
use Rattle.std.specs.Prelude.{take, drop}
use Rattle.version_core.specs.Renewal.{plain_edit}
use Rattle.version_core.specs.Stamps.{stamped_edit}
use Rattle.version_core.proofs.renewal.stamp_edits.Given as goal

-- the first edits have the stamp, and the others are as before
abbrev pub invariant-loop-i : goal.invariant-loop-i
invariant-loop-i l =
    map plain_edit l.edits.items
    ≡ map (stamped_edit l.number) (take l.i (map plain_edit l.fn.edits.items)) ++ drop l.i (map plain_edit l.fn.edits.items)
