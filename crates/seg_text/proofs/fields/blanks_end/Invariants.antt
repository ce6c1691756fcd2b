use Rattle.std.proofs.Common.{◌≡◌, ◌≤◌, ◌-◌, length, drop}
use Rattle.seg_text.specs.Fields.{fields_of}
use Rattle.seg_text.proofs.fields.blanks_end.Given as goal

abbrev pub invariant-loop-end : goal.invariant-loop-end
invariant-loop-end l =
    (l.fn.from ≤ l.end)
    × (l.end ≤ length l.line)
    × (fields_of (drop l.fn.from l.line) ≡ fields_of (drop l.end l.line))

abbrev pub decreases-loop-end : goal.decreases-loop-end
decreases-loop-end l = length l.line - l.end
