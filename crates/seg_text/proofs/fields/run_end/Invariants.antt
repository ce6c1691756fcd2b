use Rattle.std.proofs.Common.{◌≡◌, ℕ, ◌≤◌, ◌<◌, ◌-◌, false, length}
use Rattle.std.specs.Prelude.{slice_index}
use Rattle.seg_text.specs.Fields.{is_blank}
use Rattle.seg_text.proofs.fields.run_end.Given as goal

abbrev pub invariant-loop-end : goal.invariant-loop-end
invariant-loop-end l =
    (l.fn.from ≤ l.end)
    × (l.end ≤ length l.line)
    × ((k : ℕ) → l.fn.from ≤ k → k < l.end → is_blank (slice_index l.line k) ≡ false)

abbrev pub decreases-loop-end : goal.decreases-loop-end
decreases-loop-end l = length l.line - l.end
