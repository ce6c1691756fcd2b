use Rattle.std.proofs.Common.{◌≡◌, ◌++◌, take}
use Rattle.std.specs.Prelude.{flat_map}
use Rattle.canon_write.specs.Text.{segment_line}
use Rattle.canon_write.proofs.arrangement.push_segment_lines.Given as goal

-- the lines of the items so far have been appended
abbrev pub invariant-loop-routed : goal.invariant-loop-routed
invariant-loop-routed l = l.out.items ≡ l.fn.out.items ++ flat_map segment_line (take l.routed-index l.routes)
