use Rattle.std.proofs.Common.{◌≡◌, ◌++◌, take}
use Rattle.std.specs.Prelude.{flat_map}
use Rattle.canon_write.specs.Text.{edge_line}
use Rattle.canon_write.proofs.arrangement.push_edge_lines.Given as goal

-- the lines of the items so far have been appended
abbrev pub invariant-loop-bundled : goal.invariant-loop-bundled
invariant-loop-bundled l = l.out.items ≡ l.fn.out.items ++ flat_map edge_line (take l.bundled-index l.edges)
