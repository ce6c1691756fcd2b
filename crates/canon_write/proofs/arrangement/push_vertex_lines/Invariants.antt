use Rattle.std.proofs.Common.{◌≡◌, ◌++◌, take}
use Rattle.std.specs.Prelude.{flat_map}
use Rattle.canon_write.specs.Text.{vertex_line}
use Rattle.canon_write.proofs.arrangement.push_vertex_lines.Given as goal

-- the lines of the items so far have been appended
abbrev pub invariant-loop-vertex : goal.invariant-loop-vertex
invariant-loop-vertex l = l.out.items ≡ l.fn.out.items ++ flat_map vertex_line (take l.vertex-index l.vertices)
