use Rattle.std.proofs.Common.{◌≡◌, ◌++◌, take}
use Rattle.std.specs.Prelude.{flat_map}
use Rattle.seg_text.specs.Text.{spaced_name}
use Rattle.seg_text.proofs.text.push_names.Given as goal

-- the names so far have been appended
abbrev pub invariant-loop-name : goal.invariant-loop-name
invariant-loop-name l = l.out.items ≡ l.fn.out.items ++ flat_map spaced_name (take l.name-index l.names)
