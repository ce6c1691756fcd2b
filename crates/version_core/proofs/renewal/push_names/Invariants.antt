use Rattle.std.proofs.Common.{◌≡◌, ◌++◌, map}
use Rattle.std.specs.Prelude.{take}
use Rattle.version_core.specs.Entries.{put_name}
use Rattle.version_core.specs.Renewal.{plain_edit}
use Rattle.version_core.proofs.renewal.push_names.Given as goal

-- the edits of the first names are put behind the others
abbrev pub invariant-loop-change : goal.invariant-loop-change
invariant-loop-change l =
    map plain_edit l.edits.items ≡ map plain_edit l.fn.edits.items ++ map put_name (take l.change-index l.changes)
