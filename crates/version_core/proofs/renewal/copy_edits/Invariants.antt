use Rattle.std.proofs.Common.{◌≡◌, map}
use Rattle.std.specs.Prelude.{take}
use Rattle.version_core.specs.Renewal.{plain_edit}
use Rattle.version_core.proofs.renewal.copy_edits.Given as goal

-- the first edits are copied
abbrev pub invariant-loop-edit : goal.invariant-loop-edit
invariant-loop-edit l = map plain_edit l.copied.items ≡ map plain_edit (take l.edit-index l.edits)
