use Rattle.std.proofs.Common.{◌≡◌, ◌++◌, map, take}
use Rattle.radix_map.specs.Pending.{plain_edit}
use Rattle.radix_map.proofs.pending.share_edits.Given as goal

abbrev pub invariant-loop-edit : goal.invariant-loop-edit
invariant-loop-edit g l = map plain_edit l.to.items ≡ map plain_edit l.fn.to.items ++ map plain_edit (take l.edit-index l.edits)
