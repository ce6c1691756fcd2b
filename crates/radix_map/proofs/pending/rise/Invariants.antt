use Rattle.std.proofs.Common.{◌≤◌, take}
use Rattle.radix_map.specs.Entries.{Rises, keys_end}
use Rattle.radix_map.proofs.pending.rise.Given as goal

abbrev pub invariant-loop-edit : goal.invariant-loop-edit
invariant-loop-edit g l = Rises 0 l.low (take l.edit-index l.edits) × (l.low ≤ keys_end)
