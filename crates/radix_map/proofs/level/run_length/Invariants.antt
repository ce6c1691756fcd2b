use Rattle.std.proofs.Common.{◌^◌, take}
use Rattle.radix_map.specs.Entries.{InSlot, KeysFit}
use Rattle.radix_map.proofs.level.run_length.Given as goal

abbrev pub invariant-loop-n : goal.invariant-loop-n
invariant-loop-n g l = InSlot (2 ^ l.shift) l.at (take l.n l.edits) × KeysFit (take l.n l.edits)
