use Rattle.std.proofs.Common.{drop}
use Rattle.radix_map.specs.Entries.{entries_of, single}
use Rattle.radix_map.proofs.Carried.{Carried}
use Rattle.radix_map.proofs.level.LeafLevel.edit.Given as goal

abbrev pub invariant-loop-edit : goal.invariant-loop-edit
invariant-loop-edit g l =
    Carried 16 (entries_of single 1 l.initial.self.slots) (entries_of single 1 l.self.slots) l.edits (drop l.edit-index l.edits) l.tally.added l.tally.removed
