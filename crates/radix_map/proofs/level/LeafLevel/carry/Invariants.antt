use Rattle.radix_map.specs.Entries.{entries_of, single}
use Rattle.radix_map.proofs.Carrying.{Carrying}
use Rattle.radix_map.proofs.level.LeafLevel.carry.Given as goal

abbrev pub invariant-loop-done : goal.invariant-loop-done
invariant-loop-done g l =
    Carrying 16 (entries_of single 1 l.initial.self.slots) (entries_of single 1 l.self.slots) l.initial.note l.note l._done l.tally.added l.tally.removed
