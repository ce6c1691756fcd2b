use Rattle.std.proofs.Common.{◌+◌, ◌*◌, ◌^◌, length}
use Rattle.radix_map.specs.Entries.{entries_of}
use Rattle.radix_map.proofs.Carried.{Carried}
use Rattle.radix_map.proofs.level.NodeLevel.edit.Given as goal

abbrev pub invariant-loop-run : goal.invariant-loop-run
invariant-loop-run g l =
    let step = 2 ^ (g.L.Level.bits + 4) in
    let f = g.L.Level.entries in
    Carried (16 * step) (entries_of f step l.initial.self.slots) (entries_of f step l.self.slots) l.edits l.rest l.tally.added l.tally.removed

abbrev pub decreases-loop-run : goal.decreases-loop-run
decreases-loop-run g l = length l.rest
