use Rattle.std.proofs.Common.{◌+◌, ◌*◌, ◌^◌, ◌-◌, ◌≤◌}
use Rattle.radix_map.specs.Entries.{entries_of}
use Rattle.radix_map.proofs.Carrying.{Carrying}
use Rattle.radix_map.proofs.level.NodeLevel.carry.Given as goal

abbrev pub invariant-loop-done : goal.invariant-loop-done
invariant-loop-done g l =
    let step = 2 ^ (g.L.Level.bits + 4) in
    let f = g.L.Level.entries in
    Carrying (16 * step) (entries_of f step l.initial.self.slots) (entries_of f step l.self.slots) l.initial.note l.note l.done l.tally.added l.tally.removed × (l.done ≤ l.count)

abbrev pub decreases-loop-done : goal.decreases-loop-done
decreases-loop-done g l = l.count - l.done
