use Rattle.std.proofs.Common.{◌≡◌, ◌+◌, ◌*◌, ◌^◌, ◌≤◌, ◌++◌, ◌-◌}
use Rattle.radix_map.specs.Entries.{entries_behind, part, keys_end}
use Rattle.radix_map.specs.Inner.{inner_sound}
use Rattle.radix_map.proofs.entries.NodeWalkWalkNode.step.Given as goal

abbrev pub invariant-loop-entry : goal.invariant-loop-entry
invariant-loop-entry g l =
    let f = g.L.Level.entries in
    let step = 2 ^ (g.L.Level.bits + 4) in
    (part g.W.Walk.left l.self.inner ++ entries_behind f step l.self.base l.self.at l.self.node.now.slots ≡ part g.W.Walk.left l.initial.self.inner ++ entries_behind f step l.initial.self.base l.initial.self.at l.initial.self.node.now.slots)
    × (l.self.base + 16 * step ≤ keys_end) × (l.self.at ≤ 16) × inner_sound g.W.Walk.sound l.self.inner

abbrev pub decreases-loop-entry : goal.decreases-loop-entry
decreases-loop-entry g l = 16 - l.self.at
