use Rattle.std.proofs.Common.{◌+◌, ◌*◌, ◌^◌, ◌++◌, ap, sym, ◌∙◌, arith}
use Rattle.radix_map.specs.Entries.{entries_behind, raised}
use Rattle.radix_map.proofs.Cuts.{from_start}
use Rattle.radix_map.proofs.Walks.{behind_none, behind_next}
use Rattle.radix_map.proofs.entries.NodeWalkWalkNode.step.Goals as goal

pub loop-entry-preserved : goal.loop-entry-preserved
loop-entry-preserved g c =
    let f = g.L.Level.entries in
    let step = 2 ^ (g.L.Level.bits + 4) in
    let w = c.loop-entry.self in
    let xs = w.node.now.slots in
    let n = c.in-Some-next.n in
    let child = c.in-Some-next.child.now in
    let inv = c.loop-entry.invariant in
    let next = c.in-Some-next.ensures.some in
    let later = entries_behind f step w.base (n + 1) xs in
    let below = next.below in
    (ap (λ t. t ++ later) (c.child_walk.ensures.left ∙ ap (raised (w.base + n * 2 ^ c.args.shift)) (from_start (16 * 2 ^ g.L.Level.bits) (f child)) ∙ ap (λ t. raised (w.base + n * 2 ^ t) (f child)) c.requires.level) ∙ sym (behind_next f step w.base w.at n child xs c.next.ensures.wide next) ∙ ap (λ t. t ++ entries_behind f step w.base w.at xs) (sym c.in-None.ensures.first.0) ∙ inv.0, inv.1, omega arith, c.child_walk.ensures.sound)

pub returns-in-None-next-clause-first : goal.returns-in-None-next-clause-first
returns-in-None-next-clause-first g c =
    let f = g.L.Level.entries in
    let step = 2 ^ (g.L.Level.bits + 4) in
    let w = c.loop-entry.self in
    let xs = w.node.now.slots in
    let later = entries_behind f step w.base w.at xs in
    let none = behind_none f step w.base w.at xs c.in-None-next.ensures.none in
    (sym c.loop-entry.invariant.0 ∙ ap (λ t. t ++ later) c.in-None.ensures.first.0 ∙ none, ap (λ t. t ++ later) c.in-None.ensures.first.1 ∙ none)
