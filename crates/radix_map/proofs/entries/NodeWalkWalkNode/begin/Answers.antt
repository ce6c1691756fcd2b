use Rattle.std.proofs.Common.{◌≡◌, ◌+◌, ◌*◌, ◌%◌, ◌^◌, option_copied}
use Rattle.radix_map.specs.Entries.{raised, entries_from, part}
use Rattle.radix_map.proofs.Walks.{node_from, begun_some, begun_none}
use Rattle.radix_map.proofs.entries.NodeWalkWalkNode.begin.Goals as goal
use Rattle.radix_map.proofs.entries.NodeWalkWalkNode.begin.Goals.{in-Some, in-None}

pub returns-clause-left : goal.returns-clause-left
returns-clause-left g c =
    let f = g.L.Level.entries in
    let s = g.L.Level.bits in
    let left = g.W.Walk.left in
    let base = c.args.base in
    let key = c.args.from in
    let at = c.slot-at.result in
    let xs = c.args.node.now.slots in
    let shift = c.args.shift in
    let low = base + at * 2 ^ shift in
    let key_there = key % (16 * 2 ^ s) in
    let child = option_copied c.get.result in
    let begun : part left c.match-get.result ≡ raised low (entries_from key_there (part f child)) =
    elim c.match-get.branch [
      | in-Some w ↦ begun_some f left low key_there w.in-Some.is w.result-is w.child_walk.ensures.left
      | in-None w ↦ begun_none f left low key_there w.in-None.is w.result-is
    ] in
    node_from f left s base key shift at xs c.match-get.result child g.met.L.Level.rises c.requires.level c.slot-at.ensures.value
    c.get.ensures.value begun
