use Rattle.std.proofs.Common.{◌≤◌, arith, w64, SFits, to_z-of_z}
use Rattle.edge_search.proofs.Searching.{AreHalves, halves_meet}
use Rattle.edge_search.proofs.candidates.first_not_passed.Goals as goal

pub returns : goal.returns
returns c =
    let fits : SFits w64 c.args.node = c.ranges.node in
    let so_far : AreHalves c.args.node c.args.at c.args.pieces.now c.halves.low c.halves.high =
    simp to_z-of_z at c.halves.invariant in
    let met : c.halves.high ≤ c.halves.low = omega (arith, c.halves-test.false) in
    halves_meet c.args.node c.args.at c.args.pieces.now c.halves.low c.halves.high so_far met
