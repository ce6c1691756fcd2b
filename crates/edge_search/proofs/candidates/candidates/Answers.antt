use Rattle.std.proofs.Common.{◌≡◌, ◌-◌, ◌+◌, rules, w64, SFits, to_z-of_z, length, min}
use Rattle.edge_search.specs.Candidates.{IsDivision}
use Rattle.edge_search.proofs.Searching.{part_is_near}
use Rattle.edge_search.proofs.candidates.candidates.Goals as goal

pub returns : goal.returns
returns c =
    let fits : SFits w64 c.args.node = c.ranges.node in
    let i = c.first_not_passed-index.result in
    let divided : IsDivision c.args.node c.args.at c.args.pieces.now i = simp to_z-of_z at c.first_not_passed-index.ensures in
    let from : c.saturating_sub.result ≡ i - 1 = search rules in
    let to : c.min.result ≡ min (length c.args.pieces.now) (i + 1) = search rules in
    part_is_near c.requires.order c.requires.column divided c.saturating_sub.result c.min.result from to
