use Rattle.std.proofs.Common.{◌≡◌, ◌^◌, rules, pos, ◌*ℤ◌, w64, SFits, to_z-of_z}
use mir.Syntax.{w128}
use Rattle.std.specs.Int.{int_div_euclid}
use Rattle.edge_search.proofs.Rounding.{joined_parts}
use Rattle.edge_search.proofs.rank.scaled_ratio.Goals as goal

-- the sum with no trace of its bits
value : (c : goal.After-sum) → c.sum.result ≡ int_div_euclid (c.args.n *ℤ pos (2 ^ 62)) c.args.d
value c =
    let n : SFits w128 c.args.n = search rules in
    let d : SFits w64 c.args.d = search rules in
    let whole : SFits w128 c.floor.result = search rules in
    let top : SFits w128 c.scaled.result = search rules in
    let rest : SFits w128 c.rest.result = search rules in
    let part : SFits w128 c.scaled-2.result = search rules in
    let low : SFits w128 c.floor-2.result = search rules in
    joined_parts c.args.n c.args.d (pos (2 ^ 62)) c.floor.result c.scaled.result c.rest.result c.scaled-2.result
    c.floor-2.result c.sum.result c.requires.positive
    (simp to_z-of_z at c.floor.ensures.value)
    (simp to_z-of_z at c.scaled.ensures.value)
    (simp to_z-of_z at c.rest.ensures.value)
    (simp to_z-of_z at c.scaled-2.ensures.value)
    (simp to_z-of_z at c.floor-2.ensures.value)
    (simp to_z-of_z at c.sum.ensures)

pub returns : goal.returns
returns c =
    let total : SFits w128 c.sum.result = search rules in
    simp to_z-of_z (value c)
