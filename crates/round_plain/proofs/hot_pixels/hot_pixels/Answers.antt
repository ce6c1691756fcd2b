-- So many segments have few enough ends and crossings to be counted.
use Rattle.std.proofs.Common.{◌∙◌, ap, length, arith}
use Rattle.round_plain.proofs.Pairs.{length-end_points, crossings_fit}
use Rattle.round_plain.proofs.hot_pixels.hot_pixels.Goals as goal

pub tallies-requires-clause-few_ends : goal.tallies-requires-clause-few_ends
tallies-requires-clause-few_ends c =
    let all = ap length (c.deref.ensures.value ∙ c.in_ok-ends.ensures.value)
    ∙ length-end_points c.args.segments.now in
    omega (arith, all)

pub tallies-requires-clause-few_crossings : goal.tallies-requires-clause-few_crossings
tallies-requires-clause-few_crossings c =
    let all = ap length (c.deref-2.ensures.value ∙ c.in_ok-crossings.ensures.value) in
    omega (arith, all, crossings_fit c.args.segments.now c.requires)
