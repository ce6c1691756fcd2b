use Rattle.std.proofs.Common.{◌≡◌, [], take}
use Rattle.round_plain.proofs.Counts.{counts}
use Rattle.round_plain.proofs.hot_pixels.tallies.Given as goal

-- the ends so far are counted
abbrev pub invariant-loop-end : goal.invariant-loop-end
invariant-loop-end l = l.counted.entries ≡ counts (take l.end-index l.ends) []

-- the ends are counted, and the crossings so far
abbrev pub invariant-loop-crossing : goal.invariant-loop-crossing
invariant-loop-crossing l = l.counted.entries ≡ counts l.ends (take l.crossing-index l.crossings)
