use Rattle.std.proofs.Common.{◌≡◌, take}
use Rattle.round_plain.proofs.Steps.{steps_met}
use Rattle.round_plain.proofs.routes.route.Given as goal

-- the pixels met so far
abbrev pub invariant-loop-v : goal.invariant-loop-v
invariant-loop-v l = l.met.keys ≡ steps_met l.s (take l.v-index l.vertices)
