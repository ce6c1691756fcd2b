use Rattle.std.proofs.Common.{◌≡◌, map, take}
use Rattle.version_core.proofs.lookup.keys_of.Given as goal

abbrev pub invariant-loop-p : goal.invariant-loop-p
invariant-loop-p l = l.keys.items ≡ map (λ p. p.0) (take l.p-index l.placed)
