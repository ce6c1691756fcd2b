use Rattle.std.proofs.Common.{◌≡◌, map, take}
use Rattle.version_core.specs.Parts.{with_key}
use Rattle.version_core.proofs.lookup.by_key.Given as goal

abbrev pub invariant-loop-id : goal.invariant-loop-id
invariant-loop-id l = l.placed.items ≡ map with_key (take l.id-index l.ids)
