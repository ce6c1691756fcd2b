use Rattle.std.proofs.Common.{◌≡◌, map, take, drop}
use Rattle.radix_map.specs.Entries.{value_at}
use Rattle.version_core.specs.Parts.{part_under, copied_part}
use Rattle.version_core.proofs.lookup.parts_at.Given as goal

abbrev pub invariant-loop-p : goal.invariant-loop-p
invariant-loop-p l =
    (l.values ≡ map (λ p. value_at p.0 l.fn.entries) (drop l.p-index l.placed))
    × (map copied_part l.found.items ≡ map (part_under l.fn.entries) (take l.p-index l.placed))
