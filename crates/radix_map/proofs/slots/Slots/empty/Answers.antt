use Rattle.std.proofs.Common.{[], ap, ◌∙◌, length, map, sym}
use Rattle.std.specs.Arc.{arc_value}
use Rattle.radix_map.specs.Slots.{slots_of}
use Rattle.radix_map.proofs.Digits.{no_slots, none_taken}
use Rattle.radix_map.proofs.slots.Slots.empty.Goals as goal

pub invariant_of-result : goal.invariant_of-result
invariant_of-result g c = ap length c.new.ensures.items ∙ sym (none_taken 16)

pub returns : goal.returns
returns g c = ap (λ xs. slots_of 16 0 (map arc_value xs)) c.new.ensures.items ∙ no_slots 16 []
