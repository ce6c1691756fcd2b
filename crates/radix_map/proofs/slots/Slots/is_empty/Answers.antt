use Rattle.std.proofs.Common.{◌≡◌, ap, sym, ◌∙◌, map}
use Rattle.std.specs.Arc.{arc_value}
use Rattle.radix_map.specs.Slots.{slots_of}
use Rattle.radix_map.proofs.Digits.{no_slots}
use Rattle.radix_map.proofs.slots.Slots.is_empty.Goals as goal
use borrow.Author.Tests.{eqb-true}

pub returns : goal.returns
returns g c = λ t.
    let p = c.self.inside in
    let zero : p.digits ≡ 0 = eqb-true p.digits 0 t in
    sym c.self.view_is ∙ ap (λ d. slots_of 16 d (map arc_value p.items.items)) zero ∙ no_slots 16 (map arc_value p.items.items)
