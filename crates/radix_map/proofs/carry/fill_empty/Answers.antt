use Rattle.std.proofs.Common.{◌+◌, ◌^◌, IsSome, ap, sym, ◌∙◌, subst, arith}
use Rattle.radix_map.specs.Slots.{item_at}
use Rattle.radix_map.specs.Entries.{entries_of, part}
use Rattle.radix_map.proofs.Edits.{node_same}
use Rattle.radix_map.proofs.Carrying.{item_set}
use Rattle.radix_map.proofs.carry.fill_empty.Goals as goal

pub returns-clause-same : goal.returns-clause-same
returns-clause-same g c =
    let f = g.L.Level.entries in
    let step = 2 ^ (g.L.Level.bits + 4) in
    let none = ap f c.in_ok-new.ensures.ok ∙ c.in_ok-child.ensures ∙ c.empty.ensures in
    ap (entries_of f step) c.in_ok-put.ensures.ok ∙ node_same f step c.args.at c.args.slots.now _ c.requires.at (none ∙ ap (part f) (sym c.requires.free))

pub returns-clause-taken : goal.returns-clause-taken
returns-clause-taken g c =
    subst (λ ys. IsSome (item_at ys c.args.at)) (sym c.in_ok-put.ensures.ok) (item_set c.args.slots.now c.args.at _ (omega (arith, c.requires.wide, c.requires.at)))
