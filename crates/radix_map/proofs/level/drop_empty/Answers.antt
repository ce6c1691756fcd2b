use Rattle.std.proofs.Common.{◌+◌, ◌^◌, None, ap, sym, ◌∙◌}
use Rattle.radix_map.specs.Entries.{entries_of, part}
use Rattle.radix_map.proofs.Edits.{node_same}
use Rattle.radix_map.proofs.level.drop_empty.Goals as goal

pub returns-then-is_empty_child : goal.returns-then-is_empty_child
returns-then-is_empty_child g c =
    let f = g.L.Level.entries in
    let step = 2 ^ (g.L.Level.bits + 4) in
    ap (entries_of f step) c.clear.ensures ∙ node_same f step c.args.at c.args.slots.now None c.requires (sym (ap (part f) (sym c.get.ensures.value) ∙ c.is_empty_child.ensures c.if-is_empty_child.true))
