use Rattle.std.proofs.Common.{ap, sym, ◌∙◌}
use Rattle.radix_map.specs.Entries.{entries_of, single, edited_within}
use Rattle.radix_map.proofs.Carried.{one_within}
use Rattle.radix_map.proofs.Carrying.{first_of, in_note}
use Rattle.radix_map.proofs.pending.Note.carry_first.Goals as goal

pub returns-clause-ok : goal.returns-clause-ok
returns-clause-ok g c =
    let n = c.self.inside in
    let es = entries_of single 1 c.args.slots.now in
    let noted = c.args.self.now in
    let edit = c.index_mut.result.now in
    let in_row = in_note n.edits.items noted n.done c.self.view_is c.requires.some in
    let first = first_of n.edits.items noted n.done edit c.self.view_is in_row c.index_mut.ensures.value in
    c.in_ok-tally.ensures.ok ∙ sym (one_within 16 es edit) ∙ ap (edited_within 16 es) (sym first)
