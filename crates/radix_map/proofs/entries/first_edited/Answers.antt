use Rattle.std.proofs.Common.{ap, sym, ◌∙◌}
use Rattle.radix_map.specs.Entries.{edited_all, keys_end}
use Rattle.radix_map.proofs.Noted.{tree_first, edit_first, edit_skipped, rises_rest, rises_later, rises_key, no_items, last_first, last_rises}
use Rattle.radix_map.proofs.entries.first_edited.Goals as goal

pub returns-in-Some-next_before-clause-first : goal.returns-in-Some-next_before-clause-first
returns-in-Some-next_before-clause-first g c =
    let ps = c.loop-edit.pending.now in
    let entry = c.in-Some-next_before.entry in
    let some = c.in-Some-next_before.ensures.some in
    sym c.loop-edit.invariant.0 ∙ ap (λ es. edited_all es ps) some.1 ∙ tree_first keys_end entry.0 entry.1.now c.next_before.new.self ps c.in-Some.edit.now c.in-Some.later.now c.in-Some.ensures.cases.0 some.0 c.loop-edit.invariant.2

pub returns-in-Some-next_before-clause-tree : goal.returns-in-Some-next_before-clause-tree
returns-in-Some-next_before-clause-tree g c =
    let entry = c.in-Some-next_before.entry in
    rises_later keys_end c.loop-edit.tree (entry.0, entry.1.now) c.next_before.new.self c.in-Some-next_before.ensures.some.1 c.loop-edit.invariant.1

pub returns-in-Some-set_value-clause-first : goal.returns-in-Some-set_value-clause-first
returns-in-Some-set_value-clause-first g c =
    let inv = c.loop-edit.invariant in
    sym inv.0 ∙ edit_first keys_end c.in-Some-set_value.value.now c.loop-edit.tree c.next_before.new.self c.loop-edit.pending.now c.in-Some.edit.now c.in-Some.later.now c.in-Some.ensures.cases.0 inv.1 inv.2 c.in-None.ensures.none c.in-Some-set_value.ensures

pub returns-in-Some-set_value-clause-tree : goal.returns-in-Some-set_value-clause-tree
returns-in-Some-set_value-clause-tree g c =
    let inv = c.loop-edit.invariant in
    let key = rises_key keys_end c.loop-edit.pending.now c.in-Some.edit.now c.in-Some.later.now c.in-Some.ensures.cases.0 inv.2 in
    rises_rest keys_end c.in-Some.edit.now.0 c.loop-edit.tree c.next_before.new.self key inv.1 c.in-None.ensures.none

pub returns-in-Some-set_value-clause-edits : goal.returns-in-Some-set_value-clause-edits
returns-in-Some-set_value-clause-edits g c = rises_later keys_end c.loop-edit.pending.now c.in-Some.edit.now c.in-Some.later.now c.in-Some.ensures.cases.0 c.loop-edit.invariant.2

pub loop-edit-preserved : goal.loop-edit-preserved
loop-edit-preserved g c =
    let inv = c.loop-edit.invariant in
    let tree = c.loop-edit.tree in
    let rest = c.next_before.new.self in
    let ps = c.loop-edit.pending.now in
    let edit = c.in-Some.edit.now in
    let later = c.in-Some.later.now in
    let cut = c.in-Some.ensures.cases.0 in
    let past = c.in-None.ensures.none in
    (sym (edit_skipped keys_end tree rest ps edit later cut inv.1 inv.2 past c.in-None-set_value.ensures) ∙ inv.0, rises_rest keys_end edit.0 tree rest (rises_key keys_end ps edit later cut inv.2) inv.1 past, rises_later keys_end ps edit later cut inv.2)

pub returns-clause-first : goal.returns-clause-first
returns-clause-first g c =
    last_first c.next.result (λ (p : _). (p.0, p.1.now)) (edited_all c.args.tree.now c.args.pending.now.now) c.loop-edit.tree c.next.new.self c.loop-edit.pending.now (no_items c.loop-edit.pending.now c.in_default.ensures.cases) c.loop-edit.invariant.0 c.next.ensures

pub returns-clause-tree : goal.returns-clause-tree
returns-clause-tree g c = last_rises c.next.result (λ (p : _). (p.0, p.1.now)) keys_end c.loop-edit.tree c.next.new.self c.next.ensures c.loop-edit.invariant.1
