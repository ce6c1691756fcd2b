use Rattle.std.proofs.Common.{◌+◌, [], ◌∷◌, suc, drop, ap, sym, ◌∙◌, subst, arith, add-one}
use Rattle.radix_map.specs.Entries.{entries_of, single, IsEdited}
use Rattle.radix_map.proofs.Carried.{Carried, carried_none, carried_more, carried_alone, at_err, next_edit, one_within}
use Rattle.radix_map.proofs.level.LeafLevel.edit.Goals as goal

pub loop-edit-init : goal.loop-edit-init
loop-edit-init g c = carried_none 16 (entries_of single 1 c.args.self.now.slots) c.args.edits.now

pub loop-edit-preserved : goal.loop-edit-preserved
loop-edit-preserved g c =
    let es = entries_of single 1 c.args.self.now.slots in
    let now = entries_of single 1 c.loop-edit.self.slots in
    let next = entries_of single 1 c.edit_value.new.slots in
    let edits = c.args.edits.now in
    let i = c.loop-edit.edit-index in
    let e = c.edit-item.result in
    let t = c.loop-edit.tally in
    let one = c.in_ok-one.one in
    let did = c.in_ok-one.ensures in
    let edited : IsEdited 16 now next (e ∷ []) one.added one.removed = record { made = did.ok ∙ sym (one_within 16 now e); counted = did.counted; few_added = did.few.0; few_removed = did.few.1 } in
    subst (λ n. Carried 16 es next edits (drop n edits) (t.added + one.added) (t.removed + one.removed)) (sym (add-one i)) (carried_more 16 es now next edits (drop i edits) (e ∷ []) (drop (suc i) edits) t.added t.removed one.added one.removed c.loop-edit.invariant (next_edit edits i e c.loop-edit-test.true c.edit-item.is) (did.fits, tt) edited)

pub returns-in_err-one-clause-alone : goal.returns-in_err-one-clause-alone
returns-in_err-one-clause-alone g c = λ n.
    let edits = c.args.edits.now in
    let i = c.loop-edit.edit-index in
    let e = c.edit-item.result in
    let t = c.loop-edit.tally in
    at_err c.from_residual.result (carried_alone 16 (entries_of single 1 c.args.self.now.slots) (entries_of single 1 c.loop-edit.self.slots) (entries_of single 1 c.edit_value.new.slots) edits (drop i edits) (e ∷ []) (drop (suc i) edits) t.added t.removed c.loop-edit.invariant (next_edit edits i e c.loop-edit-test.true c.edit-item.is) (omega arith) (λ m. ap (entries_of single 1) c.in_err-one.ensures.err) n)
