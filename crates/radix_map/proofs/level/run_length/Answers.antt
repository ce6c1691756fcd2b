use Rattle.std.proofs.Common.{◌^◌, ◌/◌, ◌%◌, ◌<◌, take, ap, sym, ◌∙◌, subst, add-one}
use Rattle.radix_map.specs.Entries.{InSlot, KeysFit, keys_end}
use Rattle.radix_map.proofs.Trees.{in_slot_more, fit_more}
use Rattle.radix_map.proofs.level.run_length.Goals as goal

pub loop-n-preserved : goal.loop-n-preserved
loop-n-preserved g c =
    let edits = c.args.edits.now in
    let edit = c.index-edits-n.result in
    let step = 2 ^ c.args.shift in
    let next = sym (add-one c.loop-n.n) in
    let inv = c.loop-n.invariant in
    let in_slot = ap (λ (e : _). e.0 / step % 16) (sym c.index-edits-n.is) ∙ sym c.slot.ensures.value ∙ c.if-slot-at.false in
    (subst (λ k. InSlot step c.args.at (take k edits)) next (in_slot_more step c.args.at edits c.loop-n.n edit c.loop-n-test.true inv.0 in_slot), subst (λ k. KeysFit (take k edits)) next (fit_more edits c.loop-n.n edit c.loop-n-test.true inv.1 (subst (λ (e : _). e.0 < keys_end) c.index-edits-n.is c.slot.ensures.fits)))
