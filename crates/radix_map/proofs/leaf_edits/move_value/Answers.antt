use Rattle.std.proofs.Common.{◌≡◌, ◌<◌, bit_and, length, ap, sym, ◌∙◌, subst, set, option_map, is_some, cond, ◌&&◌, not, arith}
use Rattle.std.proofs.lemmas.Nat.{and_mask}
use Rattle.std.specs.Arc.{arc_value}
use Rattle.radix_map.specs.Slots.{item_at}
use Rattle.radix_map.specs.Entries.{entries_of, single, Counts}
use Rattle.radix_map.proofs.Trees.{leaf_edited, leaf_tally, mapped_variant, copied_variant}
use Rattle.radix_map.proofs.leaf_edits.move_value.Goals as goal

pub returns-clause-ok : goal.returns-clause-ok
returns-clause-ok g c =
    let xs = c.args.slots.now in
    let edit = c.args.edit.now in
    let at = and_mask edit.0 4 in
    ap (entries_of single 1) (c.in_ok-move_item.ensures.ok ∙ ap (λ i. set xs i (option_map arc_value edit.1)) at) ∙ leaf_edited xs edit.0 edit.1 c.get.ensures.wide

pub returns-clause-counted : goal.returns-clause-counted
returns-clause-counted g c =
    let xs = c.args.slots.now in
    let edit = c.args.edit.now in
    let i = bit_and edit.0 15 in
    let at = and_mask edit.0 4 in
    let lt : i < 16 = omega arith in
    let w = option_map arc_value edit.1 in
    let t = c.is_some-is_taken.result in
    let s = c.is_some-is_set.result in
    let was : is_some (item_at xs i) ≡ t = ap is_some (sym c.get.ensures.value) ∙ copied_variant c.get.result ∙ sym c.is_some-is_taken.ensures in
    let is : is_some w ≡ s = mapped_variant arc_value edit.1 ∙ sym c.is_some-is_set.ensures in
    let base = leaf_tally xs i w t s lt c.get.ensures.wide was is in
    subst (λ a. Counts (length (entries_of single 1 xs)) (length (entries_of single 1 c.move_item.new.slots)) a c.one_if-2.result) (sym c.one_if.ensures) (subst (λ r. Counts (length (entries_of single 1 xs)) (length (entries_of single 1 c.move_item.new.slots)) (cond (s && not t) 1 0) r) (sym c.one_if-2.ensures) (subst (λ ys. Counts (length (entries_of single 1 xs)) (length (entries_of single 1 ys)) (cond (s && not t) 1 0) (cond (t && not s) 1 0)) (sym c.in_ok-move_item.ensures.ok) base))
