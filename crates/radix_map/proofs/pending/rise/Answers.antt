use Rattle.std.proofs.Common.{◌≡◌, ◌+◌, ◌≤◌, suc, take, take_all, get_or, ap, sym, ◌∙◌, subst, arith, add-one}
use Rattle.radix_map.specs.Entries.{Rises, keys_end}
use Rattle.radix_map.specs.Rising.{rises_wider}
use Rattle.radix_map.proofs.Noted.{rises_more}
use Rattle.radix_map.proofs.pending.rise.Goals as goal

pub loop-edit-preserved : goal.loop-edit-preserved
loop-edit-preserved g c =
    let edits = c.args.edits.now in
    let i = c.loop-edit.edit-index in
    let e = c.edit-item.result in
    let low = c.loop-edit.low in
    let key : e.0 ≡ (get_or edits i e).0 = ap (λ (t : _). t.0) c.edit-item.is in
    let next : (get_or edits i e).0 + 1 ≡ c.behind-low.result = ap (λ n. n + 1) (sym key) ∙ sym c.behind-low.ensures.value in
    let from : low ≤ (get_or edits i e).0 = omega (arith, c.from.ensures, c.if-from-low.false) in
    (subst (λ n. Rises 0 c.behind-low.result (take n edits)) (sym (add-one i)) (subst (λ n. Rises 0 n (take (suc i) edits)) next (rises_more 0 low edits i e c.loop-edit-test.true c.loop-edit.invariant.0 from)), c.behind-low.ensures.within)

pub returns : goal.returns
returns g c = λ t.
    let edits = c.args.edits.now in
    let i = c.loop-edit.edit-index in
    let inv = c.loop-edit.invariant in
    let low = c.loop-edit.low in
    let all : take i edits ≡ edits = take_all i edits c.loop-edit-test.false in
    rises_wider 0 low keys_end edits (subst (Rises 0 low) all inv.0) inv.1
