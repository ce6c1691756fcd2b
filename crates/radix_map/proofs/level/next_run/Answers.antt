use Rattle.std.proofs.Common.{◌≡◌, suc, ◌+◌, ◌^◌, ◌∷◌, ◌++◌, take, drop, ap, sym, ◌∙◌, subst, arith, add-one}
use Rattle.std.proofs.lemmas.List.{take-append-drop}
use Rattle.radix_map.specs.Entries.{InSlot, KeysFit}
use Rattle.radix_map.proofs.level.next_run.Goals as goal

pub returns : goal.returns
returns g c =
    let n = c.run_length-n.result in
    let edits = c.args.edits.now in
    let first = c.in_ok-first.first.now in
    let later = c.in_ok-first.later.now in
    let cut : edits ≡ first ∷ later = c.in_ok-first.ensures.cases.0 in
    let front : c.split_at.result.0.now ≡ first ∷ take n later =
    c.split_at.ensures.front ∙ ap (λ k. take k edits) (add-one n) ∙ ap (take (suc n)) cut in
    record {
      none = tt;
      some = record {
        slot = c.slot-at.ensures.small;
        within = subst (InSlot (2 ^ c.args.shift) c.slot-at.result) (sym front) (sym c.slot-at.ensures.value, c.run_length-n.ensures.all);
        fit = subst KeysFit (sym front) (c.slot-at.ensures.fits, c.run_length-n.ensures.fit);
        some = omega (arith, c.split_at.ensures.front_len);
        all = sym (take-append-drop (n + 1) edits) ∙ ap (λ t. t ++ drop (n + 1) edits) (sym c.split_at.ensures.front) ∙ ap (λ t. c.split_at.result.0.now ++ t) (sym c.split_at.ensures.back);
      };
    }
