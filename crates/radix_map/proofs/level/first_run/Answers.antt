use Rattle.std.proofs.Common.{◌^◌, ◌/◌, ◌%◌, ap, sym, ◌∙◌, subst, arith}
use Rattle.radix_map.specs.Entries.{InSlot}
use Rattle.radix_map.proofs.Carrying.{run_front}
use Rattle.radix_map.proofs.level.first_run.Goals as goal

pub returns : goal.returns
returns g c =
    let edits = c.args.edits.now in
    let k = c.run_length.result in
    let first = c.index-edits-0 in
    let at = ap (λ (e : _). e.0 / 2 ^ c.args.shift % 16) first.is ∙ sym c.slot-at.ensures.value in
    let front = run_front edits k first.result c.requires.some first.is in
    record {
      slot = c.slot-at.ensures.small;
      within = subst (InSlot (2 ^ c.args.shift) c.slot-at.result) (sym front) (at, c.run_length.ensures.all);
      some = omega arith;
      few = omega arith;
    }
