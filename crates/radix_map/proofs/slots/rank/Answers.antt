use Rattle.std.proofs.Common.{◌+◌, ◌-◌, ◌≤◌, ap, sym, ◌∙◌, subst, bit_and, count_ones}
use Rattle.std.proofs.lemmas.Nat.{and_mask, one_shl}
use Rattle.std.specs.Int.{bit_at}
use Rattle.radix_map.specs.Slots.{taken}
use Rattle.radix_map.proofs.Digits.{taken_ones, room, taken-le}
use Rattle.radix_map.proofs.slots.rank.Goals as goal

pub returns : goal.returns
returns c =
    let b = c.args.digits in
    let i = c.args.at in
    let value = ap (λ m. count_ones (bit_and b (m - 1))) (one_shl i 16 c.requires) ∙ ap count_ones (and_mask b i) ∙ taken_ones i b in
    record {
      value = value;
      within = subst (λ k. k + bit_at b i ≤ taken 16 b) (sym value) (room 16 i b c.requires);
      small = taken-le 16 b;
    }
