use Rattle.std.proofs.Common.{◌%◌, ◌*◌, ◌-◌, ◌^◌, sym, subst, bit_or, bit_and}
use Rattle.std.specs.Int.{bit_at}
use Rattle.radix_map.specs.Slots.{Replaces, digit_of}
use Rattle.radix_map.proofs.Digits.{Replaces-set, Replaces-cleared}
use Rattle.radix_map.proofs.slots.marked.Goals as goal

pub returns-then-is_taken : goal.returns-then-is_taken
returns-then-is_taken c =
    let b = c.args.digits in
    let i = c.args.at in
    subst (λ t. Replaces i (bit_at b i) (digit_of t) b (bit_or b (1 * 2 ^ i % 65536))) (sym c.if-is_taken.true) (Replaces-set i b c.requires)

pub returns-else-is_taken : goal.returns-else-is_taken
returns-else-is_taken c =
    let b = c.args.digits in
    let i = c.args.at in
    subst (λ t. Replaces i (bit_at b i) (digit_of t) b (bit_and b (65535 - 1 * 2 ^ i % 65536))) (sym c.if-is_taken.false) (Replaces-cleared i b c.requires c.ranges.digits.fits)
