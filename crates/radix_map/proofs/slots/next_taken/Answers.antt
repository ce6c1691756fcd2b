use Rattle.std.proofs.Common.{◌+◌, ◌/◌, ◌^◌, ap, sym, ◌∙◌, subst}
use Rattle.std.specs.Int.{trailing_zeros}
use mir.Syntax.{w32}
use Rattle.radix_map.specs.Slots.{IsNextDigit}
use Rattle.radix_map.proofs.Digits.{next_digit}
use Rattle.radix_map.proofs.slots.next_taken.Goals as goal

pub returns-else-higher-eq0-clause-some : goal.returns-else-higher-eq0-clause-some
returns-else-higher-eq0-clause-some c =
    subst (λ r. IsNextDigit c.args.digits c.args.at (c.args.at + trailing_zeros w32 (r / 2 ^ c.args.at))) (sym c.from.ensures) (next_digit c.args.digits c.args.at c.ranges.digits.fits (λ z. c.if-higher-eq0.false (ap (λ r. r / 2 ^ c.args.at) c.from.ensures ∙ z)))
