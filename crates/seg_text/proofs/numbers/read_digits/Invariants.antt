use Rattle.std.proofs.Common.{◌≡◌, ◌+◌, ◌-◌, ◌*◌, ◌^◌, ◌<◌, true, take, fold}
use Rattle.std.specs.List.{list_all}
use Rattle.std.specs.Char.{is_ascii_digit}
use Rattle.seg_text.proofs.numbers.read_digits.Given as goal

abbrev pub invariant-loop-digit : goal.invariant-loop-digit
invariant-loop-digit l = record {
  value : l.value ≡ fold (λ n b. n * 10 + (b - 48)) 0 (take l.digit-index l.field);
  small : l.value < 10 ^ l.digit-index;
  digits : list_all is_ascii_digit (take l.digit-index l.field) ≡ true;
}
