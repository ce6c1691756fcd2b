use Rattle.std.proofs.Common.{◌≡◌, ◌+◌, Some, drop, sym, ◌∙◌}
use Rattle.std.proofs.lemmas.List.{take_rest}
use Rattle.seg_text.specs.Numbers.{serial_of}
use Rattle.seg_text.proofs.DigitLaws.{name_is, name_found}
use Rattle.seg_text.proofs.numbers.name.Goals as goal

pub returns : goal.returns
returns c =
    let known = c.in_ok-editor.ensures.known in
    let stop = sym c.in_ok-stop.was ∙ c.full_stop.ensures in
    let serial : Some c.in_ok-serial.serial ≡ serial_of (drop (c.in_ok-stop.stop + 1) c.args.field.now) = rw take_rest at c.in_ok-serial.ensures.value in
    name_is _ _ _ c.new.ensures.none c.new.ensures.value known.0 known.1 c.in_ok-serial.ensures.some
    ∙ name_found _ _ _ _ stop c.in_ok-editor.ensures.value serial
