use Rattle.std.proofs.Common.{◌<◌, length, drop, sym, ◌∙◌, arith, length-drop}
use Rattle.std.proofs.lemmas.List.{take_rest}
use Rattle.script_read.proofs.LineLaws.{first_line, last_line}
use Rattle.script_read.proofs.lines.next_line.Goals as goal

pub returns-in-Some-clause-line : goal.returns-in-Some-clause-line
returns-in-Some-clause-line c =
    first_line c.args.input.now c.args.from c.in-Some.len (rw take_rest at (sym c.in-Some.is ∙ c.line_feed.ensures))

pub returns-in-None-clause-line : goal.returns-in-None-clause-line
returns-in-None-clause-line c =
    let left : 0 < length (drop c.args.from c.args.input.now) = simp length-drop (omega (arith, c.requires)) in
    last_line c.args.input.now c.args.from left (rw take_rest at (sym c.in-None.is ∙ c.line_feed.ensures))
