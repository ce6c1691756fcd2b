-- The output of a script: the texts of the replies to its lines, in order.
use Rattle.std.specs.Prelude.{ℕ, Bool, true, false, List, [], ◌∷◌, ◌++◌}
use Rattle.std.specs.List.{list_any}
use Rattle.grid_core.specs.Profile.{Sizes}
use Rattle.script_read.specs.declared.line.Line.{Line}
use Rattle.script_read.specs.declared.line.Line.TheVariants.{Quiet, Order, Bad}
use Rattle.script_read.specs.Lines.{NumberedLine, script_of}
use Rattle.script_read.specs.Reply.{reply_text, bad_text}
use Rattle.session_core.specs.Machine.{State, start}
use Rattle.session_core.specs.Step.{step}

-- the state after a line; one that is quiet or bad changes nothing
abbrev pub after_line : Sizes → State → Line → State
after_line pr st (Order command) = (step pr st command).0
after_line pr st _ = st

-- the text that answers line number n: none where it is quiet
abbrev pub line_text : Sizes → State → ℕ → Line → List ℕ
line_text pr st n Quiet = []
line_text pr st n Bad = bad_text n
line_text pr st n (Order command) = reply_text (step pr st command).1

-- the texts that answer lines, one after the other
unfoldable pub texts : Sizes → State → List NumberedLine → List ℕ
texts pr st [] = []
texts pr st (l ∷ ls) = line_text pr st l.number l.line ++ texts pr (after_line pr st l.line) ls

-- the output that a script owes: the texts that answer its lines, from the start on
abbrev pub output : Sizes → List ℕ → List ℕ
output pr bytes = texts pr start (script_of bytes)

-- the line is bad
abbrev pub is_bad : Line → Bool
is_bad Bad = true
is_bad _ = false

-- whether a script has a bad line
abbrev pub has_bad_line : List ℕ → Bool
has_bad_line bytes = list_any (λ l. is_bad l.line) (script_of bytes)
