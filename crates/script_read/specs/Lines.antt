-- Scripts: an input is a list of lines, and each line is quiet, bad, or one command.
use Rattle.std.specs.Prelude.{ℕ, ◌+◌, ◌-◌, ◌<◌, ◌≤◌, Bool, false, nat_lt, ◌==◌, List, [], ◌∷◌, length, take, slice_index, if◌then◌else◌, Option, Some, None, option_map, option_and_then}
use Rattle.std.specs.List.{onto_first}
use Rattle.seg_text.specs.Fields.{fields_of}
use Rattle.seg_text.specs.Numbers.{editor_of}
use Rattle.script_read.specs.Command.{act_of, served, IsFair}
use Rattle.script_read.specs.declared.command.Command.{Command}
use Rattle.script_read.specs.declared.line.Line.{Line}
use Rattle.script_read.specs.declared.line.Line.TheVariants.{Quiet, Order, Bad}

-- the lines of an input: a line feed (10) ends each; what follows the last is a line unless it is
-- empty
unfoldable pub lines_of : List ℕ → List (List ℕ)
lines_of [] = []
lines_of (b ∷ bs) = if b == 10 then [] ∷ lines_of bs else onto_first b (lines_of bs)

-- a line of the input from `from` to `end`, and `next`, where the line behind it begins
pub record IsLineSpan (input : List ℕ) (from end next : ℕ) : Type 0 where
  pub after : from ≤ end
  pub more : from < next
  pub behind : end ≤ next
  pub within : next ≤ length input

-- a line but for the carriage return (13) at its end, where it has one
unfoldable pub without_return : List ℕ → List ℕ
without_return line =
    if slice_index line (length line - 1) == 13 then take (length line - 1) line else line

-- the field begins with `#` (35)
abbrev pub is_comment : List ℕ → Bool
is_comment [] = false
is_comment (b ∷ bs) = b == 35

-- the command of an editor, a verb and the fields behind it
unfoldable pub command_from : List ℕ → List (List ℕ) → Option Command
command_from editor [] = None
command_from editor (verb ∷ fields) =
    option_and_then
    (λ e. option_map
    (λ act. record { editor = e; act = act })
    (option_and_then served (act_of verb fields)))
    (editor_of editor)

-- what a line is by its fields: quiet where there are none or the first begins with `#`
unfoldable pub line_from : List (List ℕ) → Line
line_from [] = Quiet
line_from (first ∷ further) =
    if is_comment first then Quiet
    else elim (command_from first further) [ None ↦ Bad | Some command ↦ Order command ]

-- what a line is: bad where it is longer than 4,096 bytes, else by its fields
unfoldable pub line_of : List ℕ → Line
line_of line =
    if nat_lt 4096 (length line) then Bad else line_from (fields_of (without_return line))

-- a line of a script, and its number
pub record NumberedLine : Type 0 where
  pub number : ℕ
  pub line : Line

-- the lines, numbered from n on
abbrev pub numbered_from : ℕ → List (List ℕ) → List NumberedLine
numbered_from n [] = []
numbered_from n (line ∷ lines) =
    record { number = n; line = line_of line } ∷ numbered_from (n + 1) lines

-- the lines of a script, numbered from 1
abbrev pub script_of : List ℕ → List NumberedLine
script_of bytes = numbered_from 1 (lines_of bytes)

-- the command of the line, if it has one, is fair
unfoldable pub IsFairLine : Line → Type 0
IsFairLine (Order command) = IsFair command
IsFairLine _ = Unit {0}
