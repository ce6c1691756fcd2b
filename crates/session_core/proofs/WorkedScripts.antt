-- The output of scripts that were worked by hand, computed from the definitions: first the lines of
-- the bytes, then the replies to them. Tiles have 256 by 256 pixels.
use Rattle.std.proofs.Common.{◌≡◌, refl, ap, ◌∙◌, ℕ}
use Rattle.std.specs.Prelude.{List, [], ◌∷◌, ◌++◌, flat_map, replicate, codes}
use Rattle.grid_core.specs.Segment.{Segment, segment_of}
use Rattle.grid_core.specs.Rounding.{crossing_pixels}
use Rattle.seg_text.specs.Fields.{fields_of}
use Rattle.seg_text.specs.Numbers.{digits_of, whole_of, editor_of, serial_of, name_of}
use Rattle.canon_write.specs.Text.{text_of}
use Rattle.script_read.specs.declared.command.Act.{Act}
use Rattle.script_read.specs.declared.command.Act.TheVariants.{Take, Insert, Commit as MakeCommit, Drop, Ask}
use Rattle.script_read.specs.declared.command.Query.TheVariants.{Show as AskShow}
use Rattle.script_read.specs.declared.line.Line.{Line}
use Rattle.script_read.specs.declared.line.Line.TheVariants.{Quiet, Order, Bad}
use Rattle.script_read.specs.declared.reply.Refusal.TheVariants.{Busy}
use Rattle.script_read.specs.declared.reply.Said.{Said}
use Rattle.script_read.specs.declared.reply.Said.TheVariants.{At, Ready, Refused, Nothing, Dropped, Commit, Show}
use Rattle.script_read.specs.Command.{alone, name_alone, point_of, points_of, points_alone, query_of, act_of}
use Rattle.script_read.specs.Lines.{NumberedLine, lines_of, without_return, command_from, line_from, line_of, script_of}
use Rattle.script_read.specs.Reply.{reply_text, bad_text}
use Rattle.session_core.specs.Machine.{start}
use Rattle.session_core.specs.Output.{texts, output}
use Rattle.session_core.proofs.RowNotation.{sizes, at, name, by, to}

-- line number n
abbrev line : ℕ → Line → NumberedLine
line n l = record { number = n; line = l }

-- the first editor's act
abbrev order : Act → Line
order act = Order (by 1 act)

-- the text of a reply to the first editor
abbrev told : Said → List ℕ
told said = reply_text (to 1 said)

-- texts, one after the other
abbrev joined : List (List ℕ) → List ℕ
joined ts = flat_map (λ t. t) ts

-- ---- one segment is inserted, committed and shown

abbrev simplest_script : List ℕ
simplest_script = codes "1 insert 0 0 10 0\n1 commit\n1 take\n1 show\n"

abbrev simplest_lines : List NumberedLine
simplest_lines =
    line 1 (order (Insert (at 0 0) (at 10 0)))
    ∷ line 2 (order MakeCommit)
    ∷ line 3 (order Take)
    ∷ line 4 (order (Ask AskShow))
    ∷ []

abbrev simplest_drawing : List Segment
simplest_drawing = segment_of (name 1 1) (at 0 0) (at 10 0) ∷ []

abbrev simplest_texts : List ℕ
simplest_texts =
    joined
    (told (Ready (name 1 1))
    ∷ told (Commit 1)
    ∷ told (At 1)
    ∷ told (Show (text_of 1 simplest_drawing))
    ∷ [])

simplest-lines : script_of simplest_script ≡ simplest_lines
unfolding lines_of line_of line_from fields_of without_return command_from editor_of digits_of act_of points_alone alone query_of points_of point_of whole_of
simplest-lines = refl

simplest-texts : texts sizes start simplest_lines ≡ simplest_texts
unfolding texts crossing_pixels
simplest-texts = refl

simplest : output sizes simplest_script ≡ simplest_texts
simplest = ap (texts sizes start) simplest-lines ∙ simplest-texts

-- ---- quiet lines, bad lines, blanks, a carriage return, and a last line without a line feed

abbrev lines_script : List ℕ
lines_script =
    codes "# a comment\n\n1 commit\n0 take\n65 take\n  1\tinsert 0 0 7 7 \r\n1 insert 1 1 2 2\n1 erase 1.1\n1 drop\n1 take"
    ++ replicate 4091 32
    ++ codes "\n1 insert 0 0 +1 0\n1 route 1.0\n1 drop"

abbrev lines_lines : List NumberedLine
lines_lines =
    line 1 Quiet
    ∷ line 2 Quiet
    ∷ line 3 (order MakeCommit)
    ∷ line 4 Bad
    ∷ line 5 Bad
    ∷ line 6 (order (Insert (at 0 0) (at 7 7)))
    ∷ line 7 (order (Insert (at 1 1) (at 2 2)))
    ∷ line 8 Bad
    ∷ line 9 (order Drop)
    ∷ line 10 Bad
    ∷ line 11 Bad
    ∷ line 12 Bad
    ∷ line 13 (order Drop)
    ∷ []

abbrev lines_texts : List ℕ
lines_texts =
    joined
    (told Nothing
    ∷ bad_text 4
    ∷ bad_text 5
    ∷ told (Ready (name 1 1))
    ∷ told (Refused Busy)
    ∷ bad_text 8
    ∷ told Dropped
    ∷ bad_text 10
    ∷ bad_text 11
    ∷ bad_text 12
    ∷ told Nothing
    ∷ [])

lines-lines : script_of lines_script ≡ lines_lines
unfolding lines_of line_of line_from fields_of without_return command_from editor_of digits_of act_of points_alone alone query_of points_of point_of whole_of name_alone name_of serial_of
lines-lines = refl

lines-texts : texts sizes start lines_lines ≡ lines_texts
unfolding texts crossing_pixels
lines-texts = refl

lines : output sizes lines_script ≡ lines_texts
lines = ap (texts sizes start) lines-lines ∙ lines-texts
