-- What an editor has room for, and the words for the bounds of a drawing.
use Rattle.std.specs.Prelude.{ℕ}
use Rattle.script_read.specs.declared.reply.FullText.{FullText}
use Rattle.script_read.specs.declared.reply.FullText.TheVariants.{Commits as CommitsFull, Segments as SegmentsFull, Spans as SpansFull, Passes as PassesFull}
use Rattle.book_core.specs.declared.refusal.FullOf.{FullOf}
use Rattle.book_core.specs.declared.refusal.FullOf.TheVariants.{Commits, Segments, Spans, Passes}

-- an editor is given at most so many serials: 65,535
abbrev pub most_serials : ℕ
most_serials = 65535

-- what is full, as it is said
abbrev pub full_text : FullOf → FullText
full_text Commits = CommitsFull
full_text Segments = SegmentsFull
full_text Spans = SpansFull
full_text Passes = PassesFull
