use Rattle.std.proofs.Common.{take, Contains}
use Rattle.std.specs.Prelude.{All}
use Rattle.version_core.specs.Edits.{inserted_names}
use Rattle.book_core.proofs.tests.is_given.Given as goal

abbrev pub invariant-loop-change : goal.invariant-loop-change
invariant-loop-change l = All (λ x. ¬ Contains (inserted_names x.edits) l.name) (take l.change-index l.history)
