use Rattle.book_core.proofs.Apart.{old_bases_are_taken}
use Rattle.book_core.proofs.laws.old_bases_are_taken.Goals as goal

pub returns : goal.returns
returns c = old_bases_are_taken
