use Rattle.book_core.proofs.Apart.{newest_is_never_stale}
use Rattle.book_core.proofs.laws.newest_is_never_stale.Goals as goal

pub returns : goal.returns
returns c = newest_is_never_stale
