use Rattle.std.proofs.Common.{subst, sym, Contains}
use Rattle.grid_core.specs.LiveList.{names}
use Rattle.book_core.proofs.tests.Desk.inserting.Goals as goal

pub prepare_insert-requires-clause-new : goal.prepare_insert-requires-clause-new
prepare_insert-requires-clause-new g c =
    subst (λ n. ¬ Contains (names c.newest-base.result.now.live) n) c.name.ensures.value
    (c.in_ok-segment.ensures.missing.0 (sym c.if-is_some.ensures))
