use Rattle.std.proofs.Common.{subst}
use Rattle.book_core.specs.Commit.{InsertsNew}
use Rattle.book_core.proofs.Waiting.{may_commit_newest}
use Rattle.book_core.proofs.tests.may_wait.Goals as goal

pub returns : goal.returns
returns c = λ t. may_commit_newest c.args.book.now c.history.ensures.kept c.args.prepared.now c.requires
    (subst (λ h. InsertsNew h c.args.prepared.now.change) c.history.ensures.value (c.inserts_new.ensures t))
