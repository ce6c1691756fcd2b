use Rattle.std.proofs.Common.{refl}
use Rattle.std.proofs.lemmas.List.Elements.{All-same, All-push}
use Rattle.book_core.specs.Commit.{MayCommit}
use Rattle.book_core.proofs.tests.with.Goals as goal

pub invariant_of-result : goal.invariant_of-result
invariant_of-result g c = (
  c.requires.brand,
  All-same (MayCommit c.args.book) c.push.new.self.items _ c.in_ok-push.ensures.items
      (All-push (MayCommit c.args.book) c.args.waiting.items c.args.prepared c.requires.waiting (c.if-not-may_wait.ensures refl)),
)
