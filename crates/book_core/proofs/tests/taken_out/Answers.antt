use Rattle.std.proofs.Common.{rules, ◌<◌, length, subst, sym}
use Rattle.std.proofs.lemmas.List.Elements.{All-same}
use Rattle.book_core.specs.Commit.{MayCommit}
use Rattle.book_core.proofs.Waiting.{all_without}
use Rattle.book_core.proofs.tests.taken_out.Goals as goal

pub returns-then-editor-clause-own : goal.returns-then-editor-clause-own
returns-then-editor-clause-own c =
    let fits : c.loop-i.i < length c.loop-i.waiting.items = search rules in
    subst (MayCommit c.args.book.now) (sym c.remove.ensures.value) (c.loop-i.invariant c.loop-i.i c.remove.result fits)

pub returns-then-editor-clause-others : goal.returns-then-editor-clause-others
returns-then-editor-clause-others c =
    All-same (MayCommit c.args.book.now) c.remove.new.self.items _ c.remove.ensures.items
    (all_without (MayCommit c.args.book.now) c.loop-i.waiting.items c.loop-i.i c.loop-i.invariant)
