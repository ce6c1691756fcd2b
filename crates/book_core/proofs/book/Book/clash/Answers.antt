use Rattle.std.proofs.Common.{subst, ap, ◌∙◌}
use Rattle.book_core.specs.Book.{IsBook}
use Rattle.book_core.proofs.Refusals.{clash_told}
use Rattle.book_core.proofs.book.Book.clash.Goals as goal

-- src/refusal.rt
pub returns : goal.returns
returns c =
    clash_told c.args.self.now (subst IsBook c.self.view_is c.self.invariant) c.args.prepared.now c.requires.may.profile
    c.deref.result.now (c.deref.ensures ∙ ap (λ b. b.version) c.self.view_is) c.tiles.result.now c.tiles.ensures
    c.base.result c.base.ensures c.last_touched.result c.last_touched.ensures
