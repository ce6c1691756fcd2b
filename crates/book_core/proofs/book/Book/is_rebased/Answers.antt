use Rattle.std.proofs.Common.{subst, ap, ◌∙◌}
use Rattle.version_core.specs.Laws.{AreSegments}
use Rattle.book_core.specs.Book.{IsBook}
use Rattle.book_core.proofs.Growing.{rebased_version}
use Rattle.book_core.proofs.book.Book.is_rebased.Goals as goal

-- src/refusal.rt
pub returns-clause-stands : goal.returns-clause-stands
returns-clause-stands c =
    rebased_version c.args.self.now (subst IsBook c.self.view_is c.self.invariant) c.deref.result.now
    (c.deref.ensures ∙ ap (λ b. b.version) c.self.view_is) c.profile.ensures.kept.some_side c.args.prepared.now c.requires.may
    c.change.ensures.within c.requires.apart

pub returns-clause-within : goal.returns-clause-within
returns-clause-within c =
    subst (λ p. AreSegments p.bound c.args.prepared.now.change.edits) c.requires.may.profile c.change.ensures.within
