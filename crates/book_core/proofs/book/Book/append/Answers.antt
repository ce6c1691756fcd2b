use Rattle.std.proofs.Common.{rules, subst, ◌≡◌, ◌++◌, ◌∷◌, []}
use Rattle.std.specs.Arc.{arc_value}
use Rattle.version_core.specs.Version.{IsNext}
use Rattle.book_core.specs.Book.{IsBook}
use Rattle.book_core.proofs.Growing.{took_prepared}
use Rattle.book_core.proofs.book.Book.append.Goals as goal
use Rattle.book_core.proofs.book.Book.append.Goals.{After-push}

-- the book with the change is one
grown : (c : After-push) → IsBook (record { history = c.push.new.self.items; version = arc_value c.renew.new.version })
grown c =
    let pushed : c.push.new.self.items ≡ c.args.self.now.history ++ c.args.prepared.change ∷ [] = search rules in
    let next : IsNext c.args.self.now.version c.args.prepared.change (arc_value c.renew.new.version) = search rules in
    took_prepared c.args.self.now (subst IsBook c.self.view_is c.self.invariant) c.args.prepared c.requires.may c.requires.unrefused
    c.is_rebased.ensures.stands c.is_rebased.ensures.within c.push.new.self.items (arc_value c.renew.new.version) pushed next

-- src/commit.rt
pub invariant_of-self-2 : goal.invariant_of-self-2
invariant_of-self-2 c = grown (goal.at.invariant_of-self-2 c).After-push

pub returns-clause-kept : goal.returns-clause-kept
returns-clause-kept c = grown (goal.at.returns-clause-kept c).After-push
