use Rattle.std.proofs.Common.{subst, sym, ap, ◌∙◌}
use Rattle.book_core.specs.Book.{IsBook}
use Rattle.version_core.specs.Looks.{Looks}
use Rattle.version_core.specs.Version.{VersionState}
use Rattle.session_core.proofs.Worlds.{first_world}
use Rattle.session_core.proofs.world.World.open.Goals as goal

-- src/world.rt
pub invariant_of-result : goal.invariant_of-result
invariant_of-result c =
    first_world c.new.result.looked.brand c.in_ok-book.book (subst IsBook c.drop.view_is c.drop.invariant) c.in_ok-book.ensures.history
    (ap (λ (l : Looks). l.brand) (c.new.ensures ∙ c.in_ok-book.ensures.looked) ∙ sym (ap (λ (v : VersionState). v.brand) c.in_ok-book.ensures.version))
    c.in_ok-first_seats.field-0.items c.in_ok-first_seats.ensures
