use Rattle.std.proofs.Common.{refl, sym, subst, ◌∙◌, Contains, IsNone}
use Rattle.grid_core.specs.LiveList.{names}
use Rattle.bench_version.proofs.drawing.Drawing.insert.Goals as goal

pub prepare_insert_in-requires-clause-new : goal.prepare_insert_in-requires-clause-new
prepare_insert_in-requires-clause-new c =
    let new = c.in_ok-segment.ensures.missing.0 (subst IsNone (sym c.in-None.is) refl) in
    subst (λ v. Contains (names v.live) c.in-Ok.s.name → ⊥) (c.deref-2.ensures ∙ sym c.deref-in-None.ensures)
    (subst (λ n. Contains (names c.deref-2.result.now.live) n → ⊥) c.name.ensures.value new)
