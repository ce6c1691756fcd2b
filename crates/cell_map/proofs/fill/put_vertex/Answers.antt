-- What the strip has is written back with one thing more.
use Rattle.std.proofs.Common.{rules, w64, SFits, to_z-of_z, subst, refl, IsSome}
use Rattle.std.proofs.lemmas.Result.{on_ok_weaker}
use Rattle.cell_map.specs.Strips.{with_vertex}
use Rattle.cell_map.proofs.Filling.{changed}
use Rattle.cell_map.proofs.fill.put_vertex.Goals as goal

pub returns-in-Some : goal.returns-in-Some
returns-in-Some c =
    let k : SFits w64 c.args.k = search rules in
    let written = c.get_mut.follows.holds c.push_vertex.new.self in
    let has = simp to_z-of_z at c.in-Some.ensures.value in
    let all = simp to_z-of_z at (written.3 (subst IsSome c.in-Some.ensures.value refl)).0 in
    on_ok_weaker c.push_vertex.result
    (λ pushed. changed (with_vertex c.args.h) c.args.k c.args.strips.now.entries
    (c.get_mut.follows.lender c.push_vertex.new.self).entries c.in-Some.strip.now c.push_vertex.new.self
    has pushed all)
    c.push_vertex.ensures
