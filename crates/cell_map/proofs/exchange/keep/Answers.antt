use Rattle.std.proofs.Common.{rules, w64, SFits, to_z-of_z, subst, refl, IsSome}
use Rattle.cell_map.proofs.exchange.keep.Goals as goal

pub returns-in-Some-clause-kept : goal.returns-in-Some-clause-kept
returns-in-Some-clause-kept c =
    let k : SFits w64 c.args.k = search rules in
    let has = simp to_z-of_z at c.in-Some.ensures.value in
    subst IsSome has refl
