use Rattle.std.proofs.Common.{rules, ◌≡◌, ◌*◌, pos, ◌+ℤ◌, ◌-ℤ◌, ◌*ℤ◌, ◌≤◌, ◌^◌, unsigned_abs, w64, SFits}
use Rattle.std.proofs.Common.{to_z-of_z, arith, ap, ap₂, sym, ◌∙◌, subst}
use mir.Syntax.{w128}
use Rattle.grid_core.proofs.Ring.{int_mul_comm}
use Rattle.grid_core.proofs.Signed.{signed}
use Rattle.grid_core.proofs.Sizes.{between_within}
use Rattle.rat_cross.proofs.intersection.along.Goals as goal

-- the value with no trace of its bits
value : (c : goal.After-sum)
    → c.sum.result ≡ c.args.p *ℤ pos c.args.den +ℤ pos c.args.u *ℤ (c.args.q -ℤ c.args.p)
value c =
    let p : SFits w64 c.args.p = search rules in
    let q : SFits w64 c.args.q = search rules in
    let off : SFits w64 c.offset.result = search rules in
    let first : SFits w128 c.scaled.result = search rules in
    let second : SFits w128 c.scaled-2.result = search rules in
    let w = simp to_z-of_z at c.offset.ensures in
    let a = simp to_z-of_z at c.scaled.ensures.value in
    let b = simp to_z-of_z at c.scaled-2.ensures.value in
    let s = simp to_z-of_z at c.sum.ensures in
    s ∙ ap₂ (λ m n. m +ℤ n) (a ∙ int_mul_comm (pos c.args.den) c.args.p) (b ∙ ap (λ m. pos c.args.u *ℤ m) w)

pub returns-clause-value : goal.returns-clause-value
returns-clause-value c =
    let r : SFits w128 c.sum.result = search rules in
    simp to_z-of_z (value c)

pub returns-clause-within : goal.returns-clause-within
returns-clause-within c =
    let r : SFits w128 c.sum.result = search rules in
    let size =
    between_within c.args.p c.args.q (pos c.args.u) (pos c.args.den)
    (2 ^ 30) c.requires.from c.requires.to (omega (arith, signed)) (omega (arith, signed, c.requires.part)) in
    simp to_z-of_z
    (subst (λ m. unsigned_abs m ≤ 2 ^ 30 * c.args.den) (sym (value c)) size)
