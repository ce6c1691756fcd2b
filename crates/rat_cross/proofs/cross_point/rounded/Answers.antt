use Rattle.std.proofs.Common.{rules, ◌≡◌, pos, ◌^◌, ◌≤◌, ◌+ℤ◌, ◌*ℤ◌, unsigned_abs, w64, SFits}
use Rattle.std.proofs.Common.{to_z-of_z, arith, ap, sym, ◌∙◌, subst}
use Rattle.std.specs.Int.{int_div_euclid}
use mir.Syntax.{w128}
use Rattle.grid_core.specs.Crossing.{pixel_coordinate}
use Rattle.grid_core.proofs.Signed.{fits_by_size}
use Rattle.rat_cross.proofs.Bounds.{rounded_within}
use Rattle.rat_cross.proofs.cross_point.rounded.Goals as goal

-- the quotient with no trace of its bits
value : (c : goal.After-div_euclid-floor)
    → c.div_euclid-floor.result ≡ pixel_coordinate c.args.n c.args.d
value c =
    let n : SFits w128 c.args.n = search rules in
    let d : SFits w128 c.args.d = search rules in
    let above : SFits w128 c.doubled.result = search rules in
    let below : SFits w128 c.doubled-2.result = search rules in
    let total : SFits w128 c.sum.result = search rules in
    let a = simp to_z-of_z at c.doubled.ensures in
    let b = simp to_z-of_z at c.doubled-2.ensures in
    let s = simp to_z-of_z at c.sum.ensures in
    let e = simp to_z-of_z at c.div_euclid-floor.ensures in
    e ∙ ap (λ k. int_div_euclid k c.doubled-2.result) (s ∙ ap (λ k. k +ℤ c.args.d) a)
    ∙ ap (λ k. int_div_euclid (pos 2 *ℤ c.args.n +ℤ c.args.d) k) b

size : (c : goal.After-div_euclid-floor) → unsigned_abs c.div_euclid-floor.result ≤ 2 ^ 30
size c =
    subst (λ k. unsigned_abs k ≤ 2 ^ 30) (sym (value c))
    (rounded_within c.args.n c.args.d (2 ^ 30) c.requires.positive c.requires.within)

fits : (c : goal.After-div_euclid-floor) → SFits w64 c.div_euclid-floor.result
fits c = fits_by_size w64 c.div_euclid-floor.result (let h = size c in omega arith)

-- src/cross_point.rt:94:5
pub overflow_cast-result : goal.overflow_cast-result
overflow_cast-result c =
    let wide : SFits w128 c.div_euclid-floor.result = search rules in
    simp to_z-of_z (fits c)

-- src/cross_point.rt:86:1
pub returns : goal.returns
returns c =
    let wide : SFits w128 c.div_euclid-floor.result = search rules in
    let narrow = fits c in
    simp to_z-of_z (value c)
