use Rattle.std.proofs.Common.{rules, ◌≡◌, ◌≤◌, ◌^◌, unsigned_abs, w64, SFits, to_z-of_z, arith, ap, sym, ◌∙◌, subst}
use Rattle.std.specs.Prelude.{ℤ}
use mir.Syntax.{w128}
use Rattle.grid_core.proofs.Signed.{fits_by_size}
use Rattle.grid_core.specs.Crossing.{pixel_coordinate}
use Rattle.rat_cross.proofs.Bounds.{narrow_sizes}
use Rattle.rat_cross.proofs.cross_point.narrow_pixel.Goals as goal

-- a number of the point, by the name that its call gives it
fits : (n m : ℤ) → unsigned_abs m ≤ 2 ^ 61 → n ≡ m → SFits w64 n
fits n m h e = fits_by_size w64 n (let k : unsigned_abs n ≤ 2 ^ 61 = subst (λ z. unsigned_abs z ≤ 2 ^ 61) (sym e) h in omega arith)

pub returns : goal.returns
returns c =
    let s = narrow_sizes c.args.c.now c.requires in
    let wide_den : SFits w128 c.den-den.result = search rules in
    let wide_x : SFits w128 c.num_x.result = search rules in
    let wide_y : SFits w128 c.num_y.result = search rules in
    let den = fits c.den-den.result c.args.c.now.den s.den c.den-den.ensures.value in
    let x = fits c.num_x.result c.args.c.now.num_x s.x c.num_x.ensures.value in
    let y = fits c.num_y.result c.args.c.now.num_y s.y c.num_y.ensures.value in
    let left : SFits w64 c.narrow_rounded-x.result = search rules in
    let right : SFits w64 c.narrow_rounded-y.result = search rules in
    let e = simp to_z-of_z at c.narrow_rounded-x.ensures in
    let f = simp to_z-of_z at c.narrow_rounded-y.ensures in
    simp to_z-of_z
    (λ i. record {
      x = (e ∙ ap (λ n. pixel_coordinate n c.den-den.result) c.num_x.ensures.value
          ∙ ap (λ d. pixel_coordinate c.args.c.now.num_x d) c.den-den.ensures.value) i;
      y = (f ∙ ap (λ n. pixel_coordinate n c.den-den.result) c.num_y.ensures.value
          ∙ ap (λ d. pixel_coordinate c.args.c.now.num_y d) c.den-den.ensures.value) i;
    })
