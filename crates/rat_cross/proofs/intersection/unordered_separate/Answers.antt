use Rattle.std.proofs.Common.{rules, w64, SFits, to_z-of_z, ◌∙◌}
use Rattle.rat_cross.specs.Apart.{separate_of}
use Rattle.rat_cross.proofs.intersection.unordered_separate.Goals as goal

pub returns : goal.returns
returns c =
    let a : SFits w64 c.args.a = search rules in
    let b : SFits w64 c.args.b = search rules in
    let r : SFits w64 c.args.c = search rules in
    let t : SFits w64 c.args.d = search rules in
    let lo : SFits w64 c.min.result = search rules in
    let hi : SFits w64 c.max.result = search rules in
    let below : SFits w64 c.min-2.result = search rules in
    let above : SFits w64 c.max-2.result = search rules in
    let e = simp to_z-of_z at c.min.ensures.value in
    let f = simp to_z-of_z at c.max.ensures.value in
    let g = simp to_z-of_z at c.min-2.ensures.value in
    let h = simp to_z-of_z at c.max-2.ensures.value in
    let whole = simp to_z-of_z at c.separate.ensures in
    whole ∙ (λ i. separate_of (e i) (f i) (g i) (h i))
