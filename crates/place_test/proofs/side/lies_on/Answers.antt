use Rattle.std.proofs.Common.{◌≡◌, refl, sym, ◌∙◌, Bool, true, false, ◌&&◌}
use Rattle.std.specs.Prelude.{pos}
use Rattle.std.specs.Ordering.{int_eq}
use Rattle.grid_core.specs.Places.{query_point, side_of_edge, is_between}
use Rattle.place_test.proofs.side.lies_on.Goals as goal

-- the order of the tests doesn't matter
in_box : (s x y : Bool) → (x && y) ≡ true → s ≡ ((s && x) && y)
in_box true x y e = sym e
in_box false x y e = refl

out_of_box : (s x y : Bool) → (x && y) ≡ false → false ≡ ((s && x) && y)
out_of_box true x y e = sym e
out_of_box false x y e = refl

pub returns-then-is_in_box : goal.returns-then-is_in_box
returns-then-is_in_box c =
    c.is_in_line.ensures ∙ in_box _ _ _ (sym c.is_in_box.ensures ∙ c.if-is_in_box.true)

pub returns-else-is_in_box : goal.returns-else-is_in_box
returns-else-is_in_box c =
    let e = c.args.e.now in
    let at = c.args.at in
    c.if-is_in_box.false
    ∙ out_of_box (int_eq (side_of_edge e at) (pos 0))
    (is_between (query_point e.a).x (query_point e.b).x at.x)
    (is_between (query_point e.a).y (query_point e.b).y at.y)
    (sym c.is_in_box.ensures ∙ c.if-is_in_box.false)
