use Rattle.std.proofs.Common.{rules, ◌≡◌, ◌∙◌, sym, subst, refl, arith, None, Some, ◌+◌, ◌*◌, w64, SFits, to_z-of_z}
use Rattle.hot_tile.specs.Frame.{TileFrame, key_in}
use Rattle.hot_tile.proofs.InTile.{beside, above_or_below, column_small, row_small, key_is}
use Rattle.hot_tile.proofs.frame.Frame.key_of.Goals as goal

pub returns-in_err-column : goal.returns-in_err-column
returns-in_err-column c =
    let x : SFits w64 c.args.h.x = search rules in
    let low : SFits w64 c.self.inside.lo.x = search rules in
    let wide : SFits w64 c.self.inside.side = search rules in
    let out = simp to_z-of_z at (c.in_err-column.ensures.none refl) in
    c.from_residual.ensures
    ∙ sym (subst (λ (f : TileFrame). key_in f c.args.h ≡ None) c.self.view_is
    (beside _ c.self.inside.lo c.self.inside.side c.self.invariant c.args.h out))

pub returns-in_err-row : goal.returns-in_err-row
returns-in_err-row c =
    let y : SFits w64 c.args.h.y = search rules in
    let low : SFits w64 c.self.inside.lo.y = search rules in
    let wide : SFits w64 c.self.inside.side = search rules in
    let out = simp to_z-of_z at (c.in_err-row.ensures.none refl) in
    c.from_residual-in_err-row.ensures
    ∙ sym (subst (λ (f : TileFrame). key_in f c.args.h ≡ None) c.self.view_is
    (above_or_below _ c.self.inside.lo c.self.inside.side c.self.invariant c.args.h out))

pub overflow_add-result : goal.overflow_add-result
overflow_add-result c =
    let x : SFits w64 c.args.h.x = search rules in
    let y : SFits w64 c.args.h.y = search rules in
    let left : SFits w64 c.self.inside.lo.x = search rules in
    let below : SFits w64 c.self.inside.lo.y = search rules in
    let wide : SFits w64 c.self.inside.side = search rules in
    let a = simp to_z-of_z at (c.in_ok-column.ensures.low refl) in
    let b = simp to_z-of_z at (c.in_ok-column.ensures.high refl) in
    let d = simp to_z-of_z at (c.in_ok-row.ensures.low refl) in
    let e = simp to_z-of_z at (c.in_ok-row.ensures.high refl) in
    let m = simp to_z-of_z at c.in_ok-column.ensures.value in
    let n = simp to_z-of_z at c.in_ok-row.ensures.value in
    let column = column_small _ c.self.inside.lo c.self.inside.side c.self.invariant c.args.h c.in_ok-column.column c.in_ok-row.row a b d e m n in
    let row = row_small _ c.self.inside.lo c.self.inside.side c.self.invariant c.args.h c.in_ok-column.column c.in_ok-row.row a b d e m n in
    omega (arith, column, row)

pub returns : goal.returns
returns c =
    let x : SFits w64 c.args.h.x = search rules in
    let y : SFits w64 c.args.h.y = search rules in
    let left : SFits w64 c.self.inside.lo.x = search rules in
    let below : SFits w64 c.self.inside.lo.y = search rules in
    let wide : SFits w64 c.self.inside.side = search rules in
    let a = simp to_z-of_z at (c.in_ok-column.ensures.low refl) in
    let b = simp to_z-of_z at (c.in_ok-column.ensures.high refl) in
    let d = simp to_z-of_z at (c.in_ok-row.ensures.low refl) in
    let e = simp to_z-of_z at (c.in_ok-row.ensures.high refl) in
    let m = simp to_z-of_z at c.in_ok-column.ensures.value in
    let n = simp to_z-of_z at c.in_ok-row.ensures.value in
    subst (λ (f : TileFrame). Some (65536 * c.in_ok-column.column + c.in_ok-row.row) ≡ key_in f c.args.h) c.self.view_is
    (key_is _ c.self.inside.lo c.self.inside.side c.self.invariant c.args.h c.in_ok-column.column c.in_ok-row.row a b d e m n)
