-- The strips from that of the lesser end to that of the greater are those that the edge meets.
use Rattle.std.proofs.Common.{◌≡◌, ◌∙◌, ap, rules, w64, SFits, to_z-of_z, subst, ◌&&◌}
use Rattle.std.specs.Prelude.{ℤ, int_le, OnOk}
use Rattle.grid_core.specs.declared.point.Point.{Point}
use Rattle.cell_map.specs.Strips.{ChangesWhere, strip_at, with_edge}
use Rattle.cell_map.proofs.fill.add_edge.Goals as goal

pub returns : goal.returns
returns c =
    let e = c.args.e.now in
    let ax : SFits w64 c.a.result.x = search rules in
    let bx : SFits w64 c.b.result.x = search rules in
    let first-fits : SFits w64 c.strip_at.result = search rules in
    let last-fits : SFits w64 c.strip_at-2.result = search rules in
    let of_a = simp to_z-of_z at c.strip_at.ensures.value in
    let of_b = simp to_z-of_z at c.strip_at-2.ensures.value in
    let first : c.strip_at.result ≡ strip_at e.a.x = of_a ∙ ap (λ (p : Point). strip_at p.x) c.a.ensures.value in
    let last : c.strip_at-2.result ≡ strip_at e.b.x = of_b ∙ ap (λ (p : Point). strip_at p.x) c.b.ensures.value in
    let pieces = simp to_z-of_z at c.add_pieces.ensures in
    subst (λ (w : ℤ × ℤ). OnOk c.add_pieces.result
    (ChangesWhere (λ k. int_le w.0 k && int_le k w.1) (with_edge e)
    c.args.strips.now.entries c.add_pieces.new.strips.entries))
    (λ i. (first i, last i)) pieces
