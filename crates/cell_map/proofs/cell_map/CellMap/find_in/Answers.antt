use Rattle.std.proofs.Common.{rules, w64, SFits, to_z-of_z, ◌∙◌, ap}
use Rattle.std.specs.Prelude.{Option, unwrap_or}
use Rattle.planar_law.specs.PlanarEdges.{Graph}
use Rattle.cell_map.specs.Strips.{Strips, strip_in, empty_strip}
use Rattle.cell_map.specs.Found.{found_among}
use Rattle.cell_map.proofs.cell_map.CellMap.find_in.Goals as goal

pub returns-in-Some : goal.returns-in-Some
returns-in-Some c =
    let k : SFits w64 c.args.k = search rules in
    let has = simp to_z-of_z at c.in-Some.ensures.value in
    c.find.ensures
    ∙ ap (λ (s : Graph). found_among s.vertices s.edges c.args.at)
    (ap (λ (o : Option Graph). unwrap_or o empty_strip) has
    ∙ ap (λ (m : Strips). strip_in m c.args.k) c.self.view_is)

pub returns-in-None : goal.returns-in-None
returns-in-None c =
    let k : SFits w64 c.args.k = search rules in
    let has = simp to_z-of_z at c.in-None.ensures.value in
    c.find_among.ensures
    ∙ ap (λ (s : Graph). found_among s.vertices s.edges c.args.at)
    (ap (λ (o : Option Graph). unwrap_or o empty_strip) has
    ∙ ap (λ (m : Strips). strip_in m c.args.k) c.self.view_is)
