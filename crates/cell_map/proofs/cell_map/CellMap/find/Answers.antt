-- What lies in the point's strip tells where it lies among all.
use Rattle.std.proofs.Common.{◌≡◌, ◌∙◌, ap, rules, w64, SFits, to_z-of_z}
use Rattle.std.specs.Prelude.{ℤ}
use Rattle.grid_core.specs.Places.{strip_of}
use Rattle.planar_law.specs.PlanarEdges.{Graph}
use Rattle.cell_map.specs.Strips.{strip_in}
use Rattle.cell_map.specs.Found.{found_among}
use Rattle.cell_map.proofs.StripOfPoint.{found_in_strip}
use Rattle.cell_map.proofs.cell_map.CellMap.find.Goals as goal
use Rattle.cell_map.proofs.cell_map.CellMap.find.Goals.{After-find_in}

value : (c : After-find_in) → c.find_in.result
    ≡ found_among (strip_in c.args.self.now (strip_of 256 c.args.at)).vertices
    (strip_in c.args.self.now (strip_of 256 c.args.at)).edges c.args.at
value c =
    let k : SFits w64 c.strip_of.result = search rules in
    let number : c.strip_of.result ≡ strip_of 256 c.args.at = search rules in
    let here = simp to_z-of_z at c.find_in.ensures in
    here
    ∙ ap (λ (k : ℤ). found_among (strip_in c.args.self.now k).vertices (strip_in c.args.self.now k).edges c.args.at) number

pub returns-clause-value : goal.returns-clause-value
returns-clause-value c = value c

pub returns-clause-place : goal.returns-clause-place
returns-clause-place c = λ g ordered same.
    value c
    ∙ ap (λ (s : Graph). found_among s.vertices s.edges c.args.at) same
    ∙ found_in_strip g c.args.at ordered
