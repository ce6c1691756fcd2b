-- The place of the scan, and the cell between its two edges.
use Rattle.std.proofs.Common.{◌∙◌, ap, sym}
use Rattle.grid_core.specs.declared.place.Place.{Place}
use Rattle.grid_core.specs.Places.{cell_among, cell_between}
use Rattle.place_test.specs.Nearest.{Around}
use Rattle.cell_map.specs.declared.found.Found.TheVariants.{Inside}
use Rattle.cell_map.specs.Found.{found_at}
use Rattle.cell_map.proofs.strip.find_among.Goals as goal

pub returns-in-Vertex : goal.returns-in-Vertex
returns-in-Vertex c =
    let vs = c.args.vertices.now in
    let es = c.args.edges.now in
    let at = c.args.at in
    ap (λ (p : Place). found_at p (cell_among 256 vs es at))
    (sym c.in-Vertex.is ∙ c.place.ensures vs es at c.scan-nearest.ensures)

pub returns-in-OnEdge : goal.returns-in-OnEdge
returns-in-OnEdge c =
    let vs = c.args.vertices.now in
    let es = c.args.edges.now in
    let at = c.args.at in
    ap (λ (p : Place). found_at p (cell_among 256 vs es at))
    (sym c.in-OnEdge.is ∙ c.place.ensures vs es at c.scan-nearest.ensures)

pub returns-in-Between : goal.returns-in-Between
returns-in-Between c =
    let vs = c.args.vertices.now in
    let es = c.args.edges.now in
    let at = c.args.at in
    let above = c.above.ensures.value ∙ ap (λ (w : Around). w.above) c.scan-nearest.ensures in
    let below = c.below.ensures.value ∙ ap (λ (w : Around). w.below) c.scan-nearest.ensures in
    ap Inside (c.cell.ensures ∙ (λ i. cell_between 256 vs at (above i) (below i)))
    ∙ ap (λ (p : Place). found_at p (cell_among 256 vs es at))
    (sym c.in-Between.is ∙ c.place.ensures vs es at c.scan-nearest.ensures)
