use Rattle.std.proofs.Common.{◌≡◌, ◌∙◌, rules, true, false, w64, SFits, to_z-of_z}
use Rattle.std.specs.Prelude.{pos}
use Rattle.std.specs.Int.{int_div_euclid}
use Rattle.std.specs.List.Sorted.{IsPartitionPoint}
use Rattle.std.proofs.lemmas.List.Sorted.{IsPartitionPoint-from_clause}
use Rattle.grid_core.specs.declared.point.Point.{Point}
use Rattle.grid_core.specs.Edge.{EdgeEnds}
use Rattle.edge_search.proofs.VerticalEdges.{starts_by, starts_parted, last_has, last_of}
use Rattle.edge_search.proofs.verticals.vertical_near.Goals as goal
use Rattle.edge_search.proofs.verticals.vertical_near.Goals.{After-copied}

abbrev pixel : After-copied → Point
pixel c = record { x = c.floor-x.result; y = c.floor-y.result }

divided : (c : After-copied)
    → IsPartitionPoint (λ (e : EdgeEnds). starts_by (pixel c) e ≡ true) (λ (e : EdgeEnds). starts_by (pixel c) e ≡ false)
    c.args.verticals.now c.partition_point-index.result
divided c =
    let fits_x : SFits w64 c.floor-x.result = search rules in
    let fits_y : SFits w64 c.floor-y.result = search rules in
    IsPartitionPoint-from_clause (starts_by (pixel c)) c.args.verticals.now c.partition_point-index.result
    c.partition_point-index.ensures.partitioned (starts_parted c.args.verticals.now c.requires.vertical.order (pixel c))
    (λ a r f' k. search rules)

pub returns-clause-found : goal.returns-clause-found
returns-clause-found c = λ e h on.
    let fits_x : SFits w64 c.args.at.x = search rules in
    let fits_y : SFits w64 c.args.at.y = search rules in
    let x : c.floor-x.result ≡ int_div_euclid c.args.at.x (pos 256) = simp to_z-of_z at c.floor-x.ensures in
    let y : c.floor-y.result ≡ int_div_euclid c.args.at.y (pos 256) = simp to_z-of_z at c.floor-y.ensures in
    let vs = c.args.verticals.now in
    let i = c.partition_point-index.result in
    let within = c.partition_point-index.ensures.bound in
    let last = last_has c.requires.vertical c.requires.apart c.requires.at_no_end (pixel c) x y i within (divided c) e h on in
    c.copied.ensures ∙ c.last.ensures.value ∙ last_of vs i e within last.0 last.1
