-- The place of the search, and the cell between its two edges.
use Rattle.std.proofs.Common.{◌∙◌, ap, sym, subst}
use Rattle.std.specs.Prelude.{ℤ}
use Rattle.cell_map.specs.Arranged.{EndsAreVertices}
use Rattle.cell_map.specs.declared.found.Found.TheVariants.{Inside}
use Rattle.cell_map.proofs.Searching.{none_ends, found_as_place, found_inside}
use Rattle.cell_map.proofs.arranged.search_place.Goals as goal

pub place-requires-clause-at_no_end : goal.place-requires-clause-at_no_end
place-requires-clause-at_no_end c =
    none_ends c.args.vertices.now c.args.at c.requires.off_vertices c.args.search.now.edges
    (subst (λ (k : ℤ). EndsAreVertices k (record { edges = c.args.search.now.edges; vertices = c.args.vertices.now }))
    (sym c.requires.strip) c.requires.arranged.ends)

pub cell_in_order-requires-clause-above_within : goal.cell_in_order-requires-clause-above_within
cell_in_order-requires-clause-above_within c =
    (c.place.ensures.within c.in-Between.above c.in-Between.below c.in-Between.is).0

pub cell_in_order-requires-clause-below_within : goal.cell_in_order-requires-clause-below_within
cell_in_order-requires-clause-below_within c =
    (c.place.ensures.within c.in-Between.above c.in-Between.below c.in-Between.is).1

pub returns-in-Vertex : goal.returns-in-Vertex
returns-in-Vertex c =
    found_as_place c.args.vertices.now c.args.at c.requires.off_vertices c.args.search.now.edges _
    (sym c.in-Vertex.is ∙ c.place.ensures.value)

pub returns-in-OnEdge : goal.returns-in-OnEdge
returns-in-OnEdge c =
    found_as_place c.args.vertices.now c.args.at c.requires.off_vertices c.args.search.now.edges _
    (sym c.in-OnEdge.is ∙ c.place.ensures.value)

pub returns-in-Between : goal.returns-in-Between
returns-in-Between c =
    ap Inside c.cell_in_order.ensures
    ∙ found_inside c.args.vertices.now c.args.at c.requires.off_vertices c.args.search.now.edges
    c.in-Between.above c.in-Between.below (sym c.in-Between.is ∙ c.place.ensures.value)
