-- The edges of a planar graph don't cross, so that those of its strips don't.
use Rattle.cell_map.proofs.Arranging.{has_searchable_strips}
use Rattle.cell_map.proofs.laws.strips_are_searchable.Goals as goal

pub returns : goal.returns
returns c =
    let kept = c.edges-edges.ensures.kept in
    has_searchable_strips c.args.planar.now kept
    (record {
      ordered = kept.ordered;
      inside = c.lower_inside_comes_before.ensures;
      one = c.one_edge_has.ensures;
    })
