use Rattle.std.proofs.Common.{◌∙◌}
use Rattle.face_trace.proofs.HalfEdgeLists.{told_apart, numbered_more, edges_more}
use Rattle.face_trace.proofs.half_edges.numbered.Goals as goal

pub loop-edge-preserved : goal.loop-edge-preserved
loop-edge-preserved c =
    record {
      keys = numbered_more _ told_apart c.args.edges.now c.loop-edge.edge-index c.edge-item.result
          c.loop-edge-test.true c.edge-item.is c.requires.rising c.loop-edge.invariant.edges c.a.ensures.kept
          c.loop-edge.halves.keys c.insert.new.self.keys c.insert-in-loop-edge.new.self.keys
          c.between.result c.between-in-loop-edge.result c.loop-edge.invariant.keys
          (c.between.ensures ∙ (λ j. record { origin = c.a.ensures.value j; target = c.b.ensures.value j }))
          (c.between-in-loop-edge.ensures
          ∙ (λ j. record { origin = c.b-in-loop-edge.ensures.value j; target = c.a-in-loop-edge.ensures.value j }))
          c.in_ok-insert.ensures.keys c.in_ok-insert-2.ensures.keys;
      edges = edges_more _ _ _ c.loop-edge-test.true c.edge-item.is c.loop-edge.invariant.edges c.a.ensures.kept;
    }
