use Rattle.face_trace.proofs.Tracing.{linked_as, within_as, searched_begun, searched_more, searched_fewer, searched_whole}
use Rattle.face_trace.proofs.half_edges.HalfEdges.least_from.Goals as goal

pub loop-at-init : goal.loop-at-init
loop-at-init c =
    let linked = linked_as _ _ _ _ _ c.self.view_is c.as_slice-halves.ensures.keys c.self.invariant in
    searched_begun linked c.args.start (within_as linked c.args.start c.requires) c.index-at.result.now c.index-at.ensures

pub loop-at-smaller : goal.loop-at-smaller
loop-at-smaller c =
    let linked = linked_as _ _ _ _ _ c.self.view_is c.as_slice-halves.ensures.keys c.self.invariant in
    searched_fewer linked c.args.start (within_as linked c.args.start c.requires) c.loop-at.invariant c.loop-at-test.true
    c.index-at-in-loop-at.result.now c.index-at-in-loop-at.ensures

pub loop-at-preserved : goal.loop-at-preserved
loop-at-preserved c =
    let linked = linked_as _ _ _ _ _ c.self.view_is c.as_slice-halves.ensures.keys c.self.invariant in
    searched_more linked c.args.start (within_as linked c.args.start c.requires) c.loop-at.invariant c.loop-at-test.true
    c.index-at-in-loop-at.result.now c.lesser-least.result c.index-at-in-loop-at.ensures c.lesser-least.ensures

pub returns : goal.returns
returns c =
    let linked = linked_as _ _ _ _ _ c.self.view_is c.as_slice-halves.ensures.keys c.self.invariant in
    searched_whole linked c.args.start (within_as linked c.args.start c.requires) c.loop-at.invariant c.loop-at-test.false
