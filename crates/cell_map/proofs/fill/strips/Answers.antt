-- A vertex more, in its strip.
use Rattle.std.proofs.Common.{◌∙◌, sym, filter, take, get_or}
use Rattle.std.proofs.lemmas.List.{take_more}
use Rattle.round_plain.proofs.Counts.{origin}
use Rattle.cell_map.specs.Strips.{strip_in, meets_strip, lies_in_strip}
use Rattle.cell_map.proofs.Filling.{vertex_more}
use Rattle.cell_map.proofs.fill.strips.Goals as goal

pub loop-h-preserved : goal.loop-h-preserved
loop-h-preserved c = λ j.
    let vs = c.args.vertices.now in
    let i = c.loop-h.h-index in
    vertex_more (filter (meets_strip j) c.args.edges.now) (take i vs) (get_or vs i origin) j
    (strip_in c.loop-h.strips.entries j) (strip_in c.add_vertex.new.strips.entries j)
    (c.loop-h.invariant j) (c.in_ok-add_vertex.ensures j)
    ∙ sym (λ m. record {
      edges = filter (meets_strip j) c.args.edges.now;
      vertices = filter (lies_in_strip j) (take_more vs i origin c.loop-h-test.true m);
    })
