use Rattle.std.proofs.Common.{◌∙◌, ap, sym, subst, ◌<◌, length}
use Rattle.std.specs.Prelude.{All}
use Rattle.face_trace.specs.declared.spokes.Spoke.{Spoke}
use Rattle.face_trace.specs.HalfEdge.{twin_number}
use Rattle.face_trace.specs.Links.{edges_of}
use Rattle.face_trace.specs.Spokes.{AreSpokes, AreNexts}
use Rattle.face_trace.proofs.Building.{twins_within, built, edges_of_half_edges}
use Rattle.face_trace.proofs.half_edges.HalfEdges.build.Goals as goal

pub nexts_of-requires : goal.nexts_of-requires
nexts_of-requires c =
    subst (λ ss. All (λ (s : Spoke). twin_number s.number < length ss) ss) (sym c.deref.ensures.value)
    (twins_within c.args.edges.now c.as_slice.result.now c.in_ok-spokes.spokes.items
    (c.as_slice.ensures.keys ∙ c.in_ok-halves.ensures.keys) c.in_ok-spokes.ensures)

pub invariant_of-result : goal.invariant_of-result
invariant_of-result c =
    built c.args.edges.now c.in_ok-halves.halves.keys c.in_ok-spokes.spokes.items c.in_ok-nexts.nexts.items
    c.in_ok-halves.ensures.keys c.in_ok-halves.ensures.edges c.requires.rising c.requires.starts_within c.requires.ends_within
    (subst (λ hs. AreSpokes hs c.in_ok-spokes.spokes.items) c.as_slice.ensures.keys c.in_ok-spokes.ensures)
    (subst (λ ss. AreNexts ss c.in_ok-nexts.nexts.items) c.deref.ensures.value c.in_ok-nexts.ensures)

pub returns : goal.returns
returns c =
    ap edges_of c.in_ok-halves.ensures.keys ∙ edges_of_half_edges c.args.edges.now c.in_ok-halves.ensures.edges
