use Rattle.std.proofs.Common.{refl, sym, arith, true≢false}
use Rattle.std.specs.Prelude.{IsTrue}
use borrow.Author.Count.{below_more}
use Rattle.face_trace.proofs.Drawings.{drawing_of, place_of}
use Rattle.face_trace.proofs.half_edges.HalfEdges.takes.Goals as goal

pub returns-then-not-is_placed : goal.returns-then-not-is_placed
returns-then-not-is_placed c = (
  λ t. absurd (true≢false (sym t)),
  λ d. let t = c.is_placed.ensures.1 (place_of c.args.edges.now d c.loop-i.i c.loop-i-test.true) in cc,
)

pub loop-i-preserved : goal.loop-i-preserved
loop-i-preserved c =
    let t : IsTrue c.is_placed.result = cc in
    below_more _ _ c.loop-i.invariant (c.is_placed.ensures.0 t)

pub returns : goal.returns
returns c = (
  λ t. drawing_of c.args.edges.now (λ k l. c.loop-i.invariant k (omega (arith, l, c.loop-i-test.false))),
  λ d. refl,
)
