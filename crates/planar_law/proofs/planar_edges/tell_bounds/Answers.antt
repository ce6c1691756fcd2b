-- One segment more, and all of them at the end.
use Rattle.std.proofs.Common.{◌∙◌, ap, sym, subst, ◌++◌, ◌∷◌, [], ◌^◌, List, take, arith}
use Rattle.std.specs.List.{All}
use Rattle.std.proofs.lemmas.List.{take_more, take_all}
use Rattle.std.proofs.lemmas.List.Elements.{All-push}
use Rattle.grid_core.specs.Segment.{Segment, IsSegment}
use Rattle.planar_law.proofs.planar_edges.tell_bounds.Goals as goal

pub loop-s-preserved : goal.loop-s-preserved
loop-s-preserved c =
    subst (λ (ss : List Segment). All (IsSegment (2 ^ 30)) ss)
    (sym (take_more c.args.segments.now c.loop-s.s-index c.s-item.result c.loop-s-test.true
    ∙ ap (λ (s : Segment). take c.loop-s.s-index c.args.segments.now ++ s ∷ []) (sym c.s-item.is)))
    (All-push (IsSegment (2 ^ 30)) (take c.loop-s.s-index c.args.segments.now) c.s-item.result
    c.loop-s.invariant c.p-p.ensures.kept)

pub returns : goal.returns
returns c =
    subst (λ (ss : List Segment). All (IsSegment (2 ^ 30)) ss)
    (take_all c.loop-s.s-index c.args.segments.now (omega (arith, c.loop-s-test.false)))
    c.loop-s.invariant
