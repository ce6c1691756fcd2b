-- One segment more, and all of them at the end.
use Rattle.std.proofs.Common.{◌∙◌, ap, sym, subst, ◌++◌, ◌∷◌, [], ◌^◌, List, take, arith}
use Rattle.std.specs.List.{All}
use Rattle.std.proofs.lemmas.List.{take_more, take_all}
use Rattle.std.proofs.lemmas.List.Elements.{All-push}
use Rattle.grid_core.specs.Segment.{Segment, IsSegment}
use Rattle.edge_bundle.proofs.DrawnWithin.{drawn_within}
use Rattle.edge_bundle.proofs.laws.rounding_is_drawn_within.Goals as goal

pub loop-s-preserved : goal.loop-s-preserved
loop-s-preserved c =
    subst (λ (ss : List Segment). All (IsSegment (2 ^ 30)) ss)
    (sym (take_more c.args.segments.now c.loop-s.s-index c.s-item.result c.loop-s-test.true
    ∙ ap (λ (s : Segment). take c.loop-s.s-index c.args.segments.now ++ s ∷ []) (sym c.s-item.is)))
    (All-push (IsSegment (2 ^ 30)) (take c.loop-s.s-index c.args.segments.now) c.s-item.result
    c.loop-s.invariant c.p-p.ensures.kept)

pub returns : goal.returns
returns c =
    drawn_within (2 ^ 30) c.args.segments.now
    (subst (λ (ss : List Segment). All (IsSegment (2 ^ 30)) ss)
    (take_all c.loop-s.s-index c.args.segments.now (omega (arith, c.loop-s-test.false)))
    c.loop-s.invariant)
