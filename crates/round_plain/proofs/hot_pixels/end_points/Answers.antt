-- Both ends of a segment are appended.
use Rattle.std.proofs.Common.{◌∙◌, ap, sym, subst, ◌++◌, ◌∷◌, [], ◌^◌, List, take}
use Rattle.std.specs.List.{All}
use Rattle.std.proofs.lemmas.List.{take_more}
use Rattle.std.proofs.lemmas.List.Elements.{All-push}
use Rattle.grid_core.specs.declared.point.Point.{Point}
use Rattle.grid_core.specs.Vector.{IsWithin}
use Rattle.grid_core.specs.Segment.{Segment, IsSegment}
use Rattle.round_plain.proofs.Pairs.{ends_more}
use Rattle.round_plain.proofs.hot_pixels.end_points.Goals as goal

pub loop-s-preserved : goal.loop-s-preserved
loop-s-preserved c =
    let first = c.in_ok-push.ensures.items
    ∙ ap (λ (h : Point). c.loop-s.ends.items ++ h ∷ []) c.p.ensures.value in
    let both = c.in_ok-push-2.ensures.items ∙ ap (λ (xs : List Point). xs ++ c.q.result ∷ []) first
    ∙ ap (λ (h : Point). (c.loop-s.ends.items ++ c.s-item.result.p ∷ []) ++ h ∷ [])
    c.q.ensures.value in
    record {
      value =
          both ∙ ap (λ (xs : List Point). (xs ++ c.s-item.result.p ∷ []) ++ c.s-item.result.q
          ∷ []) c.loop-s.invariant.value
          ∙ ends_more c.args.segments.now c.loop-s.s-index c.s-item.result c.loop-s-test.true
          c.s-item.is;
      within =
          subst (λ (xs : List Point). All (IsWithin (2 ^ 30)) xs) (sym both)
          (All-push (IsWithin (2 ^ 30)) (c.loop-s.ends.items ++ c.s-item.result.p ∷ [])
          c.s-item.result.q
          (All-push (IsWithin (2 ^ 30)) c.loop-s.ends.items c.s-item.result.p
          c.loop-s.invariant.within c.p.ensures.kept.p_within)
          c.p.ensures.kept.q_within);
      kept =
          subst (λ (ss : List Segment). All (IsSegment (2 ^ 30)) ss)
          (sym (take_more c.args.segments.now c.loop-s.s-index c.s-item.result c.loop-s-test.true
          ∙ ap (λ (s : Segment). take c.loop-s.s-index c.args.segments.now ++ s ∷ [])
          (sym c.s-item.is)))
          (All-push (IsSegment (2 ^ 30))
          (take c.loop-s.s-index c.args.segments.now) c.s-item.result c.loop-s.invariant.kept
          c.p.ensures.kept);
    }
