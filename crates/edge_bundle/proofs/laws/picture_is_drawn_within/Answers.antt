-- The segment of one route more, and those of all routes at the end.
use Rattle.std.proofs.Common.{◌≡◌, ◌∙◌, ap, sym, subst, ◌++◌, ◌∷◌, [], ◌^◌, List, map, take, rules}
use Rattle.std.specs.List.{All}
use Rattle.std.proofs.lemmas.List.{map_more, take_all}
use Rattle.std.proofs.lemmas.List.Elements.{All-push}
use Rattle.grid_core.specs.Rounding.{RoutedSegment, SnapRounding}
use Rattle.grid_core.specs.Segment.{Segment, IsSegment}
use Rattle.edge_bundle.specs.Drawn.{IsDrawnWithin}
use Rattle.edge_bundle.proofs.DrawnWithin.{drawn_within}
use Rattle.edge_bundle.proofs.laws.picture_is_drawn_within.Goals as goal

pub loop-routed-preserved : goal.loop-routed-preserved
loop-routed-preserved c =
    let rs = c.routes-routed-items.result.now in
    let i = c.loop-routed.routed-index in
    subst (λ (ss : List Segment). All (IsSegment (2 ^ 30)) ss)
    (ap (λ (r : RoutedSegment). map (λ r. r.ur) (take i rs) ++ r.ur ∷ []) (c.routed.view_is ∙ c.routed-item.is)
    ∙ sym (map_more (λ (r : RoutedSegment). r.ur) rs i c.routed-item.result c.loop-routed-test.true))
    (All-push (IsSegment (2 ^ 30)) (map (λ (r : RoutedSegment). r.ur) (take i rs)) c.routed.inside.ur
    c.loop-routed.invariant c.p-p.ensures.kept)

pub returns : goal.returns
returns c =
    let all : take c.loop-routed.routed-index c.routes-routed-items.result.now
    ≡ c.routes-routed-items.result.now = search (rules, take_all) in
    let ss = map (λ (r : RoutedSegment). r.ur) c.args.picture.now.routes in
    subst (λ (r : SnapRounding). IsDrawnWithin (2 ^ 30) r) (sym c.requires)
    (drawn_within (2 ^ 30) ss
    (subst (λ (rs : List RoutedSegment). All (IsSegment (2 ^ 30)) (map (λ r. r.ur) rs))
    (all ∙ c.routes-routed-items.ensures) c.loop-routed.invariant))
