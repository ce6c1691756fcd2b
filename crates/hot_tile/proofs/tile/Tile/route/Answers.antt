use Rattle.std.proofs.Common.{◌≡◌, ◌∙◌, sym, ap, subst, arith, List, [], ◌∷◌, ◌++◌, ◌<◌, ◌≤◌, map, length, get_or}
use Rattle.std.specs.List.{filter}
use Rattle.std.specs.List.Sorted.{IsStrictlySortedBy}
use Rattle.std.proofs.lemmas.Bool.Decides.{nat_tests}
use Rattle.grid_core.specs.declared.point.Point.{Point}
use Rattle.grid_core.specs.Name.{Label, label_cmp, label_eq}
use Rattle.grid_core.specs.Profile.{IsProfile}
use Rattle.grid_core.specs.Segment.{Segment}
use Rattle.grid_core.specs.LiveList.{names}
use Rattle.grid_core.specs.Tiles.{near}
use Rattle.grid_core.proofs.Comparisons.{name_test}
use Rattle.grid_core.proofs.Order.{label_total}
use Rattle.hot_tile.specs.Frame.{TileFrame, pixel_at, step_of}
use Rattle.hot_tile.specs.Tile.{TileContent, frame_of, path_in}
use Rattle.hot_tile.proofs.Lookups.{none_past, none_there, one_there}
use Rattle.hot_tile.proofs.TellLaws.{no_route, one_route}
use Rattle.hot_tile.proofs.tile.Tile.route.Goals as goal
use Rattle.hot_tile.proofs.tile.Tile.route.Goals.{In_default, Joined-eq, then-eq+in_ok-push_points, else-eq}

pub returns-in_default : goal.returns-in_default
returns-in_default c =
    let missing = c.in_default.ensures.lookup.0 in
    let past : length c.segments-segments.result.now ≤ c.index_of-at.result = grind (arith, nat_tests) in
    c.new-points.ensures.items
    ∙ sym (no_route c.args.self.now (subst (λ (t : TileContent). IsProfile t.profile) c.self.view_is c.self.invariant.content.sizes)
    (subst (λ (t : TileContent). near t.profile t.id t.segments ≡ t.segments) c.self.view_is c.self.invariant.content.meet) c.args.name
    (subst (λ (us : List Segment). filter (λ (s : Segment). label_eq s.name c.args.name) us ≡ []) c.segments-segments.ensures.value
    (none_past label_total (λ (s : Segment). s.name) c.args.name c.segments-segments.result.now c.index_of-at.result
    (subst (λ (us : List Segment). IsStrictlySortedBy label_cmp (names us)) (sym c.segments-segments.ensures.value) c.segments-segments.ensures.kept.rising)
    c.index_of-at.ensures.lesser c.index_of-at.ensures.others past)))

pub returns : goal.returns
returns c =
    let found = c.in-Some.ensures.lookup.0 in
    let within : c.index_of-at.result < length c.segments-segments.result.now = grind (arith, nat_tests) in
    let read = c.in-Some.ensures.lookup.1 in
    let order =
    subst (λ (us : List Segment). IsStrictlySortedBy label_cmp (names us)) (sym c.segments-segments.ensures.value) c.segments-segments.ensures.kept.rising in
    let sizes = subst (λ (t : TileContent). IsProfile t.profile) c.self.view_is c.self.invariant.content.sizes in
    let meet = subst (λ (t : TileContent). near t.profile t.id t.segments ≡ t.segments) c.self.view_is c.self.invariant.content.meet in
    let test = ap (λ (s : Segment). label_eq s.name c.args.name) (sym read) ∙ ap (λ (n : Label). label_eq n c.args.name) (sym c.name.ensures.value)
    ∙ sym (name_test c.name.result c.args.name) ∙ sym c.eq.ensures in
    elim c.if-eq.branch [
      | then-eq+in_ok-push_points w ↦
          let one =
          one_there label_total (λ (s : Segment). s.name) c.args.name c.segments-segments.result.now c.index_of-at.result order
          c.index_of-at.ensures.lesser c.index_of-at.ensures.others c.in-Some.s.now within (test ∙ w.if-eq.true)
          ∙ ap (λ (s : Segment). s ∷ []) (sym read) in
          let row : w.row.result.now ≡ path_in c.args.self.now c.in-Some.s.now =
          w.row.ensures.value c.in-Some.s.now
          ∙ ap (λ (us : List Segment). path_in c.args.self.now (get_or us c.index_of-at.result c.in-Some.s.now)) (sym c.segments-segments.ensures.value)
          ∙ ap (path_in c.args.self.now) (sym read) in
          ap (λ v. v.items) w.points-is ∙ w.in_ok-push_points.ensures
          ∙ ap (λ (hs : List Point). hs ++ map (λ k. pixel_at w.frame.result (step_of c.in-Some.s.now k)) w.row.result.now) c.new-points.ensures.items
          ∙ ap (λ (f : TileFrame). map (λ k. pixel_at f (step_of c.in-Some.s.now k)) w.row.result.now) w.frame.ensures.value
          ∙ ap (map (λ k. pixel_at (frame_of c.args.self.now) (step_of c.in-Some.s.now k))) row
          ∙ one_route c.args.self.now sizes meet c.args.name c.in-Some.s.now
          (subst (λ (us : List Segment). filter (λ (s : Segment). label_eq s.name c.args.name) us ≡ c.in-Some.s.now ∷ []) c.segments-segments.ensures.value one)
      | else-eq w ↦
          let none =
          none_there label_total (λ (s : Segment). s.name) c.args.name c.segments-segments.result.now c.index_of-at.result order
          c.index_of-at.ensures.lesser c.index_of-at.ensures.others c.in-Some.s.now within (test ∙ w.if-eq.false) in
          ap (λ v. v.items) w.points-is ∙ c.new-points.ensures.items
          ∙ sym (no_route c.args.self.now sizes meet c.args.name
          (subst (λ (us : List Segment). filter (λ (s : Segment). label_eq s.name c.args.name) us ≡ []) c.segments-segments.ensures.value none))
    ]
