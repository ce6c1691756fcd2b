use Rattle.std.proofs.Common.{◌≡◌, ◌∙◌, sym, ap, subst, arith, true, false, true≢false, List, [], ◌∷◌, ◌<◌, ◌≤◌, length, get_or}
use Rattle.std.specs.Prelude.{option_copied, slice_get, is_some}
use Rattle.std.specs.List.Sorted.{IsStrictlySortedBy}
use Rattle.std.specs.List.{filter}
use Rattle.std.proofs.lemmas.Bool.Decides.{nat_tests}
use Rattle.grid_core.specs.Name.{Label, label_cmp, label_eq}
use Rattle.grid_core.specs.Segment.{Segment}
use Rattle.grid_core.specs.LiveList.{names}
use Rattle.grid_core.proofs.Comparisons.{name_test}
use Rattle.grid_core.proofs.Order.{label_total}
use Rattle.hot_tile.proofs.Lookups.{none_past, none_there, one_there, no_name, has_name}
use Rattle.hot_tile.proofs.tile.Tile.segment.Goals as goal
use Rattle.hot_tile.proofs.tile.Tile.segment.Goals.{After-from_residual, Then-eq, Else-eq}

none : (c : After-from_residual) → filter (λ (s : Segment). label_eq s.name c.args.name) c.args.self.now.segments ≡ []
none c =
    let missing = c.in_err-s.ensures.lookup.0 in
    let past : length c.segments-segments.result.now ≤ c.index_of.result = grind (arith, nat_tests) in
    subst (λ (us : List Segment). filter (λ (s : Segment). label_eq s.name c.args.name) us ≡ []) c.segments-segments.ensures.value
    (none_past label_total (λ (s : Segment). s.name) c.args.name c.segments-segments.result.now c.index_of.result
    (subst (λ (us : List Segment). IsStrictlySortedBy label_cmp (names us)) (sym c.segments-segments.ensures.value) c.segments-segments.ensures.kept.rising)
    c.index_of.ensures.lesser c.index_of.ensures.others past)

pub returns-in_err-s : goal.returns-in_err-s
returns-in_err-s c =
    record {
      value =
          ap option_copied c.from_residual.ensures
          ∙ sym (ap (λ (us : List Segment). slice_get us 0) (none c));
      missing = λ _. no_name c.args.self.now.segments c.args.name (none c);
      there = λ h. absurd (true≢false (sym h ∙ ap is_some c.from_residual.ensures));
    }

one : (c : Then-eq) → filter (λ (s : Segment). label_eq s.name c.args.name) c.args.self.now.segments ≡ c.in_ok-s.s.now ∷ []
one c =
    let found = c.in_ok-s.ensures.lookup.0 in
    let within : c.index_of.result < length c.segments-segments.result.now = grind (arith, nat_tests) in
    let read = c.in_ok-s.ensures.lookup.1 in
    let same : label_eq (get_or c.segments-segments.result.now c.index_of.result c.in_ok-s.s.now).name c.args.name ≡ true =
    ap (λ (s : Segment). label_eq s.name c.args.name) (sym read) ∙ ap (λ (n : Label). label_eq n c.args.name) (sym c.name.ensures.value)
    ∙ sym (name_test c.name.result c.args.name) ∙ sym c.eq.ensures ∙ c.if-eq.true in
    subst (λ (us : List Segment). filter (λ (s : Segment). label_eq s.name c.args.name) us ≡ c.in_ok-s.s.now ∷ []) c.segments-segments.ensures.value
    (one_there label_total (λ (s : Segment). s.name) c.args.name c.segments-segments.result.now c.index_of.result
    (subst (λ (us : List Segment). IsStrictlySortedBy label_cmp (names us)) (sym c.segments-segments.ensures.value) c.segments-segments.ensures.kept.rising)
    c.index_of.ensures.lesser c.index_of.ensures.others c.in_ok-s.s.now within same
    ∙ ap (λ (s : Segment). s ∷ []) (sym read))

pub returns-then-eq : goal.returns-then-eq
returns-then-eq c =
    record {
      value = sym (ap (λ (us : List Segment). slice_get us 0) (one c));
      missing = λ h. absurd (true≢false h);
      there = λ _. has_name c.args.self.now.segments c.args.name c.in_ok-s.s.now (one c);
    }

other : (c : Else-eq) → filter (λ (s : Segment). label_eq s.name c.args.name) c.args.self.now.segments ≡ []
other c =
    let found = c.in_ok-s.ensures.lookup.0 in
    let within : c.index_of.result < length c.segments-segments.result.now = grind (arith, nat_tests) in
    let read = c.in_ok-s.ensures.lookup.1 in
    let apart : label_eq (get_or c.segments-segments.result.now c.index_of.result c.in_ok-s.s.now).name c.args.name ≡ false =
    ap (λ (s : Segment). label_eq s.name c.args.name) (sym read) ∙ ap (λ (n : Label). label_eq n c.args.name) (sym c.name.ensures.value)
    ∙ sym (name_test c.name.result c.args.name) ∙ sym c.eq.ensures ∙ c.if-eq.false in
    subst (λ (us : List Segment). filter (λ (s : Segment). label_eq s.name c.args.name) us ≡ []) c.segments-segments.ensures.value
    (none_there label_total (λ (s : Segment). s.name) c.args.name c.segments-segments.result.now c.index_of.result
    (subst (λ (us : List Segment). IsStrictlySortedBy label_cmp (names us)) (sym c.segments-segments.ensures.value) c.segments-segments.ensures.kept.rising)
    c.index_of.ensures.lesser c.index_of.ensures.others c.in_ok-s.s.now within apart)

pub returns-else-eq : goal.returns-else-eq
returns-else-eq c =
    record {
      value = sym (ap (λ (us : List Segment). slice_get us 0) (other c));
      missing = λ _. no_name c.args.self.now.segments c.args.name (other c);
      there = λ h. absurd (true≢false (sym h));
    }
