use Rattle.std.proofs.Common.{sym, subst, ◌∙◌, ◌≤◌, ◌^◌, map}
use Rattle.std.specs.Prelude.{unsigned_abs}
use Rattle.tile_law.specs.Laws.{IsTileInReach}
use Rattle.version_core.specs.Renewal.{Renews}
use Rattle.version_core.specs.Replaced.{plain_tile, spans_gained}
use Rattle.version_core.proofs.Replacing.{is_state, given_tiles, given_in_reach, passes_gain_small, spans_gain_small}
use Rattle.version_core.proofs.Replacing.{contents_renew, cast_fits, cast_back}
use Rattle.version_core.proofs.version.Version.replace.Goals as goal

-- src/replace.rt
pub copied-requires : goal.copied-requires
copied-requires c =
    let v = c.args.self.now in
    let state = is_state c.self.invariant c.self.view_is in
    given_tiles IsTileInReach c.args.tiles.now
    (given_in_reach v.profile state.sizes v.live c.args.change.now.edits (map plain_tile c.args.tiles.now) c.requires.follows.within
    c.requires.tiles)

pub overflow_cast-gain : goal.overflow_cast-gain
overflow_cast-gain c =
    let v = c.args.self.now in
    let x = c.args.change.now in
    let state = is_state c.self.invariant c.self.view_is in
    cast_fits c.passes_gained-gain.result
    (subst (λ g. unsigned_abs g ≤ 2 ^ 62) (sym c.passes_gained-gain.ensures)
    (passes_gain_small v.profile state.sizes x.editor v.live x.edits state.live c.requires.follows.within c.requires.follows.fits state.few
    c.requires.follows.few (map plain_tile c.args.tiles.now) c.requires.tiles))

pub overflow_cast-span_gain : goal.overflow_cast-span_gain
overflow_cast-span_gain c =
    let v = c.args.self.now in
    let x = c.args.change.now in
    let state = is_state c.self.invariant c.self.view_is in
    let own = c.in_ok-span_gain.ensures ∙ (λ i. spans_gained (c.self.view_is i).profile (c.edits.ensures i)) in
    cast_fits c.in_ok-span_gain.span_gain
    (subst (λ g. unsigned_abs g ≤ 2 ^ 62) (sym own)
    (spans_gain_small v.profile state.sizes x.editor v.live x.edits state.live c.requires.follows.within c.requires.follows.fits state.few
    c.requires.follows.few))

pub renewed-requires-clause-renews : goal.renewed-requires-clause-renews
renewed-requires-clause-renews c =
    let v = c.args.self.now in
    let x = c.args.change.now in
    let state = is_state c.self.invariant c.self.view_is in
    let follow = c.requires.follows in
    let passes = c.passes_gained-gain.ensures in
    let spans = c.in_ok-span_gain.ensures ∙ (λ i. spans_gained (c.self.view_is i).profile (c.edits.ensures i)) in
    let small =
    subst (λ g. unsigned_abs g ≤ 2 ^ 62) (sym passes)
    (passes_gain_small v.profile state.sizes x.editor v.live x.edits state.live follow.within follow.fits state.few follow.few
    (map plain_tile c.args.tiles.now) c.requires.tiles) in
    let small2 =
    subst (λ g. unsigned_abs g ≤ 2 ^ 62) (sym spans)
    (spans_gain_small v.profile state.sizes x.editor v.live x.edits state.live follow.within follow.fits state.few follow.few) in
    let gain = cast_back c.passes_gained-gain.result small in
    let span_gain = cast_back c.in_ok-span_gain.span_gain small2 in
    subst (Renews v.profile v.live)
    (sym (c.in_ok-renewal.ensures
    ∙ (λ i. record { change = c.in_ok-copy.ensures i; contents = c.in_ok-contents.ensures i; gain = gain i; span_gain = span_gain i })))
    (contents_renew v.profile state.sizes.some_side v.live
    (record { change = x; contents = map plain_tile c.args.tiles.now; gain = c.passes_gained-gain.result; span_gain = c.in_ok-span_gain.span_gain })
    state.live follow.within follow.fits c.requires.tiles passes spans)
