use Rattle.std.proofs.Common.{◌≡◌, refl, ap, sym, subst, ◌∙◌, ◌≤◌, ◌^◌, ◌∷◌, [], arith, map, length, SFits, rules}
use Rattle.std.specs.Int.{w64, w128}
use Rattle.std.specs.Prelude.{All, pos, ◌-ℤ◌, unsigned_abs, option_copied}
use Rattle.std.proofs.Math.Facts.{to_z-of_z}
use Rattle.std.proofs.lemmas.List.Elements.{All-contains}
use Rattle.std.proofs.lemmas.List.Sorted.{length_permutation}
use Rattle.grid_core.specs.Segment.{IsSegment}
use Rattle.version_core.specs.declared.change.Edit.TheVariants.{Delete}
use Rattle.version_core.specs.Edits.{tiles_of_edits}
use Rattle.seg_edit.specs.Contents.{MayShrink, thinned, found_contents}
use Rattle.seg_edit.proofs.Ready.{all_may_shrink, found_few, found_as_contents, found_turned, along_few}
use Rattle.seg_edit.proofs.Standing.{thinned_gain, thinned_stands, sorted_tiles, deletion_is_prepared}
use Rattle.seg_edit.proofs.prepare.deletion.Goals.{In_ok-of}
use Rattle.seg_edit.proofs.prepare.deletion.Goals as goal

pub thin_tiles-requires-clause-ready : goal.thin_tiles-requires-clause-ready
thin_tiles-requires-clause-ready c =
    let v = c.args.base.now in
    subst (λ n. All (λ e. MayShrink c.profile-profile.result n (e.0, option_copied e.1)) c.args.found.now) (sym c.name.ensures.value)
    (subst (λ q. All (λ e. MayShrink q c.args.s.now.name (e.0, option_copied e.1)) c.args.found.now) (sym c.profile-profile.ensures.value)
    (all_may_shrink v.profile c.profile-profile.ensures.kept v.live (omega (arith, c.count.ensures.few)) c.args.s.now (All-contains (IsSegment c.args.base.now.profile.bound) c.args.base.now.live c.args.s.now c.count.ensures.kept.within c.requires.here)
    c.args.found.now c.requires.value c.requires.each c.requires.here))

pub thin_tiles-requires-clause-few : goal.thin_tiles-requires-clause-few
thin_tiles-requires-clause-few c =
    let v = c.args.base.now in
    found_few v.profile c.profile-profile.ensures.kept v.live (omega (arith, c.count.ensures.few)) c.args.s.now (All-contains (IsSegment c.args.base.now.profile.bound) c.args.base.now.live c.args.s.now c.count.ensures.kept.within c.requires.here)
    c.args.found.now c.requires.value c.requires.each

pub less-span_gain-requires : goal.less-span_gain-requires
less-span_gain-requires c =
    let sorted = length_permutation c.args.tiles.items c.sorted-tiles.result.items c.sorted-tiles.ensures.permutation in
    let here : length c.deref.result.now ≡ length c.args.tiles.items = ap length c.deref.ensures.value ∙ sorted in
    let own = ap length c.requires.along in
    let few = along_few c.args.base.now.profile c.profile-profile.ensures.kept c.args.s.now (All-contains (IsSegment c.args.base.now.profile.bound) c.args.base.now.live c.args.s.now c.count.ensures.kept.within c.requires.here) in
    omega (arith, here, own, few)

pub narrow-requires : goal.narrow-requires
narrow-requires c =
    let v = c.args.base.now in
    let fits : SFits w128 c.in_ok-contents.gain = search rules in
    subst (λ z. unsigned_abs z ≤ 2 ^ 51) (sym (to_z-of_z fits))
    (thinned_gain v.profile c.profile-profile.ensures.kept v.live c.count.ensures.kept c.count.ensures.few c.args.s.now (All-contains (IsSegment c.args.base.now.profile.bound) c.args.base.now.live c.args.s.now c.count.ensures.kept.within c.requires.here)
    (found_contents c.args.found.now) (found_as_contents v.profile v.live c.args.found.now c.requires.value)
    (found_turned v.profile c.args.s.now c.args.found.now c.requires.each) c.profile-profile.result c.profile-profile.ensures.value
    c.in_ok-contents.contents c.in_ok-contents.gain c.in_ok-contents.ensures.gain c.requires.here
    (c.in_ok-contents.ensures.contents
    ∙ ap (λ n. map (thinned c.profile-profile.result n) (found_contents c.args.found.now)) c.name.ensures.value))

-- the change, and its tiles in order
changed : (c : In_ok-of) → c.in_ok-change.change ≡ record { editor = c.args.editor; edits = Delete c.args.s.now ∷ [] }
changed c = c.in_ok-change.ensures

ordered : (c : In_ok-of) → c.sorted-tiles.result.items ≡ tiles_of_edits c.args.base.now.profile (Delete c.args.s.now ∷ [])
ordered c =
    sorted_tiles c.args.base.now.profile c.profile-profile.ensures.kept.some_side c.args.s.now (All-contains (IsSegment c.args.base.now.profile.bound) c.args.base.now.live c.args.s.now c.count.ensures.kept.within c.requires.here).ordered
    (Delete c.args.s.now) refl c.args.tiles.items c.sorted-tiles.result.items c.requires.along
    c.sorted-tiles.ensures.permutation c.sorted-tiles.ensures.sorted

pub invariant_of-result : goal.invariant_of-result
invariant_of-result c =
    deletion_is_prepared c.args.base.now.profile c.profile-profile.ensures.kept c.args.s.now (All-contains (IsSegment c.args.base.now.profile.bound) c.args.base.now.live c.args.s.now c.count.ensures.kept.within c.requires.here)
    c.profile-profile.result c.profile-profile.ensures.value c.sorted-tiles.result.items (ordered c) c.in_ok-of.field-0 c.args.editor
    (ap (λ r. r.change) c.in_ok-of.ensures ∙ changed c)

pub returns-clause-prepared : goal.returns-clause-prepared
returns-clause-prepared c =
    let v = c.args.base.now in
    let fits : SFits w128 c.in_ok-contents.gain = search rules in
    let narrow : SFits w64 c.narrow.result = search rules in
    let count : SFits w64 c.less-span_gain.result = search rules in
    record {
      base = c.number.ensures;
      profile = c.profile-profile.ensures.value;
      stands =
          thinned_stands v.profile c.profile-profile.ensures.kept v.live c.count.ensures.kept c.count.ensures.few c.args.s.now (All-contains (IsSegment c.args.base.now.profile.bound) c.args.base.now.live c.args.s.now c.count.ensures.kept.within c.requires.here)
          (found_contents c.args.found.now) (found_as_contents v.profile v.live c.args.found.now c.requires.value)
          (found_turned v.profile c.args.s.now c.args.found.now c.requires.each) c.profile-profile.result c.profile-profile.ensures.value
          c.in_ok-contents.contents c.in_ok-contents.gain c.in_ok-contents.ensures.gain c.requires.here
          (c.in_ok-contents.ensures.contents
          ∙ ap (λ n. map (thinned c.profile-profile.result n) (found_contents c.args.found.now)) c.name.ensures.value)
          c.number.result c.args.editor c.sorted-tiles.result.items (ordered c) c.in_ok-change.change (changed c) _ _
          (to_z-of_z narrow ∙ c.narrow.ensures ∙ to_z-of_z fits)
          (to_z-of_z count ∙ c.less-span_gain.ensures.value ∙ ap (λ ts. pos 0 -ℤ pos (length ts)) c.deref.ensures.value)
          c.in_ok-of.field-0 c.in_ok-of.ensures;
    }
