use Rattle.std.proofs.Common.{◌≡◌, refl, ap, sym, subst, ◌∙◌, ◌≤◌, ◌^◌, ◌∷◌, [], arith, length, SFits, rules}
use Rattle.std.specs.Int.{w64, w128}
use Rattle.std.specs.Prelude.{All, pos, unsigned_abs, option_copied}
use Rattle.std.proofs.Math.Facts.{to_z-of_z}
use Rattle.std.proofs.lemmas.List.Sorted.{length_permutation}
use Rattle.version_core.specs.declared.change.Edit.TheVariants.{Insert}
use Rattle.version_core.specs.Edits.{tiles_of_edits}
use Rattle.seg_edit.specs.Contents.{MayGrow, found_contents}
use Rattle.seg_edit.proofs.Ready.{all_may_grow, found_few, found_as_contents, found_turned, along_few}
use Rattle.seg_edit.proofs.Standing.{grown_gain, grown_stands, sorted_tiles, insertion_is_prepared}
use Rattle.seg_edit.proofs.prepare.insertion.Goals.{In_ok-of}
use Rattle.seg_edit.proofs.prepare.insertion.Goals as goal

pub grow_tiles-requires-clause-ready : goal.grow_tiles-requires-clause-ready
grow_tiles-requires-clause-ready c =
    let v = c.args.base.now in
    subst (λ q. All (λ e. MayGrow q c.args.ur (e.0, option_copied e.1)) c.args.found.now) (sym c.profile-profile.ensures.value)
    (all_may_grow v.profile c.profile-profile.ensures.kept v.live (omega (arith, c.count.ensures.few)) c.args.ur c.requires.within
    c.args.found.now c.requires.value c.requires.each c.requires.new)

pub grow_tiles-requires-clause-few : goal.grow_tiles-requires-clause-few
grow_tiles-requires-clause-few c =
    let v = c.args.base.now in
    found_few v.profile c.profile-profile.ensures.kept v.live (omega (arith, c.count.ensures.few)) c.args.ur c.requires.within
    c.args.found.now c.requires.value c.requires.each

pub number-span_gain-requires : goal.number-span_gain-requires
number-span_gain-requires c =
    let sorted = length_permutation c.args.tiles.items c.sorted-tiles.result.items c.sorted-tiles.ensures.permutation in
    let here : length c.deref.result.now ≡ length c.args.tiles.items = ap length c.deref.ensures.value ∙ sorted in
    let own = ap length c.requires.along in
    let few = along_few c.args.base.now.profile c.profile-profile.ensures.kept c.args.ur c.requires.within in
    omega (arith, here, own, few)

pub narrow-requires : goal.narrow-requires
narrow-requires c =
    let v = c.args.base.now in
    let fits : SFits w128 c.in_ok-contents.gain = search rules in
    subst (λ z. unsigned_abs z ≤ 2 ^ 51) (sym (to_z-of_z fits))
    (grown_gain v.profile c.profile-profile.ensures.kept v.live c.count.ensures.kept c.count.ensures.few c.args.ur c.requires.within
    (found_contents c.args.found.now) (found_as_contents v.profile v.live c.args.found.now c.requires.value)
    (found_turned v.profile c.args.ur c.args.found.now c.requires.each) c.profile-profile.result c.profile-profile.ensures.value
    c.in_ok-contents.contents c.in_ok-contents.gain c.in_ok-contents.ensures.gain c.requires.new c.in_ok-contents.ensures.contents)

-- the change, and its tiles in order
changed : (c : In_ok-of) → c.in_ok-change.change ≡ record { editor = c.args.ur.name.editor; edits = Insert c.args.ur ∷ [] }
changed c =
    c.in_ok-change.ensures
    ∙ (λ i. record {
      editor = (c.editor.ensures.value ∙ ap (λ n. n.editor) c.name.ensures.value) i;
      edits = Insert c.args.ur ∷ [];
    })

ordered : (c : In_ok-of) → c.sorted-tiles.result.items ≡ tiles_of_edits c.args.base.now.profile (Insert c.args.ur ∷ [])
ordered c =
    sorted_tiles c.args.base.now.profile c.profile-profile.ensures.kept.some_side c.args.ur c.requires.within.ordered
    (Insert c.args.ur) refl c.args.tiles.items c.sorted-tiles.result.items c.requires.along
    c.sorted-tiles.ensures.permutation c.sorted-tiles.ensures.sorted

pub invariant_of-result : goal.invariant_of-result
invariant_of-result c =
    insertion_is_prepared c.args.base.now.profile c.profile-profile.ensures.kept c.args.ur c.requires.within
    c.profile-profile.result c.profile-profile.ensures.value c.sorted-tiles.result.items (ordered c) c.in_ok-of.field-0
    (ap (λ r. r.change) c.in_ok-of.ensures ∙ changed c)

pub returns-clause-prepared : goal.returns-clause-prepared
returns-clause-prepared c =
    let v = c.args.base.now in
    let fits : SFits w128 c.in_ok-contents.gain = search rules in
    let narrow : SFits w64 c.narrow.result = search rules in
    let count : SFits w64 c.number-span_gain.result = search rules in
    record {
      base = c.number.ensures;
      profile = c.profile-profile.ensures.value;
      stands =
          grown_stands v.profile c.profile-profile.ensures.kept v.live c.count.ensures.kept c.count.ensures.few c.args.ur c.requires.within
          (found_contents c.args.found.now) (found_as_contents v.profile v.live c.args.found.now c.requires.value)
          (found_turned v.profile c.args.ur c.args.found.now c.requires.each) c.profile-profile.result c.profile-profile.ensures.value
          c.in_ok-contents.contents c.in_ok-contents.gain c.in_ok-contents.ensures.gain c.requires.new c.in_ok-contents.ensures.contents
          c.number.result c.sorted-tiles.result.items (ordered c) c.in_ok-change.change (changed c) _ _
          (to_z-of_z narrow ∙ c.narrow.ensures ∙ to_z-of_z fits)
          (to_z-of_z count ∙ c.number-span_gain.ensures.value ∙ ap (λ ts. pos (length ts)) c.deref.ensures.value)
          c.in_ok-of.field-0 c.in_ok-of.ensures;
    }
