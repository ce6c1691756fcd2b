-- Sums over a live list after edits: a segment that is put in adds its own, one that is taken out
-- takes its own away. So edits change such a sum by the same on each list that they fit.
use Rattle.std.proofs.Common.{◌≡◌, ap, sym, ◌∙◌, ℕ, ◌+◌, List, [], ◌∷◌, ◌++◌, filter, Contains, arith, is_lt, false}
use Rattle.std.specs.Prelude.{pos, ◌-ℤ◌, sum_by}
use Rattle.std.specs.List.{AllByRecursion}
use Rattle.std.specs.List.Sorted.{IsStrictlySortedBy}
use Rattle.std.proofs.lemmas.Int.{ints}
use Rattle.std.proofs.lemmas.List.Sums.{sum_by-cons, sum_by-append}
use Rattle.grid_core.specs.Name.{Label, label_cmp, label_eq}
use Rattle.grid_core.specs.Segment.{Segment}
use Rattle.grid_core.specs.LiveList.{names, IsLiveList, with_segment, without_name}
use Rattle.grid_core.proofs.Order.{label_total}
use Rattle.grid_core.proofs.LiveLists.{with_segment_is_live, without_name_is_live}
use Rattle.tile_law.proofs.Edits.{parted_at}
use Rattle.tile_law.proofs.OneMoreCounts.{new_from_none, with_without, without_is_new}
use Rattle.version_core.specs.declared.change.Edit.{Edit}
use Rattle.version_core.specs.declared.change.Edit.TheVariants.{Insert, Delete}
use Rattle.version_core.specs.Edits.{after_edits, FitEdits}
use Rattle.version_core.specs.Laws.{AreSegments}

module _ (f : Segment → ℕ) where
  -- a segment more, of a name that the list lacks
  pub sum_with : (ss : List Segment) (s : Segment) → IsStrictlySortedBy label_cmp (names ss)
      → AllByRecursion (λ u. label_eq u.name s.name ≡ false) ss → sum_by f (with_segment ss s) ≡ sum_by f ss + f s
  sum_with ss s order new =
      let low = filter (λ u. is_lt (label_cmp u.name s.name)) ss in
      let high = filter (λ u. is_lt (label_cmp s.name u.name)) ss in
      let parts : low ++ high ≡ ss = parted_at (λ (u : Segment). u.name) label_total s.name ss order new in
      let whole : sum_by f ss ≡ sum_by f low + sum_by f high = ap (sum_by f) (sym parts) ∙ sum_by-append f low high in
      let more = sum_by-append f low (s ∷ high) in
      let own = sum_by-cons f s high in
      omega (arith, whole, more, own)

  -- a segment of the list less
  pub sum_without : (ss : List Segment) (s : Segment) → IsStrictlySortedBy label_cmp (names ss)
      → IsStrictlySortedBy label_cmp (names (without_name ss s.name)) → Contains ss s
      → sum_by f ss ≡ sum_by f (without_name ss s.name) + f s
  sum_without ss s order less here =
      ap (sum_by f) (sym (with_without s ss order here))
      ∙ sum_with (without_name ss s.name) s less (without_is_new s ss)

  -- edits change the sum by the same on each list that they fit
  pub sums_moved : (n editor : ℕ) (given left : List Label) (ss us : List Segment) (es : List Edit) → IsLiveList n ss
      → IsLiveList n us → AreSegments n es → FitEdits editor given ss es → FitEdits editor left us es
      → pos (sum_by f (after_edits ss es)) -ℤ pos (sum_by f ss)
      ≡ pos (sum_by f (after_edits us es)) -ℤ pos (sum_by f us)
  sums_moved n editor given left ss us [] live live2 fits fit fit2 = omega (arith, ints)
  sums_moved n editor given left ss us (Insert s ∷ es) live live2 fits fit fit2 =
      let a = sum_with ss s live.rising (new_from_none ss s.name fit.2) in
      let b = sum_with us s live2.rising (new_from_none us s.name fit2.2) in
      let rest = sums_moved n editor (s.name ∷ given) (s.name ∷ left) (with_segment ss s) (with_segment us s) es
      (with_segment_is_live n ss s live fits.0) (with_segment_is_live n us s live2 fits.0) fits.1 fit.3 fit2.3 in
      omega (arith, ints, a, b, rest)
  sums_moved n editor given left ss us (Delete s ∷ es) live live2 fits fit fit2 =
      let after = without_name_is_live n ss s.name live in
      let after2 = without_name_is_live n us s.name live2 in
      let a = sum_without ss s live.rising after.rising fit.0 in
      let b = sum_without us s live2.rising after2.rising fit2.0 in
      let rest = sums_moved n editor given left (without_name ss s.name) (without_name us s.name) es after after2 fits.1 fit.1 fit2.1 in
      omega (arith, ints, a, b, rest)
