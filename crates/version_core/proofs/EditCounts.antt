-- How many segments are live after edits that fit: each insertion adds one, and each other edit takes
-- one away.
use Rattle.std.proofs.Common.{◌≡◌, ap, sym, ◌∙◌, ℕ, get_or, take, ◌<◌, ◌+◌, ◌*◌, ◌≤◌}
use Rattle.std.proofs.Common.{List, [], ◌∷◌, ◌++◌, filter, length, length-append, Contains, arith, is_lt, false}
use Rattle.std.proofs.lemmas.List.{take_more}
use Rattle.std.specs.List.{AllByRecursion}
use Rattle.std.specs.List.Sorted.{IsStrictlySortedBy}
use Rattle.grid_core.specs.Name.{Label, label_cmp, label_eq}
use Rattle.grid_core.specs.Segment.{Segment}
use Rattle.grid_core.specs.LiveList.{names, IsLiveList, with_segment, without_name}
use Rattle.grid_core.proofs.LiveLists.{with_segment_is_live, without_name_is_live}
use Rattle.grid_core.proofs.Order.{label_total}
use Rattle.tile_law.proofs.Edits.{parted_at}
use Rattle.tile_law.proofs.OneMoreCounts.{new_from_none, with_without, without_is_new}
use Rattle.version_core.specs.declared.change.Edit.{Edit}
use Rattle.version_core.specs.declared.change.Edit.TheVariants.{Insert, Delete}
use Rattle.version_core.specs.Edits.{after_edits, inserted_names, FitEdits}
use Rattle.version_core.specs.Laws.{AreSegments}

-- a segment more, of a name that the list lacks
count_with : (ss : List Segment) (s : Segment) → IsStrictlySortedBy label_cmp (names ss)
    → AllByRecursion (λ u. label_eq u.name s.name ≡ false) ss → length (with_segment ss s) ≡ length ss + 1
count_with ss s order new =
    let low = filter (λ u. is_lt (label_cmp u.name s.name)) ss in
    let high = filter (λ u. is_lt (label_cmp s.name u.name)) ss in
    let parts : low ++ high ≡ ss = parted_at (λ (u : Segment). u.name) label_total s.name ss order new in
    let whole : length ss ≡ length low + length high = ap length (sym parts) ∙ length-append low high in
    let more = length-append low (s ∷ high) in
    omega (arith, whole, more)

-- a segment of the list less
count_without : (ss : List Segment) (s : Segment) → IsStrictlySortedBy label_cmp (names ss)
    → IsStrictlySortedBy label_cmp (names (without_name ss s.name)) → Contains ss s
    → length ss ≡ length (without_name ss s.name) + 1
count_without ss s order less here =
    ap length (sym (with_without s ss order here))
    ∙ count_with (without_name ss s.name) s less (without_is_new s ss)

-- each edit changes the number by one
pub count_after : (n editor : ℕ) (given : List Label) (ss : List Segment) (es : List Edit) → IsLiveList n ss → AreSegments n es
    → FitEdits editor given ss es
    → length (after_edits ss es) + length es ≡ length ss + 2 * length (inserted_names es)
count_after n editor given ss [] live fits fit = omega arith
count_after n editor given ss (Insert s ∷ es) live fits fit =
    let own = count_with ss s live.rising (new_from_none ss s.name fit.2) in
    let rest = count_after n editor (s.name ∷ given) (with_segment ss s) es (with_segment_is_live n ss s live fits.0) fits.1 fit.3 in
    omega (arith, own, rest)
count_after n editor given ss (Delete s ∷ es) live fits fit =
    let after = without_name_is_live n ss s.name live in
    let own = count_without ss s live.rising after.rising fit.0 in
    let rest = count_after n editor given (without_name ss s.name) es after fits.1 fit.1 in
    omega (arith, own, rest)

-- ---- how many insertions there are

-- of the first i edits so many are insertions
pub record AreInserted (found i : ℕ) (es : List Edit) : Type 0 where
  pub few : found ≤ i
  pub all : found ≡ length (inserted_names (take i es))

pub inserted_few : (es : List Edit) → length (inserted_names es) ≤ length es
inserted_few [] = omega arith
inserted_few (Insert s ∷ es) = omega (arith, inserted_few es)
inserted_few (Delete s ∷ es) = omega (arith, inserted_few es)

inserted_joined : (es fs : List Edit)
    → length (inserted_names (es ++ fs)) ≡ length (inserted_names es) + length (inserted_names fs)
inserted_joined [] fs = omega arith
inserted_joined (Insert s ∷ es) fs = omega (arith, inserted_joined es fs)
inserted_joined (Delete s ∷ es) fs = inserted_joined es fs

-- one edit more is counted where it is an insertion
module _ {found i : ℕ} (es : List Edit) (e : Edit) (fits : i < length es) (here : e ≡ get_or es i e)
    (h : AreInserted found i es) where
  one_more : length (inserted_names (take (i + 1) es)) ≡ found + length (inserted_names (e ∷ []))
  one_more =
      ap (λ fs. length (inserted_names fs)) (take_more es i e fits ∙ ap (λ f. take i es ++ f ∷ []) (sym here))
      ∙ inserted_joined (take i es) (e ∷ [])
      ∙ ap (λ n. n + length (inserted_names (e ∷ []))) (sym h.all)

  pub one_inserted : (s : Segment) → e ≡ Insert s → (now : ℕ) → now ≡ found + 1 → AreInserted now (i + 1) es
  one_inserted s own now more =
      let all = one_more ∙ ap (λ f. found + length (inserted_names (f ∷ []))) own in
      record { few = omega (arith, h.few, more); all = omega (arith, all, more) }

  pub none_inserted : (s : Segment) → e ≡ Delete s → (now : ℕ) → now ≡ found → AreInserted now (i + 1) es
  none_inserted s own now same =
      let all = one_more ∙ ap (λ f. found + length (inserted_names (f ∷ []))) own in
      record { few = omega (arith, h.few, same); all = omega (arith, all, same) }

-- the same told by a count, and by edits that are the same ones
pub counted_after : (n editor : ℕ) (ss : List Segment) (es fs : List Edit) (count : ℕ) → IsLiveList n ss → AreSegments n es
    → FitEdits editor [] ss es → count ≡ length ss → fs ≡ es
    → length (after_edits ss es) + length fs ≡ count + 2 * length (inserted_names fs)
counted_after n editor ss es fs count live fits fit counted same =
    let h = count_after n editor [] ss es live fits fit in
    let a = ap length same in
    let b = ap (λ us. length (inserted_names us)) same in
    omega (arith, h, a, b, counted)
