-- A version and a renewal by which it may go on: the sums that the renewal makes fit their numbers,
-- and are those of the next live list.
use Rattle.std.proofs.Common.{◌≡◌, ap, sym, subst, ◌∙◌, ℕ, ◌+◌, ◌*◌, ◌^◌, ◌≤◌, arith, List, [], length}
use Rattle.std.specs.Prelude.{ℤ, pos, ◌+ℤ◌, ◌-ℤ◌, ◌≤ℤ◌}
use Rattle.std.proofs.lemmas.Int.{ints}
use Rattle.grid_core.specs.LiveList.{IsLiveList}
use Rattle.grid_core.specs.Profile.{Sizes}
use Rattle.grid_core.specs.Segment.{Segment}
use Rattle.tile_law.specs.Parts.{passes_of}
use Rattle.version_core.specs.declared.change.Edit.{Edit}
use Rattle.version_core.specs.declared.entry.Entry.{Entry}
use Rattle.version_core.specs.Edits.{after_edits, inserted_names}
use Rattle.version_core.specs.Entries.{live_in, map_edits, after_map_edits}
use Rattle.version_core.specs.Renewal.{Renewed, Renews}
use Rattle.version_core.specs.Stands.{spans_of}
use Rattle.version_core.specs.Version.{VersionState, IsVersion, MayFollow, IsNext, most_segments, version_of}
use Rattle.version_core.proofs.Apart.{live_after}
use Rattle.version_core.proofs.Bounds.{passes_small, spans_small}
use Rattle.version_core.proofs.EditCounts.{count_after}
use Rattle.version_core.proofs.NextVersion.{next_is_version, next_is_next}

-- the version with these numbers and entries may be renewed
pub record CanRenew (number : ℕ) (pr : Sizes) (brand : ℕ) (es : List (ℕ × Entry)) (count spans passes : ℕ) (x : Renewed) : Type 0 where
  pub is : IsVersion pr es count spans passes
  pub follow : MayFollow (version_of number pr brand es) x.change
  pub renews : Renews pr (live_in es) x

pub can_renew : {number : ℕ} {pr : Sizes} {brand : ℕ} {es : List (ℕ × Entry)} {count spans passes : ℕ} {v : VersionState} {x : Renewed}
    → IsVersion pr es count spans passes → version_of number pr brand es ≡ v → MayFollow v x.change
    → Renews v.profile v.live x → CanRenew number pr brand es count spans passes x
can_renew {x = x} is view follow renews =
    record {
      is = is;
      follow = subst (λ w. MayFollow w x.change) (sym view) follow;
      renews = subst (λ w. Renews w.profile w.live x) (sym view) renews;
    }

module _ {number : ℕ} {pr : Sizes} {brand : ℕ} {es : List (ℕ × Entry)} {count spans passes : ℕ} {x : Renewed}
    (can : CanRenew number pr brand es count spans passes x) where
  -- the live list before and after the change
  abbrev old : List Segment
  old = live_in es

  abbrev new : List Segment
  new = after_edits (live_in es) x.change.edits

  new_is_live : IsLiveList pr.bound new
  new_is_live = live_after pr.bound x.change.editor [] old x.change.edits can.is.live can.follow.within

  few : (ss : List Segment) → length ss ≤ most_segments → length ss ≤ 2 ^ 16
  few ss h = omega (arith, h)

  -- ---- how many segments

  counted : length new + length x.change.edits ≡ count + 2 * length (inserted_names x.change.edits)
  counted =
      count_after pr.bound x.change.editor [] old x.change.edits can.is.live can.follow.within can.follow.fits
      ∙ ap (λ n. n + 2 * length (inserted_names x.change.edits)) (sym can.is.counted)

  pub count_fits : count ≤ most_segments
  count_fits = subst (λ n. n ≤ most_segments) (sym can.is.counted) can.is.few

  pub edits_fit : (edits : List Edit) → edits ≡ x.change.edits → length edits ≤ count + 2 * length (inserted_names edits)
  edits_fit edits same =
      subst (λ us. length us ≤ count + 2 * length (inserted_names us)) (sym same) (let h = counted in omega (arith, h))

  -- ---- spans and passes

  pub spans_fit : spans ≤ 2 ^ 62
  spans_fit =
      let h = spans_small pr can.is.sizes old can.is.live.within (few old can.is.few) in
      omega (arith, h, can.is.spanned)

  pub passes_fit : passes ≤ 2 ^ 62
  passes_fit = let h = passes_small old (few old can.is.few) in omega (arith, h, can.is.passed)

  -- a sum and what the change gains
  gained : (before after sum : ℕ) (gain : ℤ) → sum ≡ before → gain ≡ pos after -ℤ pos before
      → pos sum +ℤ gain ≡ pos after
  gained before after sum gain same own = omega (arith, ints, same, own)

  pub next_spans : (gain : ℤ) → gain ≡ x.span_gain → pos spans +ℤ gain ≡ pos (spans_of pr new)
  next_spans gain own = gained (spans_of pr old) (spans_of pr new) spans gain can.is.spanned (own ∙ can.renews.span_gain)

  pub next_passes : (gain : ℤ) → gain ≡ x.gain → pos passes +ℤ gain ≡ pos (passes_of new)
  next_passes gain own = gained (passes_of old) (passes_of new) passes gain can.is.passed (own ∙ can.renews.gain)

  pub next_spans_fit : spans_of pr new ≤ 2 ^ 62
  next_spans_fit =
      let h = spans_small pr can.is.sizes new new_is_live.within (few new can.follow.few) in omega (arith, h)

  pub next_passes_fit : passes_of new ≤ 2 ^ 62
  next_passes_fit = let h = passes_small new (few new can.follow.few) in omega (arith, h)

  pub spans_gain_fits : (gain : ℤ) → gain ≡ x.span_gain → (pos spans +ℤ gain) ≤ℤ pos (2 ^ 62)
  spans_gain_fits gain own =
      let sum = next_spans gain own in let most = next_spans_fit in omega (arith, ints, sum, most)

  pub passes_gain_fits : (gain : ℤ) → gain ≡ x.gain → (pos passes +ℤ gain) ≤ℤ pos (2 ^ 62)
  passes_gain_fits gain own =
      let sum = next_passes gain own in let most = next_passes_fit in omega (arith, ints, sum, most)

  -- ---- the next version

  -- by the numbers that were computed
  pub renewed_is_version : (edits : List Edit) → edits ≡ x.change.edits
      → (c : ℕ) → c + length edits ≡ count + 2 * length (inserted_names edits)
      → (s : ℕ) (span_gain : ℤ) → span_gain ≡ x.span_gain → pos s ≡ pos spans +ℤ span_gain
      → (p : ℕ) (gain : ℤ) → gain ≡ x.gain → pos p ≡ pos passes +ℤ gain
      → IsVersion pr (after_map_edits es (map_edits (number + 1) x.contents x.change.edits)) c s p
  renewed_is_version edits same c made s span_gain own spanned p gain own2 passed =
      let h = counted in
      let made2 = subst (λ us. c + length us ≡ count + 2 * length (inserted_names us)) same made in
      let s2 = spanned ∙ next_spans span_gain own in
      let p2 = passed ∙ next_passes gain own2 in
      next_is_version pr es count spans passes can.is number brand x can.follow can.renews c s p
      (omega (arith, h, made2)) (omega (arith, ints, s2)) (omega (arith, ints, p2))

  pub renewed_is_next : IsNext (version_of number pr brand es) x.change
      (version_of (number + 1) pr brand (after_map_edits es (map_edits (number + 1) x.contents x.change.edits)))
  renewed_is_next =
      next_is_next pr es count spans passes can.is number brand x can.follow can.renews
