-- Why a book doesn't take a change, told by the stamps and by four numbers.
use Rattle.std.proofs.Common.{◌≡◌, sym, ap, subst, ◌∙◌, ℕ, ◌<◌, ◌≤◌, arith, Bool, true, false, List, length, Option, Some, None}
use Rattle.std.specs.Prelude.{ℤ, pos, ◌+ℤ◌, ◌-ℤ◌, int_lt, nat_lt, if◌then◌else◌}
use Rattle.std.proofs.lemmas.Int.{ints}
use Rattle.grid_core.specs.declared.tile.TileId.{TileId}
use Rattle.tile_law.specs.Parts.{passes_of}
use Rattle.version_core.specs.Edits.{after_edits, tiles_of_edits}
use Rattle.version_core.specs.History.{clash, live}
use Rattle.version_core.specs.Stands.{PreparedChange, Stands, spans_of}
use Rattle.version_core.specs.Version.{VersionState, stamp_of, most_segments}
use Rattle.book_core.specs.Book.{BookState, IsBook, most_commits}
use Rattle.book_core.specs.Commit.{full_of, most_spans, most_passes}
use Rattle.book_core.specs.declared.refusal.FullOf.{FullOf}
use Rattle.book_core.specs.declared.refusal.FullOf.TheVariants.{Commits, Segments, Spans, Passes}
use Rattle.book_core.specs.Stamps.{IsLastTouched}
use Rattle.book_core.proofs.Clashes.{clash_found}

-- the last of the prepared change's tiles to be touched is the clash
pub clash_told : (b : BookState) → IsBook b → (x : PreparedChange) → x.profile ≡ b.version.profile
    → (v : VersionState) → v ≡ b.version → (ts : List TileId) → ts ≡ tiles_of_edits x.profile x.change.edits
    → (base : ℕ) → base ≡ x.base → (found : Option (ℕ × TileId)) → IsLastTouched (stamp_of v.stamps) base ts found
    → found ≡ clash b.version.profile b.history x.base x.change
clash_told b is x profile v current ts whole base based found read =
    sym (clash_found b.version.profile b.history x.base x.change (stamp_of b.version.stamps) is.stamps found
    (subst (λ w. IsLastTouched (stamp_of w.stamps) x.base (tiles_of_edits b.version.profile x.change.edits) found) current
    (subst (λ n. IsLastTouched (stamp_of v.stamps) n (tiles_of_edits b.version.profile x.change.edits) found) based
    (subst (λ us. IsLastTouched (stamp_of v.stamps) base us found)
    (whole ∙ ap (λ p. tiles_of_edits p x.change.edits) profile) read))))

-- ---- full

is_less : (a b : ℕ) → a < b → nat_lt a b ≡ true
is_less a b h = grind (arith, h)

isn't_less : (a b : ℕ) → b ≤ a → nat_lt a b ≡ false
isn't_less a b h = grind (arith, h)

-- the four tests in their order
abbrev tested : Bool → Bool → Bool → Bool → Option FullOf
tested few_commits many_segments many_spans many_passes =
    if few_commits
    then if many_segments
    then Some Segments
    else if many_spans then Some Spans else if many_passes then Some Passes else None
    else Some Commits

-- a sum and its gain, and the number that they make
made : (before after sum : ℕ) (gain moved : ℤ) → sum ≡ before → gain ≡ moved → moved ≡ pos after -ℤ pos before
    → pos sum +ℤ gain ≡ pos after
made before after sum gain moved a b c = omega (arith, ints, a, b, c)

exceeds_most : (most after : ℕ) (sum : ℤ) (r : Bool) → r ≡ int_lt (pos most) sum → sum ≡ pos after → r ≡ true → most < after
exceeds_most most after sum r told is over = let h : int_lt (pos most) sum ≡ true = sym told ∙ over in omega (arith, ints, h, is)

within_most : (most after : ℕ) (sum : ℤ) (r : Bool) → r ≡ int_lt (pos most) sum → sum ≡ pos after → r ≡ false → after ≤ most
within_most most after sum r told is under = let h : int_lt (pos most) sum ≡ false = sym told ∙ under in omega (arith, ints, h, is)

-- the bounds of a book, which takes a prepared change that stands on its live list
module _ (b : BookState) (is : IsBook b) (x : PreparedChange) (profile : x.profile ≡ b.version.profile)
    (stands : Stands x b.version.live) (few : length b.history < most_commits) where
  same : after_edits b.version.live x.change.edits ≡ after_edits (live b.history) x.change.edits
  same = ap (λ us. after_edits us x.change.edits) is.live

  module _ (count : ℕ) (counted : count ≡ length (after_edits b.version.live x.change.edits)) (most : count ≤ most_segments) where
    segments_fit : nat_lt most_segments (length (after_edits (live b.history) x.change.edits)) ≡ false
    segments_fit =
        isn't_less most_segments (length (after_edits (live b.history) x.change.edits))
        (let e = counted ∙ ap length same in omega (arith, e, most))

    spans_made : (sum : ℕ) (gain : ℤ) → sum ≡ spans_of b.version.profile b.version.live → gain ≡ x.span_gain
        → pos sum +ℤ gain ≡ pos (spans_of b.version.profile (after_edits (live b.history) x.change.edits))
    spans_made sum gain summed gained =
        made (spans_of b.version.profile b.version.live) (spans_of b.version.profile (after_edits (live b.history) x.change.edits)) sum gain
        x.span_gain summed gained
        (stands.span_gain
        ∙ (λ i. pos (spans_of (profile i) (same i)) -ℤ pos (spans_of (profile i) b.version.live)))

    passes_made : (sum : ℕ) (gain : ℤ) → sum ≡ passes_of b.version.live → gain ≡ x.gain
        → pos sum +ℤ gain ≡ pos (passes_of (after_edits (live b.history) x.change.edits))
    passes_made sum gain summed gained =
        made (passes_of b.version.live) (passes_of (after_edits (live b.history) x.change.edits)) sum gain x.gain summed gained
        (stands.gain ∙ (λ i. pos (passes_of (same i)) -ℤ pos (passes_of b.version.live)))

    module _ (sum : ℕ) (gain : ℤ) (summed : sum ≡ spans_of b.version.profile b.version.live) (gained : gain ≡ x.span_gain)
        (r : Bool) (told : r ≡ int_lt (pos most_spans) (pos sum +ℤ gain)) where
      pub full_spans : r ≡ true → Some Spans ≡ full_of b.version.profile b.history (after_edits (live b.history) x.change.edits)
      full_spans over =
          let e = is_less (length b.history) most_commits few in
          let f = segments_fit in
          let g =
          is_less most_spans (spans_of b.version.profile (after_edits (live b.history) x.change.edits))
          (exceeds_most most_spans _ (pos sum +ℤ gain) r told (spans_made sum gain summed gained) over) in
          sym (λ i. tested (e i) (f i) (g i) (nat_lt most_passes (passes_of (after_edits (live b.history) x.change.edits))))

      module _ (under : r ≡ false) (sum2 : ℕ) (gain2 : ℤ) (summed2 : sum2 ≡ passes_of b.version.live) (gained2 : gain2 ≡ x.gain)
          (q : Bool) (told2 : q ≡ int_lt (pos most_passes) (pos sum2 +ℤ gain2)) where
        spans_fit : nat_lt most_spans (spans_of b.version.profile (after_edits (live b.history) x.change.edits)) ≡ false
        spans_fit =
            isn't_less most_spans (spans_of b.version.profile (after_edits (live b.history) x.change.edits))
            (within_most most_spans _ (pos sum +ℤ gain) r told (spans_made sum gain summed gained) under)

        pub full_passes : q ≡ true → Some Passes ≡ full_of b.version.profile b.history (after_edits (live b.history) x.change.edits)
        full_passes over =
            let e = is_less (length b.history) most_commits few in
            let f = segments_fit in
            let g = spans_fit in
            let k =
            is_less most_passes (passes_of (after_edits (live b.history) x.change.edits))
            (exceeds_most most_passes _ (pos sum2 +ℤ gain2) q told2 (passes_made sum2 gain2 summed2 gained2) over) in
            sym (λ i. tested (e i) (f i) (g i) (k i))

        pub full_none : q ≡ false → None ≡ full_of b.version.profile b.history (after_edits (live b.history) x.change.edits)
        full_none below =
            let e = is_less (length b.history) most_commits few in
            let f = segments_fit in
            let g = spans_fit in
            let k =
            isn't_less most_passes (passes_of (after_edits (live b.history) x.change.edits))
            (within_most most_passes _ (pos sum2 +ℤ gain2) q told2 (passes_made sum2 gain2 summed2 gained2) below) in
            sym (λ i. tested (e i) (f i) (g i) (k i))
