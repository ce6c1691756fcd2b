-- Changes that clash with nothing: those prepared on the newest version, and those that share no tile
-- with a later one.
use Rattle.std.proofs.Common.{◌≡◌, refl, ap, ◌∙◌, ℕ, ◌+◌, List, [], ◌∷◌, drop, length, None}
use Rattle.std.specs.Prelude.{filter_map, option_map, slice_get}
use Rattle.std.specs.List.{AllByRecursion, enumerate_from, last_or, cons_option}
use Rattle.grid_core.specs.Profile.{Sizes}
use Rattle.version_core.specs.Edits.{Changes, after_edits}
use Rattle.version_core.specs.History.{live, shared_tiles, clash_with}
use Rattle.book_core.specs.Commit.{full_of, refusal_by}
use Rattle.book_core.specs.Laws.{NewestIsNeverStale, OldBasesAreTaken}

none_after : (h : List Changes) → drop (length h) h ≡ []
none_after [] = refl
none_after (y ∷ h) = none_after h

-- nothing came after the newest version
pub newest_is_never_stale : NewestIsNeverStale
newest_is_never_stale pr h x =
    ap (λ g. last_or None (filter_map (clash_with pr x) (enumerate_from (length h + 1) g))) (none_after h)

none_shared : (pr : Sizes) (x : Changes) (k : ℕ) (g : List Changes) → AllByRecursion (λ y. shared_tiles pr x y ≡ []) g
    → filter_map (clash_with pr x) (enumerate_from k g) ≡ []
none_shared pr x k [] h = refl
none_shared pr x k (y ∷ g) h =
    ap (λ ts. cons_option (option_map (λ t. (k, t)) (slice_get ts 0)) (filter_map (clash_with pr x) (enumerate_from (k + 1) g))) h.0
    ∙ none_shared pr x (k + 1) g h.1

-- what shares no tile with a later change isn't stale
pub old_bases_are_taken : OldBasesAreTaken
old_bases_are_taken b x apart few =
    ap (λ c. refusal_by c (full_of b.version.profile b.history (after_edits (live b.history) x.change.edits)))
    (ap (last_or None) (none_shared b.version.profile x.change (x.base + 1) (drop x.base b.history) apart))
    ∙ ap (refusal_by None) few
