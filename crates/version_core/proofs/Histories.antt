-- A history and a change that was prepared after its first b changes: where no later change shares a
-- tile with it, the live list then and the live list now agree near its tiles; and the names that
-- are live were inserted. So the law of rebasing holds over histories.
use Rattle.std.proofs.Common.{◌≡◌, refl, ap, sym, subst, ◌∙◌, ℕ, ◌+◌, ◌<◌, ◌⊎◌, inl, inr, Bool, false, List, [], ◌∷◌, ◌++◌, filter, take, drop, zero, suc, Contains, Option, Some, None, arith}
use Rattle.std.specs.Prelude.{filter_map, option_map, slice_get}
use Rattle.std.specs.List.{AllByRecursion, enumerate_from, last_or, cons_option}
use Rattle.std.specs.List.Sorted.{IsStrictlySortedBy}
use Rattle.std.proofs.lemmas.Bool.{false_from_ne_true}
use Rattle.std.proofs.lemmas.List.Elements.{Contains-append_left, Contains-append_right}
use Rattle.grid_core.specs.declared.tile.TileId.{TileId}
use Rattle.grid_core.specs.Name.{Label}
use Rattle.grid_core.specs.Profile.{Sizes}
use Rattle.grid_core.specs.Segment.{Segment}
use Rattle.grid_core.specs.LiveList.{names, IsLiveList, with_segment, without_name}
use Rattle.grid_core.proofs.ListMembers.{contains_first, contains_later, contains_filter}
use Rattle.version_core.specs.declared.change.Edit.{Edit}
use Rattle.version_core.specs.declared.change.Edit.TheVariants.{Insert, Delete}
use Rattle.version_core.specs.Edits.{Changes, after_edits, tiles_of_edits, inserted_names}
use Rattle.version_core.specs.History.{live_from, live, FitFrom, touches, shared_tiles, clash_with, given_names}
use Rattle.version_core.specs.Stands.{PreparedChange, Stands}
use Rattle.version_core.proofs.Rebased.{names_with, names_without}
use Rattle.version_core.proofs.Apart.{AreFar, live_after, near_after_changes}
use Rattle.version_core.specs.Laws.{AreSegments, AreChangesWithin, ChangesAreRebased}
use Rattle.version_core.proofs.Rebasing.{edits_covered, far_from, stands_rebased}

-- ---- no clash

some_last : {A : Type 0} (x : A) (xs : List A) → last_or (Some x) xs ≡ None → ⊥
some_last x [] h = absurd (cc h)
some_last x (y ∷ xs) h = some_last y xs h

none_first : (xs : List TileId) (n : ℕ) → option_map {U = ℕ × TileId} (λ t. (n, t)) (slice_get xs 0) ≡ None → xs ≡ []
none_first [] n h = refl
none_first (t ∷ ts) n h = absurd (cc h)

-- where there is no clash, x shares no tile with any of the changes
none_shared : (pr : Sizes) (x : Changes) (n : ℕ) (h : List Changes)
    → last_or None (filter_map (clash_with pr x) (enumerate_from n h)) ≡ None
    → AllByRecursion (λ y. shared_tiles pr x y ≡ []) h
none_shared pr x n [] e = tt
none_shared pr x n (y ∷ h) e = by (none_shared pr x (n + 1) h) (clash_with pr x (n, y)) refl
  where
    rest : List (ℕ × TileId)
    rest = filter_map (clash_with pr x) (enumerate_from (n + 1) h)

    by : (last_or None rest ≡ None → AllByRecursion (λ y. shared_tiles pr x y ≡ []) h)
        → (o : Option (ℕ × TileId)) → clash_with pr x (n, y) ≡ o
        → AllByRecursion (λ y. shared_tiles pr x y ≡ []) (y ∷ h)
    by more (Some c) f = absurd (some_last c rest (ap (λ o. last_or None (cons_option o rest)) (sym f) ∙ e))
    by more None f = (
      none_first (shared_tiles pr x y) n f,
      more (ap (λ o. last_or None (cons_option o rest)) (sym f) ∙ e),
    )

-- nothing is kept, so the test is false of each member
none_passes : (p : TileId → Bool) (ts : List TileId) → filter p ts ≡ [] → (t : TileId) → Contains ts t → p t ≡ false
none_passes p ts e t c =
    false_from_ne_true (p t) (λ h. nothing (subst (λ xs. Contains xs t) e ((contains_filter p ts t).1 (c, h))))
  where
    nothing : Contains {X = TileId} [] t → ⊥
    nothing k = omega (arith, k.1)

-- ---- names that are live were inserted

live_was_given : (given : List Label) (ss : List Segment) (es : List Edit) (n : Label) → Contains (names (after_edits ss es)) n
    → Contains (names ss) n ⊎ Contains (inserted_names es) n
live_was_given given ss [] n h = inl h
live_was_given given ss (Insert s ∷ es) n h =
    elim (live_was_given given (with_segment ss s) es n h) [
      | inl old ↦ elim (names_with ss s n old) [
        | inl before ↦ inl before
        | inr own ↦ inr (subst (λ m. Contains (s.name ∷ inserted_names es) m) own (contains_first s.name (inserted_names es)))
      ]
      | inr new ↦ inr (contains_later s.name (inserted_names es) n new)
    ]
live_was_given given ss (Delete s ∷ es) n h =
    elim (live_was_given given (without_name ss s.name) es n h) [
      | inl old ↦ inl (names_without ss s.name n old)
      | inr new ↦ inr new
    ]

-- a name that is live after changes was live before or is one that they insert
pub live_names : (ss : List Segment) (h : List Changes) (n : Label) → Contains (names (live_from ss h)) n
    → Contains (names ss) n ⊎ Contains (given_names h) n
live_names ss [] n k = inl k
live_names ss (x ∷ h) n k =
    elim (live_names (after_edits ss x.edits) h n k) [
      | inl old ↦ elim (live_was_given [] ss x.edits n old) [
        | inl before ↦ inl before
        | inr own ↦ inr (Contains-append_left (inserted_names x.edits) (given_names h) n own)
      ]
      | inr new ↦ inr (Contains-append_right (inserted_names x.edits) (given_names h) n new)
    ]

-- ---- histories

-- the live list after changes is one
pub live_is_live : (n : ℕ) (ss : List Segment) (h : List Changes) → IsLiveList n ss → AreChangesWithin n h → IsLiveList n (live_from ss h)
live_is_live n ss [] is fits = is
live_is_live n ss (x ∷ h) is fits =
    live_is_live n (after_edits ss x.edits) h (live_after n x.editor [] ss x.edits is fits.0) fits.1

-- where x shares no tile with the changes, they are far from each of its tiles
all_far : (n : ℕ) (pr : Sizes) → 0 < pr.side → (x : Changes) (t : TileId) → Contains (tiles_of_edits pr x.edits) t
    → (h : List Changes) → AreChangesWithin n h → AllByRecursion (λ y. shared_tiles pr x y ≡ []) h
    → AllByRecursion (λ y. AreFar pr t y.edits) h
all_far n pr some x t c [] fits none = tt
all_far n pr some x t c (y ∷ h) fits none = (
  far_from pr (tiles_of_edits pr y.edits) t (none_passes (λ u. touches pr u y) (tiles_of_edits pr x.edits) none.0 t c) y.edits
      (edits_covered n pr some y.edits fits.0),
  all_far n pr some x t c h fits.1 none.1,
)

-- the law of rebasing over the changes that came after a live list
pub rebased_over : (n : ℕ) (x : PreparedChange) → 0 < x.profile.side → (given : List Label) (ss : List Segment) (later : List Changes)
    → IsLiveList n ss → AreSegments n x.change.edits → AreChangesWithin n later → FitFrom given ss later
    → ((m : Label) → Contains (inserted_names x.change.edits) m → Contains (names (live_from ss later)) m → ⊥)
    → (k : ℕ) → last_or None (filter_map (clash_with x.profile x.change) (enumerate_from k later)) ≡ None
    → Stands x ss → Stands x (live_from ss later)
rebased_over n x some given ss later is own fits fit new k none stands =
    let shared = none_shared x.profile x.change k later none in
    stands_rebased n x some ss (live_from ss later) is (live_is_live n ss later is fits) own
    (λ t c. sym (near_after_changes n x.profile t given ss later is fits (all_far n x.profile some x.change t c later fits shared) fit))
    (λ m c l. absurd (new m c l)) stands

-- ---- the first changes and the rest

all_first : {A : Type 0} (P : A → Type 0) (b : ℕ) (xs : List A) → AllByRecursion P xs → AllByRecursion P (take b xs)
all_first P zero xs h = tt
all_first P (suc b) [] h = tt
all_first P (suc b) (x ∷ xs) h = (h.0, all_first P b xs h.1)

all_rest : {A : Type 0} (P : A → Type 0) (b : ℕ) (xs : List A) → AllByRecursion P xs → AllByRecursion P (drop b xs)
all_rest P zero xs h = h
all_rest P (suc b) [] h = tt
all_rest P (suc b) (x ∷ xs) h = all_rest P b xs h.1

live_parted : (ss : List Segment) (b : ℕ) (h : List Changes) → live_from (live_from ss (take b h)) (drop b h) ≡ live_from ss h
live_parted ss zero h = refl
live_parted ss (suc b) [] = refl
live_parted ss (suc b) (x ∷ h) = live_parted (after_edits ss x.edits) b h

-- what fits is, from some change on, what fits the live list there
fit_rest : (given : List Label) (ss : List Segment) (b : ℕ) (h : List Changes) → FitFrom given ss h
    → (before : List Label) × FitFrom before (live_from ss (take b h)) (drop b h)
fit_rest given ss zero h fit = (given, fit)
fit_rest given ss (suc b) [] fit = (given, tt)
fit_rest given ss (suc b) (x ∷ h) fit = fit_rest (inserted_names x.edits ++ given) (after_edits ss x.edits) b h fit.1

none_live : (n : ℕ) → IsLiveList n []
unfolding IsStrictlySortedBy
none_live n = record { rising = tt; within = λ k d h. absurd (omega (arith, h)) }

-- the law of rebasing over a whole history
pub changes_are_rebased : (pr : Sizes) → 0 < pr.side → ChangesAreRebased pr
changes_are_rebased pr some x h same ask stands =
    let b = x.base in
    let first : List Segment = live (take b h) in
    let own_side : 0 < x.profile.side = subst (λ p. 0 < p.side) (sym same) some in
    let rest = fit_rest [] [] b h ask.fits in
    let is = live_is_live x.profile.bound [] (take b h) (none_live x.profile.bound)
    (all_first (λ y. AreSegments x.profile.bound y.edits) b h ask.others) in
    subst (Stands x) (live_parted [] b h)
    (rebased_over x.profile.bound x own_side rest.0 first (drop b h) is ask.own
    (all_rest (λ y. AreSegments x.profile.bound y.edits) b h ask.others) rest.1
    (λ m c l. new m c (subst (λ us. Contains (names us) m) (live_parted [] b h) l)) (b + 1) ask.apart stands)
  where
    new : (m : Label) → Contains (inserted_names x.change.edits) m → Contains (names (live h)) m → ⊥
    new m c l =
        elim (live_names [] h m l) [
          | inl none ↦ omega (arith, none.1)
          | inr given ↦ ask.new m c given
        ]
