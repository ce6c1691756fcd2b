-- A book after a change that it took: the longer history fits, its live list is the next version's, and
-- the stamps are the numbers of the last changes.
use Rattle.std.proofs.Common.{◌≡◌, refl, sym, ap, subst, ◌∙◌, ℕ, ◌+◌, ◌<◌, inl, inr, arith, Bool, true, false, List, [], ◌∷◌, ◌++◌, length, length-append, Contains, Option, Some, None}
use Rattle.std.specs.Prelude.{if◌then◌else◌, nat_lt}
use Rattle.std.specs.List.{AllByRecursion}
use Rattle.std.proofs.lemmas.List.Elements.{Contains-append_cases, Contains-append_left, Contains-append_right}
use Rattle.grid_core.specs.declared.tile.TileId.{TileId}
use Rattle.grid_core.specs.Name.{Label}
use Rattle.grid_core.specs.Segment.{Segment}
use Rattle.grid_core.specs.LiveList.{with_segment, without_name}
use Rattle.grid_core.proofs.ListMembers.{contains_first, contains_later, contains_cases}
use Rattle.version_core.specs.declared.change.Edit.{Edit}
use Rattle.version_core.specs.declared.change.Edit.TheVariants.{Insert, Delete}
use Rattle.version_core.specs.Edits.{Changes, after_edits, inserted_names, FitEdits}
use Rattle.version_core.specs.History.{live_from, live, FitFrom, Fit, touches, last_touch, clash, given_names}
use Rattle.version_core.specs.Laws.{AreSegments, AreChangesWithin}
use Rattle.version_core.specs.Stands.{PreparedChange, Stands}
use Rattle.version_core.specs.Version.{VersionState, IsNext, stamp_of}
use Rattle.version_core.proofs.Histories.{changes_are_rebased}
use Rattle.book_core.specs.Book.{BookState, IsBook, most_commits}
use Rattle.book_core.specs.Commit.{MayCommit, Took, full_of, refusal_by, refusal_of}
use Rattle.book_core.specs.declared.refusal.FullOf.{FullOf}
use Rattle.book_core.specs.declared.refusal.FullOf.TheVariants.{Commits}
use Rattle.book_core.proofs.Touches.{last_touched, last_untouched}

-- ---- histories with a change more

pub live_push : (ss : List Segment) (h : List Changes) (x : Changes) → live_from ss (h ++ x ∷ []) ≡ after_edits (live_from ss h) x.edits
live_push ss [] x = refl
live_push ss (y ∷ h) x = live_push (after_edits ss y.edits) h x

all_push : {A : Type 0} (P : A → Type 0) (xs : List A) (x : A) → AllByRecursion P xs → P x → AllByRecursion P (xs ++ x ∷ [])
all_push P [] x h own = (own, tt)
all_push P (y ∷ xs) x h own = (h.0, all_push P xs x h.1 own)

-- what fits where some names were given fits where others were, if none that it inserts is new there
fit_given : (editor : ℕ) (given others : List Label) (ss : List Segment) (es : List Edit)
    → ((n : Label) → Contains (inserted_names es) n → Contains others n → Contains given n)
    → FitEdits editor given ss es → FitEdits editor others ss es
fit_given editor given others ss [] few fit = tt
fit_given editor given others ss (Insert s ∷ es) few fit = (
  fit.0,
  λ c. fit.1 (few s.name (contains_first s.name (inserted_names es)) c),
  fit.2,
  fit_given editor (s.name ∷ given) (s.name ∷ others) (with_segment ss s) es later fit.3,
)
  where
    later : (n : Label) → Contains (inserted_names es) n → Contains (s.name ∷ others) n → Contains (s.name ∷ given) n
    later n k c =
        elim (contains_cases s.name others n c) [
          | inl own ↦ subst (λ m. Contains (s.name ∷ given) m) own (contains_first s.name given)
          | inr old ↦ contains_later s.name given n (few n (contains_later s.name (inserted_names es) n k) old)
        ]
fit_given editor given others ss (Delete s ∷ es) few fit =
    (fit.0, fit_given editor given others (without_name ss s.name) es few fit.1)

-- a change that fits the live list, and whose names are new, may come last
fit_push : (given : List Label) (ss : List Segment) (h : List Changes) (x : Changes) → FitFrom given ss h
    → FitEdits x.editor [] (live_from ss h) x.edits
    → ((n : Label) → Contains (inserted_names x.edits) n → Contains given n → ⊥)
    → ((n : Label) → Contains (inserted_names x.edits) n → Contains (given_names h) n → ⊥)
    → FitFrom given ss (h ++ x ∷ [])
fit_push given ss [] x fit own new later = (fit_given x.editor [] given ss x.edits (λ n k c. absurd (new n k c)) own, tt)
fit_push given ss (y ∷ h) x fit own new later = (
  fit.0,
  fit_push (inserted_names y.edits ++ given) (after_edits ss y.edits) h x fit.1 own newer (λ n k c. later n k (behind n c)),
)
  where
    behind : (n : Label) → Contains (given_names h) n → Contains (given_names (y ∷ h)) n
    behind n c = Contains-append_right (inserted_names y.edits) (given_names h) n c

    newer : (n : Label) → Contains (inserted_names x.edits) n → Contains (inserted_names y.edits ++ given) n → ⊥
    newer n k c =
        elim (Contains-append_cases (inserted_names y.edits) given n c) [
          | inl own ↦ later n k (Contains-append_left (inserted_names y.edits) (given_names h) n own)
          | inr old ↦ new n k old
        ]

-- ---- a book

-- a prepared change that clashes with nothing stands on the newest live list
pub rebased : (b : BookState) → IsBook b → 0 < b.version.profile.side → (x : PreparedChange) → MayCommit b x
    → AreSegments x.profile.bound x.change.edits → clash b.version.profile b.history x.base x.change ≡ None
    → Stands x (live b.history)
rebased b is some x may own apart =
    changes_are_rebased b.version.profile some x b.history may.profile (record {
      own = own;
      others = subst (λ p. AreChangesWithin p.bound b.history) (sym may.profile) is.within;
      fits = is.fits;
      apart = ap (λ p. clash p b.history x.base x.change) may.profile ∙ apart;
      new = may.new;
    }) may.stands

-- the book after a change that fits and whose names are new is one
pub grown : (b : BookState) → IsBook b → (x : Changes) → FitEdits x.editor [] (live b.history) x.edits
    → ((n : Label) → Contains (inserted_names x.edits) n → ¬ Contains (given_names b.history) n)
    → AreSegments b.version.profile.bound x.edits → length b.history < most_commits
    → (c : BookState) → Took b x c → IsBook c
grown b is x fit new own few c took =
    record {
      fits = subst Fit (sym took.history) (fit_push [] [] b.history x is.fits fit (λ n k l. omega (arith, l.1)) new);
      within =
          subst (λ p. AreChangesWithin p.bound c.history) (sym next.profile)
          (subst (AreChangesWithin b.version.profile.bound) (sym took.history)
          (all_push (λ y. AreSegments b.version.profile.bound y.edits) b.history x is.within own));
      few = omega (arith, longer, few);
      number = next.number ∙ omega (arith, is.number, longer);
      live =
          next.live
          ∙ ap (λ us. after_edits us x.edits) is.live
          ∙ sym (live_push [] b.history x)
          ∙ ap live (sym took.history);
      stamps = λ t. by t (touches b.version.profile t x) refl;
    }
  where
    next : IsNext b.version x c.version
    next = took.version

    longer : length c.history ≡ length b.history + 1
    longer = ap length took.history ∙ length-append b.history (x ∷ [])

    same : (t : TileId) → last_touch c.version.profile c.history t ≡ last_touch b.version.profile (b.history ++ x ∷ []) t
    same t = (λ i. last_touch (next.profile i) (took.history i) t)

    by : (t : TileId) → (o : Bool) → touches b.version.profile t x ≡ o → stamp_of c.version.stamps t ≡ last_touch c.version.profile c.history t
    by t true touched =
        next.touched t touched
        ∙ omega (arith, next.number, is.number)
        ∙ sym (last_touched b.version.profile b.history x t touched)
        ∙ sym (same t)
    by t false away =
        next.others t away
        ∙ is.stamps t
        ∙ sym (last_untouched b.version.profile b.history x t away)
        ∙ sym (same t)

-- the same of the version that a book keeps
pub rebased_version : (b : BookState) → IsBook b → (v : VersionState) → v ≡ b.version → 0 < v.profile.side → (x : PreparedChange)
    → MayCommit b x → AreSegments x.profile.bound x.change.edits → clash b.version.profile b.history x.base x.change ≡ None
    → Stands x b.version.live
rebased_version b is v current some x may own apart =
    subst (Stands x) (sym is.live) (rebased b is (subst (λ w. 0 < w.profile.side) current some) x may own apart)

-- what a book takes leaves room for it
none_refused : (c : Option (ℕ × TileId)) (f : Option FullOf) → refusal_by c f ≡ None → f ≡ None
none_refused None None h = refl
none_refused None (Some f) h = absurd (cc h)
none_refused (Some c) f h = absurd (cc h)

first_test : (t : Bool) (rest : Option FullOf) → (if t then rest else Some Commits) ≡ None → t ≡ true
first_test true rest h = refl
first_test false rest h = absurd (cc h)

pub room_left : (b : BookState) (x : PreparedChange) → refusal_of b x ≡ None → length b.history < most_commits
room_left b x none =
    let full = none_refused (clash b.version.profile b.history x.base x.change) (full_of b.version.profile b.history (after_edits (live b.history) x.change.edits)) none in
    let few = first_test (nat_lt (length b.history) most_commits) _ full in
    grind (arith, few)

-- a book that took a prepared change is one
pub took_prepared : (b : BookState) → IsBook b → (x : PreparedChange) → MayCommit b x → refusal_of b x ≡ None
    → Stands x b.version.live → AreSegments b.version.profile.bound x.change.edits
    → (h : List Changes) (v : VersionState) → h ≡ b.history ++ x.change ∷ [] → IsNext b.version x.change v
    → IsBook (record { history = h; version = v })
took_prepared b is x may none stands own h v history next =
    grown b is x.change (subst (λ us. FitEdits x.change.editor [] us x.change.edits) is.live stands.fits) may.new own
    (room_left b x none) (record { history = h; version = v }) (record { history = history; version = next })
