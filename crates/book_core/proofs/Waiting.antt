-- Prepared changes that wait while a book takes others. The first changes of a history are the first of
-- a longer one too, so what stood after them stands after them; and names that were new are new, if the
-- change that was taken gives none of them.
use Rattle.std.proofs.Common.{◌≡◌, refl, sym, ap, subst, ◌∙◌, ℕ, suc, ◌+◌, ◌<◌, ◌≤◌, arith, inl, inr, Bool, false, List, [], ◌∷◌, ◌++◌, length, length-append, take, drop, get_or, Contains}
use Rattle.std.specs.Prelude.{All, IsTrue, not}
use Rattle.std.specs.List.{AllByRecursion, remove}
use Rattle.std.proofs.lemmas.List.{take-append-le, take_all}
use Rattle.std.proofs.lemmas.List.Elements.{Contains-append_cases, recursion_from_All, All-append, All-take, All-drop, All-more}
use Rattle.std.proofs.lemmas.Grind.{flat_map-append}
use Rattle.grid_core.specs.Name.{Label}
use Rattle.grid_core.proofs.ListMembers.{contains_cases}
use Rattle.version_core.specs.declared.change.Edit.{Edit}
use Rattle.version_core.specs.declared.change.Edit.TheVariants.{Insert, Delete}
use Rattle.version_core.specs.Edits.{Changes, inserted_names}
use Rattle.version_core.specs.History.{live, given_names}
use Rattle.version_core.specs.Stands.{PreparedChange, Stands}
use Rattle.version_core.specs.Version.{VersionState}
use Rattle.seg_edit.specs.Prepared.{AreOfEditor, IsPreparedOn}
use Rattle.book_core.specs.Book.{BookState, IsBook}
use Rattle.book_core.specs.Commit.{InsertsNew, MayCommit, Took}
use Rattle.book_core.specs.Waiting.{ShareNoName, AreWaiting, IsSettled}

-- ---- a history with a change more

-- a base is within the longer history
pub based_later : (h : List Changes) (x : Changes) (n : ℕ) → n ≤ length h → n ≤ length (h ++ x ∷ [])
based_later h x n few = let longer = length-append h (x ∷ []) in omega (arith, longer, few)

-- the live list after the first changes is as it was
pub live_later : (h : List Changes) (x : Changes) (n : ℕ) → n ≤ length h → live (take n (h ++ x ∷ [])) ≡ live (take n h)
live_later h x n few = ap live (take-append-le n h (x ∷ []) few)

-- so a prepared change still stands on it
pub stands_later : (h : List Changes) (x : Changes) (y : PreparedChange) → y.base ≤ length h → Stands y (live (take y.base h))
    → Stands y (live (take y.base (h ++ x ∷ [])))
stands_later h x y few stands = subst (Stands y) (sym (live_later h x y.base few)) stands

-- names that were new are new, if the last change gives none of them
pub new_later : (h : List Changes) (x y : Changes) → InsertsNew h y → ShareNoName y x → InsertsNew (h ++ x ∷ []) y
new_later h x y new others n own given =
    elim (Contains-append_cases (given_names h) (given_names (x ∷ [])) n
    (subst (λ ms. Contains ms n) (flat_map-append (λ y. inserted_names y.edits) h (x ∷ [])) given)) [
      | inl old ↦ new n own old
      | inr last ↦ elim (Contains-append_cases (inserted_names x.edits) [] n last) [
        | inl theirs ↦ others n own theirs
        | inr none ↦ omega (arith, none.1)
      ]
    ]

-- ---- names by editor

names_are_own : (editor : ℕ) (es : List Edit) → AreOfEditor editor es → (n : Label) → Contains (inserted_names es) n → n.editor ≡ editor
names_are_own editor [] own n c = omega (arith, c.1)
names_are_own editor (Insert s ∷ es) own n c =
    elim (contains_cases s.name (inserted_names es) n c) [
      | inl first ↦ sym (ap (λ m. m.editor) first) ∙ own.0
      | inr later ↦ names_are_own editor es own.1 n later
    ]
names_are_own editor (Delete s ∷ es) own n c = names_are_own editor es own n c

-- two editors give no name in common
pub names_of_others : (x y : Changes) → AreOfEditor x.editor x.edits → AreOfEditor y.editor y.edits → ¬ (x.editor ≡ y.editor)
    → ShareNoName x y
names_of_others x y own theirs two n c d =
    two (sym (names_are_own x.editor x.edits own n c) ∙ names_are_own y.editor y.edits theirs n d)

-- ---- a book

-- a change that was prepared on a version of the book may be given to it, if its names are new
pub may_commit_on : (b : BookState) (v : VersionState) (y : PreparedChange) → v.profile ≡ b.version.profile
    → v.number ≤ length b.history → v.live ≡ live (take v.number b.history) → IsPreparedOn v y
    → InsertsNew b.history y.change → MayCommit b y
may_commit_on b v y profile few drawn on new =
    record {
      profile = on.profile ∙ profile;
      based = subst (λ n. n ≤ length b.history) (sym on.base) few;
      stands = subst (λ n. Stands y (live (take n b.history))) (sym on.base) (subst (Stands y) drawn on.stands);
      new = new;
    }

-- the newest version is one of the book's
pub may_commit_newest : (b : BookState) → IsBook b → (y : PreparedChange) → IsPreparedOn b.version y
    → InsertsNew b.history y.change → MayCommit b y
may_commit_newest b is y on new =
    may_commit_on b b.version y refl (omega (arith, is.number))
    (is.live ∙ sym (ap live (take_all b.version.number b.history (omega (arith, is.number))))) on new

-- a prepared change that waits while the book takes another one may be given to it afterwards, if the two
-- give no name in common
pub still_may_commit : (old new : BookState) (x : Changes) (y : PreparedChange) → Took old x new → MayCommit old y
    → ShareNoName y.change x → MayCommit new y
still_may_commit old new x y took may others =
    record {
      profile = may.profile ∙ sym took.version.profile;
      based = subst (λ h. y.base ≤ length h) (sym took.history) (based_later old.history x y.base may.based);
      stands =
          subst (λ h. Stands y (live (take y.base h))) (sym took.history)
          (stands_later old.history x y may.based may.stands);
      new =
          subst (λ h. InsertsNew h y.change) (sym took.history)
          (new_later old.history x y.change may.new others);
    }

-- so all that wait still do
pub all_still_wait : (old new : BookState) (x : Changes) (ys : List PreparedChange) → IsSettled old x new → AreWaiting old ys
    → All (λ y. ShareNoName y.change x) ys → AreWaiting new ys
all_still_wait old new x ys (inl took) waiting others =
    λ k d fits. still_may_commit old new x _ took (waiting k d fits) (others k d fits)
all_still_wait old new x ys (inr same) waiting others = subst (λ b. AreWaiting b ys) (sym same) waiting

-- and the brand stays
pub brand_stays : (old new : BookState) (x : Changes) → IsSettled old x new → new.version.brand ≡ old.version.brand
brand_stays old new x (inl took) = took.version.brand
brand_stays old new x (inr same) = ap (λ b. b.version.brand) same

-- all but one of a list are as all
pub all_without : {X : Type 0} (P : X → Type 0) (xs : List X) (i : ℕ) → All P xs → All P (remove xs i)
all_without P xs i all = All-append P (take i xs) (drop (suc i) xs) (All-take P i xs all) (All-drop P (suc i) xs all)

-- ---- histories that were walked

-- one change more that doesn't insert the name
pub none_more : (h : List Changes) (n : Label) (i : ℕ) (d : Changes) → i < length h
    → All (λ x. ¬ Contains (inserted_names x.edits) n) (take i h) → (given : Bool)
    → (IsTrue (not given) → ¬ Contains (inserted_names ((get_or h i d).edits)) n) → given ≡ false
    → All (λ x. ¬ Contains (inserted_names x.edits) n) (take (i + 1) h)
none_more h n i d fits none given unless away =
    All-more (λ x. ¬ Contains (inserted_names x.edits) n) h i d fits none (unless (ap not away))

-- a name that none of the changes inserts isn't in the history
pub none_given : (h : List Changes) (n : Label) → All (λ x. ¬ Contains (inserted_names x.edits) n) h → ¬ Contains (given_names h) n
none_given h n none = by h (recursion_from_All (λ x. ¬ Contains (inserted_names x.edits) n) h none)
  where
    by : (h : List Changes) → AllByRecursion (λ x. ¬ Contains (inserted_names x.edits) n) h → ¬ Contains (given_names h) n
    by [] none c = omega (arith, c.1)
    by (x ∷ h) none c =
        elim (Contains-append_cases (inserted_names x.edits) (given_names h) n c) [
          | inl first ↦ none.0 first
          | inr later ↦ by h none.1 later
        ]
