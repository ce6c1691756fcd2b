-- A prepared change that waits while another one is applied: where no stamp of its tiles is the number
-- of the new version, it shares no tile with the other, and so the law of rebasing holds.
use Rattle.std.proofs.Common.{◌≡◌, sym, ap, subst, ◌∙◌, ℕ, ◌<◌, ◌≤◌, arith, true, false, List, [], ◌∷◌, filter, filter_map, None, Contains}
use Rattle.std.specs.Prelude.{All, Bool, slice_get, option_map, IfOk, IsTrue}
use Rattle.std.specs.declared.result.Result.{Result}
use Rattle.std.specs.declared.result.Result.TheVariants.{Ok, Err}
use Rattle.grid_core.specs.declared.memory.Memory.{Memory}
use Rattle.std.specs.List.{AllByRecursion, last_or}
use Rattle.std.proofs.lemmas.Bool.{false_from_ne_true}
use Rattle.std.proofs.lemmas.List.Elements.{All-contains, All-weaker, recursion_from_All}
use Rattle.grid_core.specs.declared.tile.TileId.{TileId}
use Rattle.grid_core.specs.Profile.{Sizes, IsProfile}
use Rattle.grid_core.specs.LiveList.{IsLiveList, names}
use Rattle.grid_core.proofs.Filters.{none_kept}
use Rattle.version_core.specs.Edits.{Changes, tiles_of_edits, inserted_names}
use Rattle.version_core.specs.History.{touches}
use Rattle.version_core.specs.Laws.{AreSegments}
use Rattle.version_core.specs.Stands.{PreparedChange, Stands}
use Rattle.version_core.specs.Version.{VersionState, IsNext, stamp_of}
use Rattle.version_core.proofs.Histories.{rebased_over}
use Rattle.seg_edit.specs.Waiting.{IsWaiting}

-- tiles with an older stamp than the version's number weren't touched by its last change
untouched : (pr : Sizes) (w : VersionState) (y : Changes) (b : ℕ) → b < w.number
    → ((t : TileId) → touches pr t y ≡ true → stamp_of w.stamps t ≡ w.number) → (ts : List TileId)
    → AllByRecursion (λ t. stamp_of w.stamps t ≤ b) ts → AllByRecursion (λ t. touches pr t y ≡ false) ts
untouched pr w y b old touched [] h = tt
untouched pr w y b old touched (t ∷ ts) h = (
  false_from_ne_true (touches pr t y) (λ is. omega (arith, old, touched t is, h.0)),
  untouched pr w y b old touched ts h.1,
)

pub still_waiting : (v w : VersionState) (x done : PreparedChange) → IsProfile v.profile → IsLiveList v.profile.bound v.live
    → AreSegments x.profile.bound x.change.edits → AreSegments done.profile.bound done.change.edits
    → IsNext v done.change w → IsWaiting v done → IsWaiting v x → x.base < w.number
    → All (λ t. stamp_of w.stamps t ≤ x.base) (tiles_of_edits x.profile x.change.edits)
    → All (λ n. ¬ Contains (names w.live) n) (inserted_names x.change.edits) → IsWaiting w x
still_waiting v w x done sizes live own others next first waiting old stamps new =
    let mine : AreSegments v.profile.bound x.change.edits = subst (λ pr. AreSegments pr.bound x.change.edits) waiting.profile own in
    let theirs : AreSegments v.profile.bound done.change.edits = subst (λ pr. AreSegments pr.bound done.change.edits) first.profile others in
    let apart : AllByRecursion (λ t. touches v.profile t done.change ≡ false) (tiles_of_edits x.profile x.change.edits) =
    untouched v.profile w done.change x.base old next.touched (tiles_of_edits x.profile x.change.edits)
    (recursion_from_All _ (tiles_of_edits x.profile x.change.edits) stamps) in
    let shared : filter (λ t. touches x.profile t done.change) (tiles_of_edits x.profile x.change.edits) ≡ [] =
    none_kept (λ t. touches x.profile t done.change) (tiles_of_edits x.profile x.change.edits)
    (subst (λ pr. AllByRecursion (λ t. touches pr t done.change ≡ false) (tiles_of_edits x.profile x.change.edits)) (sym waiting.profile) apart) in
    record {
      profile = waiting.profile ∙ sym next.profile;
      stands =
          subst (Stands x) (sym next.live)
          (rebased_over v.profile.bound x (subst (λ pr. 0 < pr.side) (sym waiting.profile) sizes.some_side) [] v.live (done.change ∷ []) live
          mine (theirs, tt) (first.stands.fits, tt)
          (λ n c l. All-contains (λ m. ¬ Contains (names w.live) m) (inserted_names x.change.edits) n new c
          (subst (λ ss. Contains (names ss) n) (sym next.live) l))
          0 (ap (λ ts. last_or None (filter_map (λ (y : ℕ × Changes). option_map (λ t. (y.0, t)) (slice_get ts 0)) ((0, done.change) ∷ []))) shared)
          waiting.stands);
    }

-- what waits for one version after a change waits for each
pub waits_alike : (v w u : VersionState) (y : Changes) → IsNext v y w → IsNext v y u → (xs : List PreparedChange)
    → All (IsWaiting w) xs → All (IsWaiting u) xs
waits_alike v w u y a b xs waiting =
    All-weaker (IsWaiting w) (IsWaiting u)
    (λ x h. record { profile = h.profile ∙ a.profile ∙ sym b.profile; stands = subst (Stands x) (a.live ∙ sym b.live) h.stands })
    xs waiting

-- a test that is true where the names are new tells whether the change still waits
pub if_new : (r : Result Bool Memory) (P W : Type 0) → IfOk r (λ b. IsTrue b → P) → (P → W) → IfOk r (λ b. IsTrue b → W)
if_new (Ok b) P W new waits = λ is. waits (new is)
if_new (Err e) P W new waits = tt
