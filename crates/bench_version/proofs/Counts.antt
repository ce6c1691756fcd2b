-- After one edit at most one segment more is live.
use Rattle.std.proofs.Common.{◌≡◌, ℕ, ◌<◌, ◌≤◌, List, [], length, arith, sym, subst}
use Rattle.grid_core.specs.Segment.{Segment}
use Rattle.grid_core.specs.LiveList.{IsLiveList}
use Rattle.version_core.specs.declared.change.Edit.{Edit}
use Rattle.version_core.specs.Edits.{after_edits, FitEdits}
use Rattle.version_core.specs.Laws.{AreSegments}
use Rattle.version_core.specs.Stands.{PreparedChange, Stands, after_change}
use Rattle.version_core.specs.Version.{VersionState, most_segments}
use Rattle.version_core.proofs.EditCounts.{count_after, inserted_few}

few_after : (n editor : ℕ) (ss : List Segment) (es : List Edit) → IsLiveList n ss → AreSegments n es
    → FitEdits editor [] ss es → length es ≡ 1 → length ss < 4096 → length (after_edits ss es) ≤ most_segments
few_after n editor ss es live within fit one few =
    omega (arith, count_after n editor [] ss es live within fit, inserted_few es, one, few)

-- a prepared change of one edit, of a version w that is version v
pub few_follow : (v w : VersionState) (x : PreparedChange) → w ≡ v → v.profile ≡ x.profile
    → IsLiveList v.profile.bound v.live → Stands x v.live → AreSegments x.profile.bound x.change.edits
    → length x.change.edits ≡ 1 → length v.live < 4096 → length (after_change w.live x.change) ≤ most_segments
few_follow v w x same sizes live stands within one few =
    subst (λ q. length (after_change q.live x.change) ≤ most_segments) (sym same)
    (few_after v.profile.bound x.change.editor v.live x.change.edits live
    (subst (λ p. AreSegments p.bound x.change.edits) (sym sizes) within) stands.fits one few)
