-- The law of rebasing: a prepared change stands also on later live lists, where no later change
-- shares a tile with it.
use Rattle.std.specs.Prelude.{◌≡◌, ℕ, List, take, Contains, None}
use Rattle.std.specs.List.{AllByRecursion}
use Rattle.grid_core.specs.Name.{Label}
use Rattle.grid_core.specs.Profile.{Sizes}
use Rattle.grid_core.specs.Segment.{IsSegment}
use Rattle.version_core.specs.declared.change.Edit.{Edit}
use Rattle.version_core.specs.Edits.{Changes, edited_segment, inserted_names}
use Rattle.version_core.specs.History.{live, Fit, clash, given_names}
use Rattle.version_core.specs.Stands.{PreparedChange, Stands}

-- the segment of each edit lies within n
abbrev pub AreSegments : ℕ → List Edit → Type 0
AreSegments n es = AllByRecursion (λ e. IsSegment n (edited_segment e)) es

-- the segments of all edits of the changes lie within n
abbrev pub AreChangesWithin : ℕ → List Changes → Type 0
AreChangesWithin n h = AllByRecursion (λ x. AreSegments n x.edits) h

-- what is asked of a change that was prepared after the first changes of a history: all segments are
-- of the drawing, the history fits, no later change shares a tile with it, and none of the names that
-- it inserts is in the history
pub record IsUnclashed (x : PreparedChange) (h : List Changes) : Type 0 where
  pub own : AreSegments x.profile.bound x.change.edits
  pub others : AreChangesWithin x.profile.bound h
  pub fits : Fit h
  pub apart : clash x.profile h x.base x.change ≡ None
  pub new : (n : Label) → Contains (inserted_names x.change.edits) n → ¬ Contains (given_names h) n

-- a change that stood on the live list that it was prepared on, and doesn't clash, stands on the live
-- list after the whole history
abbrev pub ChangesAreRebased : Sizes → Type 0
ChangesAreRebased pr =
    (x : PreparedChange) (h : List Changes)
    → x.profile ≡ pr
    → IsUnclashed x h
    → Stands x (live (take x.base h))
    → Stands x (live h)
