-- Live lists: the segments of a drawing, in rising order of name.
use Rattle.std.specs.Prelude.{ℕ, List, ◌∷◌, ◌++◌, filter, map, not, All}
use Rattle.std.specs.List.Sorted.{IsStrictlySortedBy}
use Rattle.std.specs.Ordering.{is_lt}
use Rattle.grid_core.specs.Name.{Label, label_cmp, label_eq}
use Rattle.grid_core.specs.Segment.{Segment, IsSegment}

-- the names of a list of segments
abbrev pub names : List Segment → List Label
names ss = map (λ s. s.name) ss

-- names rise strictly, and each segment lies within n
pub record IsLiveList (n : ℕ) (ss : List Segment) : Type 0 where
  pub rising : IsStrictlySortedBy label_cmp (names ss)
  pub within : All (IsSegment n) ss

-- the live list with one segment more, in its place by name
abbrev pub with_segment : List Segment → Segment → List Segment
with_segment ss s =
    filter (λ t. is_lt (label_cmp t.name s.name)) ss
    ++ s ∷ filter (λ t. is_lt (label_cmp s.name t.name)) ss

-- the live list without the segment of this name
abbrev pub without_name : List Segment → Label → List Segment
without_name ss name = filter (λ t. not (label_eq t.name name)) ss
