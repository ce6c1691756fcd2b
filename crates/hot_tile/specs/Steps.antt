-- Rows of steps: the numbers of pixels along a segment, in order.
use Rattle.std.specs.Prelude.{◌≡◌, ◌<◌, ◌+◌, ℕ, Bool, not, List, map, filter, fold}
use Rattle.std.specs.Prelude.{length, drop, slice_index}
use Rattle.std.specs.List.{AllByRecursion}
use Rattle.std.specs.Ordering.{nat_cmp}
use Rattle.std.specs.BTreeSet.{insert_key}
use Rattle.grid_core.specs.Segment.{Segment}
use Rattle.grid_core.specs.Meets.{meets_pixel_of}
use Rattle.hot_tile.specs.Frame.{TileFrame, pixel_at, step_of}
use Rattle.hot_tile.specs.Spots.{has_key}

-- the segment meets the pixel with this key
abbrev pub meets_key : TileFrame → Segment → ℕ → Bool
meets_key f u k = meets_pixel_of u (pixel_at f k)

-- the row of u with those of the pixels, given by their keys, that u meets
abbrev pub grown_row : TileFrame → Segment → List ℕ → List ℕ → List ℕ
grown_row f u old ks = fold (insert_key nat_cmp) old (map (step_of u) (filter (meets_key f u) ks))

-- the row without the steps that are gone
abbrev pub thinned_row : List ℕ → List ℕ → List ℕ
thinned_row gone old = filter (λ k. not (has_key gone k)) old

-- ---- which of two rows goes on

-- the step at i comes before all that are gone from j on
abbrev pub StepFirst : List ℕ → ℕ → List ℕ → ℕ → Type 0
StepFirst old i gone j = AllByRecursion (λ g. slice_index old i < g) (drop j gone)

-- the step at i is gone, and all behind it come after it
pub record SameStep (old : List ℕ) (i : ℕ) (gone : List ℕ) (j : ℕ) : Type 0 where
  pub within : j < length gone
  pub same : slice_index gone j ≡ slice_index old i
  pub rest : AllByRecursion (λ k. slice_index gone j < k) (drop (i + 1) old)

-- the one at j that is gone comes before all steps from i on
pub record GoneFirst (old : List ℕ) (i : ℕ) (gone : List ℕ) (j : ℕ) : Type 0 where
  pub within : j < length gone
  pub first : AllByRecursion (λ k. slice_index gone j < k) (drop i old)
