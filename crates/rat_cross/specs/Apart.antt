-- Segments whose bounding boxes have no point in common.
use Rattle.std.specs.Prelude.{ℤ, int_lt, Bool, ◌||◌}
use Rattle.std.specs.Int.{int_min, int_max}
use Rattle.grid_core.specs.Segment.{Segment}

-- no number is both from a to b and from c to d
abbrev pub separate_of : ℤ → ℤ → ℤ → ℤ → Bool
separate_of a b c d = int_lt b c || int_lt d a

-- no number is both between a and b and between c and d, each pair given in either order
abbrev pub unordered_separate_of : ℤ → ℤ → ℤ → ℤ → Bool
unordered_separate_of a b c d = separate_of (int_min a b) (int_max a b) (int_min c d) (int_max c d)

-- no vertical line meets both segments
abbrev pub columns_apart_of : Segment → Segment → Bool
columns_apart_of s t = separate_of s.p.x s.q.x t.p.x t.q.x

-- no level line meets both segments
abbrev pub rows_apart_of : Segment → Segment → Bool
rows_apart_of s t = unordered_separate_of s.p.y s.q.y t.p.y t.q.y

-- the bounding boxes of the two segments have no point in common
abbrev pub apart_of : Segment → Segment → Bool
apart_of s t = columns_apart_of s t || rows_apart_of s t
