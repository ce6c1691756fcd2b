-- Fields of a line: the longest runs of bytes other than space (32) and tab (9).
use Rattle.std.specs.Prelude.{◌≡◌, ℕ, ◌-◌, ◌<◌, ◌≤◌, Bool, ◌&&◌, ◌||◌, true, false, not, nat_lt, ◌==◌, List, [], ◌∷◌, length, drop, filter, slice_index, if◌then◌else◌}
use Rattle.std.specs.List.{slice_split}

-- a space or a tab
abbrev pub is_blank : ℕ → Bool
is_blank b = b == 32 || b == 9

-- there is a byte
abbrev pub has_bytes : List ℕ → Bool
has_bytes [] = false
has_bytes (b ∷ bs) = true

-- the fields of a line: what stands between spaces and tabs, where it isn't empty
unfoldable pub fields_of : List ℕ → List (List ℕ)
fields_of line = filter has_bytes (slice_split is_blank line)

-- the byte at `at` belongs to a field that began before it
abbrev pub runs_on : List ℕ → ℕ → Bool
runs_on line at =
    nat_lt 0 at && nat_lt at (length line)
    && not (is_blank (slice_index line (at - 1))) && not (is_blank (slice_index line at))

-- the fields that begin at or after `from`: one that runs on from before it isn't among them
unfoldable pub fields_from : List ℕ → ℕ → List (List ℕ)
fields_from line from = drop (if runs_on line from then 1 else 0) (fields_of (drop from line))

-- from `start` to `end` there is a byte, and the line has them all, none of them before `from`
pub record IsSpan (line : List ℕ) (from start end : ℕ) : Type 0 where
  pub after : from ≤ start
  pub some : start < end
  pub within : end ≤ length line

-- from `from` to `end` no byte is a space or a tab, and that is so of no longer run
pub record IsRun (line : List ℕ) (from end : ℕ) : Type 0 where
  pub after : from ≤ end
  pub within : end ≤ length line
  pub run : (k : ℕ) → from ≤ k → k < end → is_blank (slice_index line k) ≡ false
  pub ended : end < length line → is_blank (slice_index line end) ≡ true
