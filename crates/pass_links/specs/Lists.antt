-- The walks along a segment's list and across a pixel's list, from a key on.
use Rattle.std.specs.Prelude.{◌≡◌, ℕ, List, Option, None}
use Rattle.grid_core.specs.declared.point.Point.{Point}
use Rattle.grid_core.specs.Name.{Label}
use Rattle.pass_links.specs.declared.node.Node.{Node}
use Rattle.pass_links.specs.Chain.{end, way, IsWay, listed}
use Rattle.pass_links.specs.Node.{node_at, along_at, across_at, name_at, pixel_at}

-- the pixels on the way along a segment's list from a key on
abbrev pub pixels_from : List (Option Node) → ℕ → List Point
pixels_from slots key = listed (pixel_at slots) (way (along_at slots) end key)

-- the names on the way across a pixel's list from a key on
abbrev pub names_from : List (Option Node) → ℕ → List Label
names_from slots key = listed (name_at slots) (way (across_at slots) end key)

-- nothing is stored at the end
abbrev pub IsEndFree : List (Option Node) → Type 0
IsEndFree slots = node_at slots end ≡ None

-- the way along the segment's list comes to its end
pub record IsWalkAlong (slots : List (Option Node)) (key : ℕ) : Type 0 where
  pub free : IsEndFree slots
  pub whole : IsWay (along_at slots) key (way (along_at slots) end key)

-- the way across the pixel's list comes to its end
pub record IsWalkAcross (slots : List (Option Node)) (key : ℕ) : Type 0 where
  pub free : IsEndFree slots
  pub whole : IsWay (across_at slots) key (way (across_at slots) end key)
