-- Lists of segments, one alone in its place.
use Rattle.std.specs.Prelude.{List, [], ◌∷◌}
use Rattle.grid_core.specs.Segment.{Segment}
use Rattle.hot_tile.specs.declared.listed.Form.{Form}
use Rattle.hot_tile.specs.declared.listed.Form.TheVariants.{One, Several}

-- the segments
abbrev pub listed : Form → List Segment
listed (One s) = s ∷ []
listed (Several list) = list.items
