-- How the passes are kept: each is a node of two lists, that of its segment and that of its pixel.
use Rattle.std.specs.Prelude.{◌≡◌, ℕ, ◌≤◌, false, List, Option}
use Rattle.grid_core.specs.declared.point.Point.{Point}
use Rattle.grid_core.specs.Vector.{point_cmp, point_eq}
use Rattle.grid_core.specs.Name.{Label, label_cmp, label_eq}
use Rattle.pass_links.specs.declared.node.Node.{Node}
use Rattle.pass_links.specs.declared.heads.Head.{Head}
use Rattle.pass_links.specs.Chain.{end, IsFamily, LinksBack}
use Rattle.pass_links.specs.Node.{along_at, across_at, back_along_at, back_across_at, name_at, pixel_at}
use Rattle.pass_links.specs.Lists.{pixels_from, names_from}
use Rattle.pass_links.specs.Heads.{segment_start, pixel_start, Rise}
use Rattle.pass_links.specs.Passes.{linked_behind, with_name, AreLinked}

-- The lists of the segments begin at `of_segment`, those of the pixels at `of_pixel`, and each node
-- stands in the list of its segment and in that of its pixel, with the links back in both.
pub record AreFiled (slots : List (Option Node)) (of_segment : Label → ℕ) (of_pixel : Point → ℕ) : Type 0 where
  pub along : IsFamily label_eq (along_at slots) of_segment (name_at slots) end
  pub across : IsFamily point_eq (across_at slots) of_pixel (pixel_at slots) end
  pub back_along : LinksBack (along_at slots) of_segment (name_at slots) (back_along_at slots)
  pub back_across : LinksBack (across_at slots) of_pixel (pixel_at slots) (back_across_at slots)
  pub linked : AreLinked (λ n. pixels_from slots (of_segment n)) (λ p. names_from slots (of_pixel p))

-- the lists after a pass was linked, where those of segments began at a and begin at a', and those of pixels at b and b'
pub record AreLonger (old new : List (Option Node)) (a a' : Label → ℕ) (b b' : Point → ℕ) (name : Label) (pixel : Point) (after : Option Point) : Type 0 where
  pub filed : AreFiled new a' b'
  pub segment : pixels_from new (a' name) ≡ linked_behind after pixel (pixels_from old (a name))
  pub segments : (n : Label) → label_eq n name ≡ false → pixels_from new (a' n) ≡ pixels_from old (a n)
  pub here : names_from new (b' pixel) ≡ with_name name (names_from old (b pixel))
  pub pixels : (p : Point) → point_eq p pixel ≡ false → names_from new (b' p) ≡ names_from old (b p)

-- the lists are filed, and `spare` passes have room
pub record IsFiled (slots : List (Option Node)) (segments : List (Head Label)) (pixels : List (Head Point)) (spare room : ℕ) : Type 0 where
  pub lists : AreFiled slots (segment_start segments) (pixel_start pixels)
  pub by_name : Rise label_cmp segments
  pub by_pixel : Rise point_cmp pixels
  pub fits : spare ≤ room
