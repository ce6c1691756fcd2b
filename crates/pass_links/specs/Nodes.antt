-- Nodes under 32-bit keys: as contracts see them, and how they are kept.
use Rattle.std.specs.Prelude.{◌≡◌, ◌≢◌, ℕ, ◌≤◌, List, map, length, Option, None, Some, slice_index_or}
use Rattle.std.specs.List.{zip}
use Rattle.grid_core.specs.declared.point.Point.{Point}
use Rattle.slab.specs.Slab.{Slab}
use Rattle.pass_links.specs.declared.node.Node.{Node}
use Rattle.pass_links.specs.declared.nodes.Links.{Links}
use Rattle.pass_links.specs.Chain.{end}

-- the node or nothing at each key from 0 on, and how many more nodes fit without memory
pub record Slots : Type 0 where
  pub slots : List (Option Node)
  pub room : ℕ

-- the node at a key, if there is one
abbrev pub stored_at : List (Option Node) → ℕ → Option Node
stored_at slots key = slice_index_or slots key None

-- new has this at the key, and at each other key what old has there
pub record Changes (old new : List (Option Node)) (key : ℕ) (slot : Option Node) : Type 0 where
  pub changed : stored_at new key ≡ slot
  pub others : (other : ℕ) → other ≢ key → stored_at new other ≡ stored_at old other

-- the node with this pixel and these links
abbrev pub node_with : Point → Links → Node
node_with pixel links = record {
  name = links.name;
  pixel = pixel;
  next_of_segment = links.next_of_segment;
  previous_of_segment = links.previous_of_segment;
  next_of_pixel = links.next_of_pixel;
  previous_of_pixel = links.previous_of_pixel;
}

-- the node of a slot of the slab and the pixel beside it; beside no links a pixel means nothing
abbrev pub node_of : Option Links × Point → Option Node
node_of (None, pixel) = None
node_of (Some links, pixel) = Some (node_with pixel links)

-- the nodes of these slots of the slab and the pixels beside them
abbrev pub nodes_of : List (Option Links) → List Point → List (Option Node)
nodes_of slots pixels = map node_of (zip slots pixels)

-- each key that the slab has room for is below the end and has a pixel beside it
pub record HasPixels (links : Slab Links) (pixels : List Point) : Type 0 where
  pub keys : links.capacity ≤ end
  pub pixel_count : length pixels ≡ links.capacity
  pub slot_count : length links.slots ≤ length pixels
