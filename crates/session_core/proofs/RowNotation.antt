-- How worked rows are written: sizes, points, names, edges, commands and replies.
use Rattle.std.specs.Prelude.{ℕ, ℤ, pos, ◌-ℤ◌}
use Rattle.grid_core.specs.declared.point.Point.{Point}
use Rattle.grid_core.specs.declared.point.Vertex.{Vertex}
use Rattle.grid_core.specs.declared.tile.TileId.{TileId}
use Rattle.grid_core.specs.Edge.{EdgeEnds}
use Rattle.grid_core.specs.Name.{Label}
use Rattle.grid_core.specs.Profile.{Sizes}
use Rattle.script_read.specs.declared.command.Act.{Act}
use Rattle.script_read.specs.declared.command.Command.{Command}
use Rattle.script_read.specs.declared.reply.Reply.{Reply}
use Rattle.script_read.specs.declared.reply.Said.{Said}

-- tiles of 256 by 256 pixels
abbrev pub sizes : Sizes
sizes = record { bound = 1048576; side = 256 }

abbrev pub neg : ℕ → ℤ
neg n = pos 0 -ℤ pos n

abbrev pub point : ℤ → ℤ → Point
point x y = record { x = x; y = y }

-- a point right of the origin or above it
abbrev pub at : ℕ → ℕ → Point
at x y = point (pos x) (pos y)

-- a hot pixel, the ends in it, the crossings in it
abbrev pub vertex : Point → ℕ → ℕ → Vertex
vertex h ends crossings = record { at = h; ends = ends; crossings = crossings }

-- an edge, lesser end first
abbrev pub edge : Point → Point → EdgeEnds
edge a b = record { a = a; b = b }

abbrev pub tile : ℤ → ℤ → TileId
tile i j = record { i = i; j = j }

abbrev pub name : ℕ → ℕ → Label
name editor serial = record { editor = editor; serial = serial }

-- an editor's command
abbrev pub by : ℕ → Act → Command
by editor act = record { editor = editor; act = act }

-- a reply to an editor
abbrev pub to : ℕ → Said → Reply
to editor said = record { editor = editor; said = said }
