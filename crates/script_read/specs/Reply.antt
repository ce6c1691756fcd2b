-- Replies: lines of text, with one space between two fields; `show` alone is answered by a text of
-- its own.
use Rattle.std.specs.Prelude.{ℕ, Bool, true, false, if◌then◌else◌, List, ◌++◌, length, flat_map, codes, decimal, Option, Some, None}
use Rattle.std.specs.Fmt.{signed_decimal}
use Rattle.grid_core.specs.declared.tile.TileId.{TileId}
use Rattle.grid_core.specs.Edge.{EdgeEnds}
use Rattle.seg_text.specs.Text.{name_text, spaced_point, spaced_name}
use Rattle.script_read.specs.declared.reply.Reply.{Reply}
use Rattle.script_read.specs.declared.reply.Said.{Said}
use Rattle.script_read.specs.declared.reply.Said.TheVariants.{At, Ready, Refused, Reads, Nothing, Dropped, Commit, Stale, Full, Vertex, OnEdge, Between, Route, Unknown, Hot, Cold, Bundle, NoEdge, Contour, Show}
use Rattle.script_read.specs.declared.reply.Refusal.{Refusal}
use Rattle.script_read.specs.declared.reply.Refusal.TheVariants.{Busy, Range, Point, Serials, Unknown as NotLive}
use Rattle.script_read.specs.declared.reply.FullText.{FullText}
use Rattle.script_read.specs.declared.reply.FullText.TheVariants.{Commits, Segments, Spans, Passes}

-- the word for a refusal
abbrev pub refusal_word : Refusal → List ℕ
refusal_word Busy = codes "busy"
refusal_word Range = codes "range"
refusal_word Point = codes "point"
refusal_word Serials = codes "serials"
refusal_word NotLive = codes "unknown"

-- the word for what is full
abbrev pub full_word : FullText → List ℕ
full_word Commits = codes "commits"
full_word Segments = codes "segments"
full_word Spans = codes "spans"
full_word Passes = codes "passes"

-- `I J`, behind a space
unfoldable pub spaced_tile : TileId → List ℕ
spaced_tile t = codes " " ++ signed_decimal t.i ++ codes " " ++ signed_decimal t.j

-- `x1 y1 x2 y2`, behind a space: an edge, lesser end first
unfoldable pub spaced_edge : EdgeEnds → List ℕ
spaced_edge e = spaced_point e.a ++ spaced_point e.b

-- an edge, or `none` where there is none
unfoldable pub edge_or_none : Option EdgeEnds → List ℕ
edge_or_none None = codes " none"
edge_or_none (Some e) = spaced_edge e

-- what is said, as text: the words and values behind the editor, or the text that is shown
unfoldable pub said_text : Said → List ℕ
said_text (At n) = codes " at " ++ decimal n
said_text (Ready name) = codes " ready " ++ name_text name
said_text (Refused why) = codes " refused " ++ refusal_word why
said_text (Reads tiles) = (codes " reads " ++ decimal (length tiles)) ++ flat_map spaced_tile tiles
said_text Nothing = codes " none"
said_text Dropped = codes " dropped"
said_text (Commit n) = codes " commit " ++ decimal n
said_text (Stale by tile) = (codes " stale by " ++ decimal by) ++ codes " tile" ++ spaced_tile tile
said_text (Full what) = codes " full " ++ full_word what
said_text (Vertex at) = codes " vertex" ++ spaced_point at
said_text (OnEdge edge) = codes " edge" ++ spaced_edge edge
said_text (Between above below) =
    (codes " between above" ++ edge_or_none above) ++ (codes " below" ++ edge_or_none below)
said_text (Route name points) =
    (codes " route " ++ name_text name) ++ (codes " " ++ decimal (length points))
    ++ flat_map spaced_point points
said_text (Unknown name) = codes " unknown " ++ name_text name
said_text (Hot v) =
    (codes " hot" ++ spaced_point v.at) ++ (codes " ends " ++ decimal v.ends)
    ++ (codes " crossings " ++ decimal v.crossings)
said_text (Cold at) = codes " cold" ++ spaced_point at
said_text (Bundle edge names) =
    (codes " bundle" ++ spaced_edge edge) ++ (codes " " ++ decimal (length names))
    ++ flat_map spaced_name names
said_text NoEdge = codes " no edge"
said_text (Contour walk) =
    (codes " contour " ++ decimal (length walk.points))
    ++ (codes " area2 " ++ signed_decimal walk.area2) ++ flat_map spaced_point walk.points
said_text (Show text) = text

-- the drawing is shown, as a text of its own
abbrev pub is_shown : Said → Bool
is_shown (Show text) = true
is_shown _ = false

-- the text of a reply: a line that begins with the editor, or the text that is shown
unfoldable pub reply_text : Reply → List ℕ
reply_text reply =
    if is_shown reply.said then said_text reply.said
    else decimal reply.editor ++ said_text reply.said ++ codes "\n"

-- line number n is bad
unfoldable pub bad_text : ℕ → List ℕ
bad_text n = codes "bad " ++ decimal n ++ codes "\n"
