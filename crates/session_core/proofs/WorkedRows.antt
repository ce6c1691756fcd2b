-- The machine of sessions, computed on rows of commands that were worked by hand.
use Rattle.std.proofs.Common.{◌≡◌, refl}
use Rattle.std.specs.Prelude.{pos, [], ◌∷◌, None}
use Rattle.grid_core.specs.Rounding.{crossing_pixels}
use Rattle.script_read.specs.declared.command.Act.TheVariants.{Take, Insert, Delete, Reads as TellReads, Commit as MakeCommit, Drop, Ask}
use Rattle.script_read.specs.declared.command.Query.TheVariants.{Locate as AskLocate, Route as AskRoute, Hot as AskHot}
use Rattle.script_read.specs.declared.reply.Refusal.TheVariants.{Busy, Range, Point as OnePoint, Unknown as NotLive}
use Rattle.script_read.specs.declared.reply.Said.TheVariants.{At, Ready, Refused, Reads, Nothing, Dropped, Commit, Stale, OnEdge, Between, Route, Unknown, Hot}
use Rattle.session_core.specs.Machine.{start}
use Rattle.session_core.specs.Step.{replies}
use Rattle.session_core.proofs.RowNotation.{sizes, neg, point, at, vertex, edge, tile, name, by, to}

-- a coordinate past the bound is told before equal ends; a prepared change before all else
refusals_and_bounds :
    replies sizes start
    (by 1 (Insert (at 0 0) (at 0 0))
    ∷ by 1 (Insert (at 0 0) (at 1048577 0))
    ∷ by 1 (Insert (at 1048577 5) (at 1048577 5))
    ∷ by 1 (Insert (at 0 0) (at 1048576 0))
    ∷ by 1 (Insert (at 0 0) (at 0 0))
    ∷ by 1 (Delete (name 9 9))
    ∷ by 1 Drop
    ∷ by 1 (Delete (name 9 9))
    ∷ [])
    ≡ to 1 (Refused OnePoint)
    ∷ to 1 (Refused Range)
    ∷ to 1 (Refused Range)
    ∷ to 1 (Ready (name 1 1))
    ∷ to 1 (Refused Busy)
    ∷ to 1 (Refused Busy)
    ∷ to 1 Dropped
    ∷ to 1 (Refused NotLive)
    ∷ []
unfolding replies crossing_pixels
refusals_and_bounds = refl

-- the changes of editors 1 and 2 share tile (0, 0); that of editor 3 has both after its base, and the
-- last of them is named
stale :
    replies sizes start
    (by 1 (Insert (at 0 0) (at 10 0))
    ∷ by 2 (Insert (at 20 20) (at 30 20))
    ∷ by 1 MakeCommit
    ∷ by 2 MakeCommit
    ∷ by 2 MakeCommit
    ∷ by 2 Take
    ∷ by 2 (Insert (at 20 20) (at 30 20))
    ∷ by 2 MakeCommit
    ∷ by 3 (Insert (at 0 5) (at 10 5))
    ∷ by 3 MakeCommit
    ∷ [])
    ≡ to 1 (Ready (name 1 1))
    ∷ to 2 (Ready (name 2 1))
    ∷ to 1 (Commit 1)
    ∷ to 2 (Stale 1 (tile (pos 0) (pos 0)))
    ∷ to 2 Nothing
    ∷ to 2 (At 1)
    ∷ to 2 (Ready (name 2 2))
    ∷ to 2 (Commit 2)
    ∷ to 3 (Ready (name 3 1))
    ∷ to 3 (Stale 2 (tile (pos 0) (pos 0)))
    ∷ []
unfolding replies crossing_pixels
stale = refl

-- two edits far from each other on one long segment: both are committed, the second over an old base
two_far_edits :
    replies sizes start
    (by 3 (Insert (at 0 0) (at 2000 0))
    ∷ by 3 MakeCommit
    ∷ by 1 Take
    ∷ by 2 Take
    ∷ by 1 (Insert (point (pos 10) (neg 5)) (at 10 5))
    ∷ by 2 (Insert (point (pos 1500) (neg 5)) (at 1500 5))
    ∷ by 1 TellReads
    ∷ by 2 TellReads
    ∷ by 2 MakeCommit
    ∷ by 1 MakeCommit
    ∷ by 1 (Ask (AskRoute (name 3 1)))
    ∷ [])
    ≡ to 3 (Ready (name 3 1))
    ∷ to 3 (Commit 1)
    ∷ to 1 (At 1)
    ∷ to 2 (At 1)
    ∷ to 1 (Ready (name 1 1))
    ∷ to 2 (Ready (name 2 1))
    ∷ to 1 (Reads (tile (pos 0) (neg 1) ∷ tile (pos 0) (pos 0) ∷ []))
    ∷ to 2 (Reads (tile (pos 5) (neg 1) ∷ tile (pos 5) (pos 0) ∷ []))
    ∷ to 2 (Commit 2)
    ∷ to 1 (Commit 3)
    ∷ to 1 (Route (name 3 1) (at 0 0 ∷ at 10 0 ∷ at 1500 0 ∷ at 2000 0 ∷ []))
    ∷ []
unfolding replies crossing_pixels
two_far_edits = refl

-- segments over a tile's border
tile_border :
    replies sizes start
    (by 1 (Insert (at 250 0) (at 260 0))
    ∷ by 1 TellReads
    ∷ by 1 MakeCommit
    ∷ by 1 (Insert (point (pos 255) (neg 1)) (at 256 1))
    ∷ by 1 TellReads
    ∷ by 1 MakeCommit
    ∷ by 1 (Ask (AskHot (at 256 0)))
    ∷ by 1 (Ask (AskRoute (name 1 1)))
    ∷ by 1 (Ask (AskRoute (name 1 2)))
    ∷ [])
    ≡ to 1 (Ready (name 1 1))
    ∷ to 1 (Reads (tile (pos 0) (pos 0) ∷ tile (pos 1) (pos 0) ∷ []))
    ∷ to 1 (Commit 1)
    ∷ to 1 (Ready (name 1 2))
    ∷ to 1 (Reads (tile (pos 0) (neg 1) ∷ tile (pos 0) (pos 0) ∷ tile (pos 1) (pos 0) ∷ []))
    ∷ to 1 (Commit 2)
    ∷ to 1 (Hot (vertex (at 256 0) 0 1))
    ∷ to 1 (Route (name 1 1) (at 250 0 ∷ at 256 0 ∷ at 260 0 ∷ []))
    ∷ to 1 (Route (name 1 2) (point (pos 255) (neg 1) ∷ at 256 0 ∷ at 256 1 ∷ []))
    ∷ []
unfolding replies crossing_pixels
tile_border = refl

-- two editors delete one segment: the second is stale, and prepares again while it holds version 1
name_deleted_twice :
    replies sizes start
    (by 1 (Insert (at 0 0) (at 10 0))
    ∷ by 1 MakeCommit
    ∷ by 2 Take
    ∷ by 3 Take
    ∷ by 2 (Delete (name 1 1))
    ∷ by 3 (Delete (name 1 1))
    ∷ by 2 MakeCommit
    ∷ by 3 MakeCommit
    ∷ by 3 (Delete (name 1 1))
    ∷ by 3 Drop
    ∷ by 3 Take
    ∷ by 3 (Delete (name 1 1))
    ∷ [])
    ≡ to 1 (Ready (name 1 1))
    ∷ to 1 (Commit 1)
    ∷ to 2 (At 1)
    ∷ to 3 (At 1)
    ∷ to 2 (Ready (name 1 1))
    ∷ to 3 (Ready (name 1 1))
    ∷ to 2 (Commit 2)
    ∷ to 3 (Stale 2 (tile (pos 0) (pos 0)))
    ∷ to 3 (Ready (name 1 1))
    ∷ to 3 Dropped
    ∷ to 3 (At 2)
    ∷ to 3 (Refused NotLive)
    ∷ []
unfolding replies crossing_pixels
name_deleted_twice = refl

-- a version that is held stays as it was
held_version :
    replies sizes start
    (by 1 (Insert (at 0 0) (at 10 0))
    ∷ by 1 MakeCommit
    ∷ by 2 Take
    ∷ by 1 (Insert (point (pos 5) (neg 5)) (at 5 5))
    ∷ by 1 MakeCommit
    ∷ by 1 (Delete (name 1 1))
    ∷ by 1 MakeCommit
    ∷ by 2 (Ask (AskRoute (name 1 1)))
    ∷ by 2 (Ask (AskLocate (at 512 0)))
    ∷ by 2 Take
    ∷ by 2 (Ask (AskRoute (name 1 1)))
    ∷ by 2 (Ask (AskLocate (at 512 0)))
    ∷ [])
    ≡ to 1 (Ready (name 1 1))
    ∷ to 1 (Commit 1)
    ∷ to 2 (At 1)
    ∷ to 1 (Ready (name 1 2))
    ∷ to 1 (Commit 2)
    ∷ to 1 (Ready (name 1 1))
    ∷ to 1 (Commit 3)
    ∷ to 2 (Route (name 1 1) (at 0 0 ∷ at 10 0 ∷ []))
    ∷ to 2 (OnEdge (edge (at 0 0) (at 10 0)))
    ∷ to 2 (At 3)
    ∷ to 2 (Unknown (name 1 1))
    ∷ to 2 (Between None None)
    ∷ []
unfolding replies crossing_pixels
held_version = refl

-- a later `take` leaves the base of a prepared change; a serial is given once, also after `drop`
old_base :
    replies sizes start
    (by 1 (Insert (at 0 0) (at 10 0))
    ∷ by 2 (Insert (at 0 5) (at 10 5))
    ∷ by 1 MakeCommit
    ∷ by 2 Take
    ∷ by 2 MakeCommit
    ∷ by 2 (Insert (at 0 5) (at 10 5))
    ∷ by 2 Drop
    ∷ by 2 (Insert (at 0 5) (at 10 5))
    ∷ by 2 MakeCommit
    ∷ [])
    ≡ to 1 (Ready (name 1 1))
    ∷ to 2 (Ready (name 2 1))
    ∷ to 1 (Commit 1)
    ∷ to 2 (At 1)
    ∷ to 2 (Stale 1 (tile (pos 0) (pos 0)))
    ∷ to 2 (Ready (name 2 2))
    ∷ to 2 Dropped
    ∷ to 2 (Ready (name 2 3))
    ∷ to 2 (Commit 2)
    ∷ []
unfolding replies crossing_pixels
old_base = refl
