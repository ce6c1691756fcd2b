-- What the machine of sessions says to queries, computed on drawings that were worked by hand.
use Rattle.std.proofs.Common.{◌≡◌, refl}
use Rattle.std.specs.Prelude.{pos, [], ◌∷◌, Some, None}
use Rattle.grid_core.specs.Contours.{steps_after}
use Rattle.grid_core.specs.Rounding.{crossing_pixels}
use Rattle.script_read.specs.declared.command.Act.TheVariants.{Insert, Delete, Commit as MakeCommit, Ask}
use Rattle.script_read.specs.declared.command.Query.TheVariants.{Locate as AskLocate, Route as AskRoute, Hot as AskHot, Bundle as AskBundle, Contour as AskContour}
use Rattle.script_read.specs.declared.reply.Said.TheVariants.{Ready, Commit, Vertex, OnEdge, Between, Route, Unknown, Hot, Cold, Bundle, NoEdge, Contour}
use Rattle.session_core.specs.Machine.{start}
use Rattle.session_core.specs.Step.{replies}
use Rattle.session_core.proofs.RowNotation.{sizes, neg, point, at, vertex, edge, name, by, to}

-- a segment past the lower right corner of pixel (3, 1)
open_corner :
    replies sizes start
    (by 1 (Insert (at 0 0) (at 5 2))
    ∷ by 1 MakeCommit
    ∷ by 1 (Insert (at 0 2) (at 5 0))
    ∷ by 1 MakeCommit
    ∷ by 1 (Insert (at 3 0) (at 4 1))
    ∷ by 1 MakeCommit
    ∷ by 1 (Ask (AskRoute (name 1 3)))
    ∷ by 1 (Ask (AskRoute (name 1 1)))
    ∷ by 1 (Ask (AskRoute (name 1 2)))
    ∷ by 1 (Ask (AskHot (at 4 1)))
    ∷ by 1 (Ask (AskBundle (at 3 1) (at 4 1)))
    ∷ [])
    ≡ to 1 (Ready (name 1 1))
    ∷ to 1 (Commit 1)
    ∷ to 1 (Ready (name 1 2))
    ∷ to 1 (Commit 2)
    ∷ to 1 (Ready (name 1 3))
    ∷ to 1 (Commit 3)
    ∷ to 1 (Route (name 1 3) (at 3 0 ∷ at 4 1 ∷ []))
    ∷ to 1 (Route (name 1 1) (at 0 0 ∷ at 3 1 ∷ at 4 1 ∷ at 5 2 ∷ []))
    ∷ to 1 (Route (name 1 2) (at 0 2 ∷ at 3 1 ∷ at 4 1 ∷ at 5 0 ∷ []))
    ∷ to 1 (Hot (vertex (at 4 1) 1 1))
    ∷ to 1 (Bundle (edge (at 3 1) (at 4 1)) (name 1 1 ∷ name 1 2 ∷ []))
    ∷ []
unfolding replies crossing_pixels
open_corner = refl

-- what a third segment made hot is cold again after its deletion
deletion :
    replies sizes start
    (by 1 (Insert (at 0 0) (at 5 2))
    ∷ by 1 MakeCommit
    ∷ by 1 (Insert (at 0 2) (at 5 0))
    ∷ by 1 MakeCommit
    ∷ by 1 (Insert (at 2 1) (at 3 0))
    ∷ by 1 MakeCommit
    ∷ by 1 (Ask (AskBundle (at 3 1) (at 2 1)))
    ∷ by 1 (Delete (name 1 3))
    ∷ by 1 MakeCommit
    ∷ by 1 (Ask (AskHot (at 2 1)))
    ∷ by 1 (Ask (AskBundle (at 2 1) (at 3 1)))
    ∷ [])
    ≡ to 1 (Ready (name 1 1))
    ∷ to 1 (Commit 1)
    ∷ to 1 (Ready (name 1 2))
    ∷ to 1 (Commit 2)
    ∷ to 1 (Ready (name 1 3))
    ∷ to 1 (Commit 3)
    ∷ to 1 (Bundle (edge (at 2 1) (at 3 1)) (name 1 1 ∷ name 1 2 ∷ name 1 3 ∷ []))
    ∷ to 1 (Ready (name 1 3))
    ∷ to 1 (Commit 4)
    ∷ to 1 (Cold (at 2 1))
    ∷ to 1 NoEdge
    ∷ []
unfolding replies crossing_pixels
deletion = refl

-- two segments between the same ends
same_ends_twice :
    replies sizes start
    (by 1 (Insert (at 0 0) (at 4 0))
    ∷ by 1 MakeCommit
    ∷ by 1 (Insert (at 4 0) (at 0 0))
    ∷ by 1 MakeCommit
    ∷ by 1 (Ask (AskHot (at 0 0)))
    ∷ by 1 (Ask (AskBundle (at 0 0) (at 4 0)))
    ∷ by 1 (Delete (name 1 1))
    ∷ by 1 MakeCommit
    ∷ by 1 (Ask (AskHot (at 0 0)))
    ∷ by 1 (Ask (AskRoute (name 1 2)))
    ∷ by 1 (Ask (AskRoute (name 1 1)))
    ∷ [])
    ≡ to 1 (Ready (name 1 1))
    ∷ to 1 (Commit 1)
    ∷ to 1 (Ready (name 1 2))
    ∷ to 1 (Commit 2)
    ∷ to 1 (Hot (vertex (at 0 0) 2 0))
    ∷ to 1 (Bundle (edge (at 0 0) (at 4 0)) (name 1 1 ∷ name 1 2 ∷ []))
    ∷ to 1 (Ready (name 1 1))
    ∷ to 1 (Commit 3)
    ∷ to 1 (Hot (vertex (at 0 0) 1 0))
    ∷ to 1 (Route (name 1 2) (at 0 0 ∷ at 4 0 ∷ []))
    ∷ to 1 (Unknown (name 1 1))
    ∷ []
unfolding replies crossing_pixels
same_ends_twice = refl

-- two segments overlap, and a third has an end on both
overlap_and_touch :
    replies sizes start
    (by 1 (Insert (at 0 0) (at 10 0))
    ∷ by 1 MakeCommit
    ∷ by 1 (Insert (at 5 0) (at 15 0))
    ∷ by 1 MakeCommit
    ∷ by 1 (Insert (at 5 0) (at 5 5))
    ∷ by 1 MakeCommit
    ∷ by 1 (Ask (AskHot (at 5 0)))
    ∷ by 1 (Ask (AskHot (at 10 0)))
    ∷ by 1 (Ask (AskRoute (name 1 1)))
    ∷ by 1 (Ask (AskRoute (name 1 2)))
    ∷ by 1 (Ask (AskBundle (at 5 0) (at 10 0)))
    ∷ [])
    ≡ to 1 (Ready (name 1 1))
    ∷ to 1 (Commit 1)
    ∷ to 1 (Ready (name 1 2))
    ∷ to 1 (Commit 2)
    ∷ to 1 (Ready (name 1 3))
    ∷ to 1 (Commit 3)
    ∷ to 1 (Hot (vertex (at 5 0) 2 2))
    ∷ to 1 (Hot (vertex (at 10 0) 1 0))
    ∷ to 1 (Route (name 1 1) (at 0 0 ∷ at 5 0 ∷ at 10 0 ∷ []))
    ∷ to 1 (Route (name 1 2) (at 5 0 ∷ at 10 0 ∷ at 15 0 ∷ []))
    ∷ to 1 (Bundle (edge (at 5 0) (at 10 0)) (name 1 1 ∷ name 1 2 ∷ []))
    ∷ []
unfolding replies crossing_pixels
overlap_and_touch = refl

-- where query points lie
places :
    replies sizes start
    (by 1 (Insert (at 0 0) (at 10 0))
    ∷ by 1 MakeCommit
    ∷ by 1 (Insert (at 0 0) (at 10 10))
    ∷ by 1 MakeCommit
    ∷ by 1 (Insert (point (pos 4) (neg 6)) (point (pos 4) (neg 2)))
    ∷ by 1 MakeCommit
    ∷ by 1 (Ask (AskLocate (at 0 0)))
    ∷ by 1 (Ask (AskLocate (at 1280 0)))
    ∷ by 1 (Ask (AskLocate (at 512 256)))
    ∷ by 1 (Ask (AskLocate (point (pos 1024) (neg 1024))))
    ∷ by 1 (Ask (AskLocate (point (pos 1024) (neg 2048))))
    ∷ by 1 (Ask (AskLocate (point (pos 0) (neg 256))))
    ∷ by 1 (Ask (AskLocate (at 0 256)))
    ∷ by 1 (Ask (AskLocate (at 2560 1280)))
    ∷ by 1 (Ask (AskLocate (point (neg 9999999999) (pos 9999999999))))
    ∷ [])
    ≡ to 1 (Ready (name 1 1))
    ∷ to 1 (Commit 1)
    ∷ to 1 (Ready (name 1 2))
    ∷ to 1 (Commit 2)
    ∷ to 1 (Ready (name 1 3))
    ∷ to 1 (Commit 3)
    ∷ to 1 (Vertex (at 0 0))
    ∷ to 1 (OnEdge (edge (at 0 0) (at 10 0)))
    ∷ to 1 (Between (Some (edge (at 0 0) (at 10 10))) (Some (edge (at 0 0) (at 10 0))))
    ∷ to 1 (OnEdge (edge (point (pos 4) (neg 6)) (point (pos 4) (neg 2))))
    ∷ to 1 (Between (Some (edge (at 0 0) (at 10 0))) None)
    ∷ to 1 (Between (Some (edge (at 0 0) (at 10 0))) None)
    ∷ to 1 (Between None (Some (edge (at 0 0) (at 10 10))))
    ∷ to 1 (Between None None)
    ∷ to 1 (Between None None)
    ∷ []
unfolding replies crossing_pixels
places = refl

-- a triangle with a spur inside: its inner contour, its outer one, and a pair that is no edge
contours :
    replies sizes start
    (by 1 (Insert (at 0 0) (at 8 0))
    ∷ by 1 MakeCommit
    ∷ by 1 (Insert (at 0 8) (at 8 0))
    ∷ by 1 MakeCommit
    ∷ by 1 (Insert (at 0 0) (at 0 8))
    ∷ by 1 MakeCommit
    ∷ by 1 (Insert (at 0 0) (at 2 2))
    ∷ by 1 MakeCommit
    ∷ by 1 (Ask (AskContour (at 0 0) (at 8 0)))
    ∷ by 1 (Ask (AskContour (at 2 2) (at 0 0)))
    ∷ by 1 (Ask (AskContour (at 8 0) (at 0 0)))
    ∷ by 1 (Ask (AskContour (at 0 0) (at 9 9)))
    ∷ [])
    ≡ to 1 (Ready (name 1 1))
    ∷ to 1 (Commit 1)
    ∷ to 1 (Ready (name 1 2))
    ∷ to 1 (Commit 2)
    ∷ to 1 (Ready (name 1 3))
    ∷ to 1 (Commit 3)
    ∷ to 1 (Ready (name 1 4))
    ∷ to 1 (Commit 4)
    ∷ to 1 (Contour (record { points = at 0 0 ∷ at 2 2 ∷ at 0 0 ∷ at 8 0 ∷ at 0 8 ∷ []; area2 = pos 64 }))
    ∷ to 1 (Contour (record { points = at 0 0 ∷ at 2 2 ∷ at 0 0 ∷ at 8 0 ∷ at 0 8 ∷ []; area2 = pos 64 }))
    ∷ to 1 (Contour (record { points = at 0 0 ∷ at 0 8 ∷ at 8 0 ∷ []; area2 = neg 64 }))
    ∷ to 1 NoEdge
    ∷ []
unfolding replies crossing_pixels steps_after
contours = refl

-- four segments through one point
star :
    replies sizes start
    (by 1 (Insert (point (neg 3) (pos 0)) (at 3 0))
    ∷ by 1 MakeCommit
    ∷ by 1 (Insert (point (pos 0) (neg 3)) (at 0 3))
    ∷ by 1 MakeCommit
    ∷ by 1 (Insert (point (neg 3) (neg 3)) (at 3 3))
    ∷ by 1 MakeCommit
    ∷ by 1 (Insert (point (neg 3) (pos 3)) (point (pos 3) (neg 3)))
    ∷ by 1 MakeCommit
    ∷ by 1 (Ask (AskHot (at 0 0)))
    ∷ by 1 (Ask (AskRoute (name 1 4)))
    ∷ [])
    ≡ to 1 (Ready (name 1 1))
    ∷ to 1 (Commit 1)
    ∷ to 1 (Ready (name 1 2))
    ∷ to 1 (Commit 2)
    ∷ to 1 (Ready (name 1 3))
    ∷ to 1 (Commit 3)
    ∷ to 1 (Ready (name 1 4))
    ∷ to 1 (Commit 4)
    ∷ to 1 (Hot (vertex (at 0 0) 0 6))
    ∷ to 1 (Route (name 1 4) (point (neg 3) (pos 3) ∷ at 0 0 ∷ point (pos 3) (neg 3) ∷ []))
    ∷ []
unfolding replies crossing_pixels
star = refl
