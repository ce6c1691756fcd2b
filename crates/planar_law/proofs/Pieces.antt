-- Two edges whose pieces miss each other's pixels. Let the edges from u to v and from w to z have a
-- point in common, where a, b, c and d lie in the pixels u, v, w and z. Replace all y of the centres
-- by those of the points, then all x. In each stage the other coordinate stands still, and Stage
-- applies: so the pieces from a to b and from c to d cross. Coordinates of a to d are over n.

use Rattle.std.proofs.Common.{◌≡◌, subst, sym}
use Rattle.std.specs.Prelude.{ℤ, pos, ◌+ℤ◌, ◌*ℤ◌, ◌<ℤ◌}
use Rattle.grid_core.specs.declared.point.Point.{Point}
use Rattle.grid_core.specs.Vector.{cross_of, minus}
use Rattle.grid_core.specs.Meets.{box_of}
use Rattle.grid_core.specs.Crossing.{RationalPoint}
use Rattle.grid_core.specs.Laws.{IsFromTo, IsInBox}
use Rattle.planar_law.proofs.Mix.{AreWeights, mix, in_pixel, scaled}
use Rattle.planar_law.proofs.Tracks.{Track, IsCommon, IsClear, CrossAtStarts, common_across}
use Rattle.planar_law.proofs.Stage.{staged}

-- the point whose coordinates are those of a over n
abbrev pub over : ℤ → Point → RationalPoint
over n a = record { num_x = a.x; num_y = a.y; den = n }

-- the point with weights m and k between a and b, whose coordinates are over n
abbrev pub between : ℤ → ℤ → ℤ → Point → Point → RationalPoint
between n m k a b = record { num_x = mix m k a.x b.x; num_y = mix m k a.y b.y; den = (m +ℤ k) *ℤ n }

-- no point between a and b lies in pixel w
abbrev pub Misses : ℤ → Point → Point → Point → Type 0
Misses n a b w = (m k : ℤ) → AreWeights m k → IsInBox (box_of w) (between n m k a b) → ⊥

-- the edges from u to v and from w to z have a point in common
abbrev pub MeetAlong : Point → Point → Point → Point → Type 0
MeetAlong u v w z = IsCommon u.x v.x w.x z.x u.y v.y w.y z.y

-- the pieces from a to b and from c to d lie in their edges' pixels, and miss those of the other edge
pub record ArePieces (n : ℤ) (u v w z a b c d : Point) : Type 0 where
  pub some : pos 0 <ℤ n
  pub in_u : IsInBox (box_of u) (over n a)
  pub in_v : IsInBox (box_of v) (over n b)
  pub in_w : IsInBox (box_of w) (over n c)
  pub in_z : IsInBox (box_of z) (over n d)
  pub misses_u : Misses n c d u
  pub misses_v : Misses n c d v
  pub misses_w : Misses n a b w
  pub misses_z : Misses n a b z

-- the pieces cross: they have a point in common, and aren't parallel
pub record PiecesCross (a b c d : Point) : Type 0 where
  pub common : MeetAlong a b c d
  pub apart : cross_of (minus b a) (minus d c) ≡ pos 0 → ⊥

-- ---- the first stage: y moves, and x stands still at the centres

abbrev upright : Point → Point → Track
upright u a = record { goal = u.y; start = a.y; level = u.x }

-- a point between the pieces' ends that is level with a centre lies in that centre's column
clear_upright : (n : ℤ) (u v w a b c : Point) → IsInBox (box_of u) (over n a)
    → IsInBox (box_of v) (over n b)
    → Misses n a b w → IsClear n (upright w c) (upright u a) (upright v b)
clear_upright n u v w a b c in_u in_v misses m k weights level inside =
    misses m k weights
    (record { x = in_pixel m k n u.x v.x w.x a.x b.x weights in_u.x in_v.x level; y = inside })

-- ---- the second stage: x moves, and y stands still at the points

abbrev sideways : Point → Point → Track
sideways u a = record { goal = u.x; start = a.x; level = a.y }

-- a point between the pieces' ends that is level with a point of a pixel lies in that pixel's row
clear_sideways : (n : ℤ) (u v w a b c : Point) → IsInBox (box_of w) (over n c)
    → Misses n a b w → IsClear n (sideways w c) (sideways u a) (sideways v b)
clear_sideways n u v w a b c in_w misses m k weights level inside =
    misses m k weights
    (record {
      x = inside;
      y = subst (λ y. IsFromTo w.y w.y y ((m +ℤ k) *ℤ n)) (sym level) (scaled (m +ℤ k) n w.y w.y c.y weights.some in_w.y);
    })

-- ---- both

-- where the edges have a point in common, the pieces cross
pub pieces_cross : (n : ℤ) (u v w z a b c d : Point) → ArePieces n u v w z a b c d
    → MeetAlong u v w z
    → PiecesCross a b c d
pieces_cross n u v w z a b c d p h =
    record { common = second.common; apart = second.apart }
  where
    first : CrossAtStarts (upright u a) (upright v b) (upright w c) (upright z d)
    first =
        staged n (upright u a) (upright v b) (upright w c) (upright z d)
        (record {
          some = p.some;
          in_a = p.in_u.y;
          in_b = p.in_v.y;
          in_c = p.in_w.y;
          in_d = p.in_z.y;
          a_clear = clear_upright n w z u c d a p.in_w p.in_z p.misses_u;
          b_clear = clear_upright n w z v c d b p.in_w p.in_z p.misses_v;
          c_clear = clear_upright n u v w a b c p.in_u p.in_v p.misses_w;
          d_clear = clear_upright n u v z a b d p.in_u p.in_v p.misses_z;
        })
        (common_across h)

    second : CrossAtStarts (sideways u a) (sideways v b) (sideways w c) (sideways z d)
    second =
        staged n (sideways u a) (sideways v b) (sideways w c) (sideways z d)
        (record {
          some = p.some;
          in_a = p.in_u.x;
          in_b = p.in_v.x;
          in_c = p.in_w.x;
          in_d = p.in_z.x;
          a_clear = clear_sideways n w z u c d a p.in_u p.misses_u;
          b_clear = clear_sideways n w z v c d b p.in_v p.misses_v;
          c_clear = clear_sideways n u v w a b c p.in_w p.misses_w;
          d_clear = clear_sideways n u v z a b d p.in_z p.misses_z;
        })
        (common_across first.common)
