-- Points of an edge by weights: the one that is a / b of the way has the weights b - a and a. A point of
-- two edges has weights on both with one sum, each pair times the other's sum; so the same mean of
-- the ends of each is one point.

use Rattle.std.proofs.Common.{◌≡◌, refl, sym, ap, ◌∙◌, arith, [], ◌∷◌}
use Rattle.std.specs.Prelude.{ℤ, pos, ◌+ℤ◌, ◌-ℤ◌, ◌*ℤ◌, ◌<ℤ◌}
use Rattle.grid_core.specs.declared.point.Point.{Point}
use Rattle.grid_core.specs.Edge.{EdgeEnds}
use Rattle.grid_core.specs.Crossing.{RationalPoint}
use Rattle.grid_core.specs.Planar.{IsOnEdge}
use Rattle.grid_core.proofs.Signed.{signed}
use Rattle.grid_core.proofs.Ring.{int_same_of_mul, int_add_comm, int_mul_comm}
use Rattle.grid_core.proofs.Polynomial.{V, K, ◌⊕◌, ◌⊖◌, ◌⊗◌, same_polynomial}
use Rattle.planar_law.proofs.Mix.{AreWeights, mix, mix-turned, weights_turned, weights_times}
use Rattle.planar_law.proofs.Pieces.{MeetAlong}

-- c has weights m and k between u and v: its fractions are the same mean of the two points
pub record HasWeights (u v : Point) (c : RationalPoint) (m k : ℤ) : Type 0 where
  pub weights : AreWeights m k
  pub x : mix m k u.x v.x *ℤ c.den ≡ (m +ℤ k) *ℤ c.num_x
  pub y : mix m k u.y v.y *ℤ c.den ≡ (m +ℤ k) *ℤ c.num_y

-- the weights of a point of an edge
pub weights_on : (e : EdgeEnds) (c : RationalPoint) (h : IsOnEdge e c)
    → HasWeights e.a e.b c (pos h.b -ℤ pos h.a) (pos h.a)
weights_on e c h =
    record {
      weights = record {
        first = omega (arith, signed, h.part);
        second = omega (arith, signed);
        some = omega (arith, signed, h.whole);
      };
      x = mean (pos h.a) (pos h.b) e.a.x e.b.x c.den c.num_x h.is.x;
      y = mean (pos h.a) (pos h.b) e.a.y e.b.y c.den c.num_y h.is.y;
    }
  where
    mean : (a b p q d n : ℤ) → n *ℤ b ≡ (p *ℤ b +ℤ a *ℤ (q -ℤ p)) *ℤ d
        → mix (b -ℤ a) a p q *ℤ d ≡ ((b -ℤ a) +ℤ a) *ℤ n
    mean a b p q d n e =
        same_polynomial (a ∷ b ∷ p ∷ q ∷ d ∷ []) (((V 1 ⊖ V 0) ⊗ V 2 ⊕ V 0 ⊗ V 3) ⊗ V 4)
        ((V 2 ⊗ V 1 ⊕ V 0 ⊗ (V 3 ⊖ V 2)) ⊗ V 4) refl
        ∙ sym e ∙ same_polynomial (a ∷ b ∷ n ∷ []) (V 2 ⊗ V 1) (((V 1 ⊖ V 0) ⊕ V 0) ⊗ V 2) refl

-- a whole point is the mean itself
pub whole_mean : (m k x y n : ℤ) → mix m k x y *ℤ pos 1 ≡ (m +ℤ k) *ℤ n
    → mix m k x y ≡ (m +ℤ k) *ℤ n
whole_mean m k x y n e =
    same_polynomial (m ∷ k ∷ x ∷ y ∷ []) (V 0 ⊗ V 2 ⊕ V 1 ⊗ V 3) ((V 0 ⊗ V 2 ⊕ V 1 ⊗ V 3) ⊗ K (pos 1)) refl ∙ e

-- the weights from the other end
pub has_turned : (u v : Point) (c : RationalPoint) (m k : ℤ) → HasWeights u v c m k
    → HasWeights v u c k m
has_turned u v c m k h =
    record {
      weights = weights_turned m k h.weights;
      x = ap (λ z. z *ℤ c.den) (mix-turned k m v.x u.x) ∙ h.x ∙ ap (λ l. l *ℤ c.num_x) (int_add_comm m k);
      y = ap (λ z. z *ℤ c.den) (mix-turned k m v.y u.y) ∙ h.y ∙ ap (λ l. l *ℤ c.num_y) (int_add_comm m k);
    }

-- the weights times a number
has_times : (u v : Point) (c : RationalPoint) (m k l : ℤ) → pos 0 <ℤ l → HasWeights u v c m k
    → HasWeights u v c (m *ℤ l) (k *ℤ l)
has_times u v c m k l some h =
    record {
      weights = weights_times m k l h.weights some;
      x = by u.x v.x c.num_x h.x;
      y = by u.y v.y c.num_y h.y;
    }
  where
    by : (p q n : ℤ) → mix m k p q *ℤ c.den ≡ (m +ℤ k) *ℤ n
        → mix (m *ℤ l) (k *ℤ l) p q *ℤ c.den ≡ (m *ℤ l +ℤ k *ℤ l) *ℤ n
    by p q n e =
        same_polynomial (m ∷ k ∷ l ∷ p ∷ q ∷ c.den ∷ []) (((V 0 ⊗ V 2) ⊗ V 3 ⊕ (V 1 ⊗ V 2) ⊗ V 4) ⊗ V 5)
        (V 2 ⊗ ((V 0 ⊗ V 3 ⊕ V 1 ⊗ V 4) ⊗ V 5)) refl
        ∙ ap (λ z. l *ℤ z) e
        ∙ same_polynomial (m ∷ k ∷ l ∷ n ∷ []) (V 2 ⊗ ((V 0 ⊕ V 1) ⊗ V 3)) ((V 0 ⊗ V 2 ⊕ V 1 ⊗ V 2) ⊗ V 3) refl

-- ---- points of two edges

-- c lies between u and v, and between w and z, by weights with one sum
pub record IsShared (u v w z : Point) (c : RationalPoint) : Type 0 where
  pub m : ℤ
  pub k : ℤ
  pub i : ℤ
  pub j : ℤ
  pub first : HasWeights u v c m k
  pub second : HasWeights w z c i j
  pub whole : m +ℤ k ≡ i +ℤ j

-- a point of two edges
pub shared : (e f : EdgeEnds) (c : RationalPoint) → IsOnEdge e c → IsOnEdge f c
    → IsShared e.a e.b f.a f.b c
shared e f c h g = by _ _ _ _ (weights_on e c h) (weights_on f c g)
  where
    by : (m k i j : ℤ) → HasWeights e.a e.b c m k → HasWeights f.a f.b c i j
        → IsShared e.a e.b f.a f.b c
    by m k i j h g =
        record {
          m = m *ℤ (i +ℤ j);
          k = k *ℤ (i +ℤ j);
          i = i *ℤ (m +ℤ k);
          j = j *ℤ (m +ℤ k);
          first = has_times e.a e.b c m k (i +ℤ j) g.weights.some h;
          second = has_times f.a f.b c i j (m +ℤ k) h.weights.some g;
          whole = same_polynomial (m ∷ k ∷ i ∷ j ∷ []) (V 0 ⊗ (V 2 ⊕ V 3) ⊕ V 1 ⊗ (V 2 ⊕ V 3))
              (V 2 ⊗ (V 0 ⊕ V 1) ⊕ V 3 ⊗ (V 0 ⊕ V 1)) refl;
        }

module _ {u v w z : Point} {c : RationalPoint} where
  -- the ends of the first the other way round, and those of the second
  pub shared_first : IsShared u v w z c → IsShared v u w z c
  shared_first h =
      record {
        m = h.k;
        k = h.m;
        i = h.i;
        j = h.j;
        first = has_turned u v c h.m h.k h.first;
        second = h.second;
        whole = int_add_comm h.k h.m ∙ h.whole;
      }

  pub shared_second : IsShared u v w z c → IsShared u v z w c
  shared_second h =
      record {
        m = h.m;
        k = h.k;
        i = h.j;
        j = h.i;
        first = h.first;
        second = has_turned w z c h.i h.j h.second;
        whole = h.whole ∙ int_add_comm h.i h.j;
      }

  module _ (some : pos 0 <ℤ c.den) (h : IsShared u v w z c) where
    one : (x y l r n : ℤ) → x *ℤ c.den ≡ l *ℤ n → y *ℤ c.den ≡ r *ℤ n → l ≡ r → x ≡ y
    one x y l r n e f g =
        int_same_of_mul c.den x y some
        (int_mul_comm c.den x ∙ e ∙ ap (λ t. t *ℤ n) g ∙ sym f ∙ int_mul_comm y c.den)

    -- the two means are one point
    pub same_x : mix h.m h.k u.x v.x ≡ mix h.i h.j w.x z.x
    same_x = one _ _ _ _ c.num_x h.first.x h.second.x h.whole

    pub same_y : mix h.m h.k u.y v.y ≡ mix h.i h.j w.y z.y
    same_y = one _ _ _ _ c.num_y h.first.y h.second.y h.whole

    pub meet_along : MeetAlong u v w z
    meet_along =
        record {
          m = h.m;
          k = h.k;
          i = h.i;
          j = h.j;
          first = h.first.weights;
          second = h.second.weights;
          whole = h.whole;
          x = same_x;
          y = same_y;
        }
