-- Two edges, whose ends move in one coordinate alone: each end from a point of the plane to the
-- centre of that point's pixel. What is said of the two holds with the ends of either exchanged, and
-- with the edges exchanged, so that ends may be taken in order of any key.

use Rattle.std.proofs.Common.{◌≡◌, refl, sym, ap, subst, ◌∙◌, arith, [], ◌∷◌, ⊎_elim}
use Rattle.std.specs.Prelude.{ℤ, pos, ◌+ℤ◌, ◌-ℤ◌, ◌*ℤ◌, ◌≤ℤ◌, ◌<ℤ◌}
use Rattle.grid_core.proofs.Signed.{signed}
use Rattle.grid_core.proofs.Ring.{int_add_comm, int_lt_or_le}
use Rattle.grid_core.proofs.Polynomial.{V, K, ◌⊖◌, ◌⊗◌, same_polynomial}
use Rattle.grid_core.specs.Laws.{IsFromTo}
use Rattle.planar_law.proofs.Mix.{AreWeights, mix, weights_turned, mix-turned}

-- an end that moves: where it comes to, where it begins (over a denominator that all ends have in
-- common), and its other coordinate, which stands still
pub record Track : Type 0 where
  pub goal : ℤ
  pub start : ℤ
  pub level : ℤ

-- the segments from a to b and from c to d have a point in common: it has weights m and k on the
-- first, i and j on the second
pub record IsCommon (xa xb xc xd ya yb yc yd : ℤ) : Type 0 where
  pub m : ℤ
  pub k : ℤ
  pub i : ℤ
  pub j : ℤ
  pub first : AreWeights m k
  pub second : AreWeights i j
  pub whole : m +ℤ k ≡ i +ℤ j
  pub x : mix m k xa xb ≡ mix i j xc xd
  pub y : mix m k ya yb ≡ mix i j yc yd

-- no point between the starts of f and g that is level with e lies in e's pixel
abbrev pub IsClear : ℤ → Track → Track → Track → Type 0
IsClear n e f g =
    (m k : ℤ)
    → AreWeights m k
    → mix m k f.level g.level ≡ (m +ℤ k) *ℤ e.level
    → IsFromTo e.goal e.goal (mix m k f.start g.start) ((m +ℤ k) *ℤ n)
    → ⊥

-- each of four ends begins in the pixel that it comes to, and is clear of the other edge
pub record IsSlide (n : ℤ) (a b c d : Track) : Type 0 where
  pub some : pos 0 <ℤ n
  pub in_a : IsFromTo a.goal a.goal a.start n
  pub in_b : IsFromTo b.goal b.goal b.start n
  pub in_c : IsFromTo c.goal c.goal c.start n
  pub in_d : IsFromTo d.goal d.goal d.start n
  pub a_clear : IsClear n a c d
  pub b_clear : IsClear n b c d
  pub c_clear : IsClear n c a b
  pub d_clear : IsClear n d a b

-- the edges have a point in common where they come to
abbrev pub MeetAtGoals : Track → Track → Track → Track → Type 0
MeetAtGoals a b c d =
    IsCommon a.goal b.goal c.goal d.goal a.level b.level c.level d.level

-- the cross product of the two edges where they begin
abbrev pub turn : Track → Track → Track → Track → ℤ
turn a b c d =
    (b.start -ℤ a.start) *ℤ (d.level -ℤ c.level) -ℤ (b.level -ℤ a.level) *ℤ (d.start -ℤ c.start)

-- the edges cross where they begin: they have a point in common, and aren't parallel
pub record CrossAtStarts (a b c d : Track) : Type 0 where
  pub common : IsCommon a.start b.start c.start d.start a.level b.level c.level d.level
  pub apart : turn a b c d ≡ pos 0 → ⊥

-- ---- a common point, with ends exchanged

module _ {xa xb xc xd ya yb yc yd : ℤ} where
  -- the ends of the first
  pub common_first : IsCommon xa xb xc xd ya yb yc yd → IsCommon xb xa xc xd yb ya yc yd
  common_first h =
      record {
        m = h.k;
        k = h.m;
        i = h.i;
        j = h.j;
        first = weights_turned h.m h.k h.first;
        second = h.second;
        whole = int_add_comm h.k h.m ∙ h.whole;
        x = mix-turned h.k h.m xb xa ∙ h.x;
        y = mix-turned h.k h.m yb ya ∙ h.y;
      }

  -- the two segments
  pub common_both : IsCommon xa xb xc xd ya yb yc yd → IsCommon xc xd xa xb yc yd ya yb
  common_both h =
      record {
        m = h.i;
        k = h.j;
        i = h.m;
        j = h.k;
        first = h.second;
        second = h.first;
        whole = sym h.whole;
        x = sym h.x;
        y = sym h.y;
      }

  -- the coordinates
  pub common_across : IsCommon xa xb xc xd ya yb yc yd → IsCommon ya yb yc yd xa xb xc xd
  common_across h =
      record {
        m = h.m;
        k = h.k;
        i = h.i;
        j = h.j;
        first = h.first;
        second = h.second;
        whole = h.whole;
        x = h.y;
        y = h.x;
      }

-- the ends of the second
pub common_second : {xa xb xc xd ya yb yc yd : ℤ} → IsCommon xa xb xc xd ya yb yc yd
    → IsCommon xa xb xd xc ya yb yd yc
common_second h = common_both (common_first (common_both h))

-- ---- slides, with ends exchanged

clear_turned : (n : ℤ) (e f g : Track) → IsClear n e f g → IsClear n e g f
clear_turned n e f g h m k w level inside =
    h k m (weights_turned m k w)
    (mix-turned k m f.level g.level ∙ level ∙ ap (λ l. l *ℤ e.level) (int_add_comm m k))
    (subst (λ p. IsFromTo e.goal e.goal p ((k +ℤ m) *ℤ n)) (mix-turned m k g.start f.start)
    (subst (λ l. IsFromTo e.goal e.goal (mix m k g.start f.start) (l *ℤ n)) (int_add_comm m k) inside))

slide_first : (n : ℤ) (a b c d : Track) → IsSlide n a b c d → IsSlide n b a c d
slide_first n a b c d s =
    record {
      some = s.some;
      in_a = s.in_b;
      in_b = s.in_a;
      in_c = s.in_c;
      in_d = s.in_d;
      a_clear = s.b_clear;
      b_clear = s.a_clear;
      c_clear = clear_turned n c a b s.c_clear;
      d_clear = clear_turned n d a b s.d_clear;
    }

pub slide_both : (n : ℤ) (a b c d : Track) → IsSlide n a b c d → IsSlide n c d a b
slide_both n a b c d s =
    record {
      some = s.some;
      in_a = s.in_c;
      in_b = s.in_d;
      in_c = s.in_a;
      in_d = s.in_b;
      a_clear = s.c_clear;
      b_clear = s.d_clear;
      c_clear = s.a_clear;
      d_clear = s.b_clear;
    }

slide_second : (n : ℤ) (a b c d : Track) → IsSlide n a b c d → IsSlide n a b d c
slide_second n a b c d s = slide_both n d c a b (slide_first n c d a b (slide_both n a b c d s))

-- ---- crossings, with ends exchanged

-- a number that isn't 0, known by its negation
not_zero : (t r : ℤ) → t ≡ pos 0 -ℤ r → (r ≡ pos 0 → ⊥) → t ≡ pos 0 → ⊥
not_zero t r e h z = h (omega (arith, signed, e, z))

pub cross_first : (a b c d : Track) → CrossAtStarts b a c d → CrossAtStarts a b c d
cross_first a b c d h =
    record {
      common = common_first h.common;
      apart = not_zero (turn a b c d) (turn b a c d)
          (same_polynomial
          (a.start ∷ b.start ∷ c.start ∷ d.start ∷ a.level ∷ b.level ∷ c.level ∷ d.level ∷ [])
          ((V 1 ⊖ V 0) ⊗ (V 7 ⊖ V 6) ⊖ (V 5 ⊖ V 4) ⊗ (V 3 ⊖ V 2))
          (K (pos 0) ⊖ ((V 0 ⊖ V 1) ⊗ (V 7 ⊖ V 6) ⊖ (V 4 ⊖ V 5) ⊗ (V 3 ⊖ V 2))) refl)
          h.apart;
    }

pub cross_both : (a b c d : Track) → CrossAtStarts c d a b → CrossAtStarts a b c d
cross_both a b c d h =
    record {
      common = common_both h.common;
      apart = not_zero (turn a b c d) (turn c d a b)
          (same_polynomial
          (a.start ∷ b.start ∷ c.start ∷ d.start ∷ a.level ∷ b.level ∷ c.level ∷ d.level ∷ [])
          ((V 1 ⊖ V 0) ⊗ (V 7 ⊖ V 6) ⊖ (V 5 ⊖ V 4) ⊗ (V 3 ⊖ V 2))
          (K (pos 0) ⊖ ((V 3 ⊖ V 2) ⊗ (V 5 ⊖ V 4) ⊖ (V 7 ⊖ V 6) ⊗ (V 1 ⊖ V 0))) refl)
          h.apart;
    }

cross_second : (a b c d : Track) → CrossAtStarts a b d c → CrossAtStarts a b c d
cross_second a b c d h = cross_both a b c d (cross_first c d a b (cross_both d c a b h))

-- ---- ends in order

-- what follows for two edges that slide and meet where they come to
abbrev pub Follows : ℤ → (Track → Track → Track → Track → Type 0) → Track → Track → Track → Track
    → Type 0
Follows n P a b c d = IsSlide n a b c d → MeetAtGoals a b c d → P a b c d

-- it is enough to show it for ends in order of a key, where it holds with ends exchanged
module _ (n : ℤ) (key : Track → ℤ) (P : Track → Track → Track → Track → Type 0)
    (first : (a b c d : Track) → P b a c d → P a b c d)
    (both : (a b c d : Track) → P c d a b → P a b c d)
    (ordered : (a b c d : Track) → key a ≤ℤ key b → key c ≤ℤ key d → key a ≤ℤ key c → Follows n P a b c d) where
  -- with the ends of each in order
  ends_ordered : (a b c d : Track) → key a ≤ℤ key b → key c ≤ℤ key d → Follows n P a b c d
  ends_ordered a b c d h g s w =
      ⊎_elim (λ (l : key c <ℤ key a).
      both a b c d (ordered c d a b g h (omega (arith, signed, l)) (slide_both n a b c d s) (common_both w)))
      (λ (l : key a ≤ℤ key c). ordered a b c d h g l s w)
      (int_lt_or_le (key c) (key a))

  -- with those of the first in order
  first_ordered : (a b c d : Track) → key a ≤ℤ key b → Follows n P a b c d
  first_ordered a b c d h s w =
      ⊎_elim (λ (l : key d <ℤ key c).
      both a b c d (first c d a b (both d c a b
      (ends_ordered a b d c h (omega (arith, signed, l)) (slide_second n a b c d s) (common_second w)))))
      (λ (l : key c ≤ℤ key d). ends_ordered a b c d h l s w)
      (int_lt_or_le (key d) (key c))

  pub in_any_order : (a b c d : Track) → Follows n P a b c d
  in_any_order a b c d s w =
      ⊎_elim (λ (l : key b <ℤ key a).
      first a b c d
      (first_ordered b a c d (omega (arith, signed, l)) (slide_first n a b c d s) (common_first w)))
      (λ (l : key a ≤ℤ key b). first_ordered a b c d l s w)
      (int_lt_or_le (key b) (key a))
