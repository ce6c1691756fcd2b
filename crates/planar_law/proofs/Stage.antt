-- Two edges that come to a common point, while one coordinate moves and the other stands still, cross
-- where they begin. With ends in order of level the levels of one edge lie between those of the
-- other (Nested), or each has one end at a level of the other (Staggered), or all levels are one
-- (Flat). The last can't be: an end that comes to a point of the other edge isn't clear of it.

use Rattle.std.proofs.Common.{◌≡◌, refl, sym, ap, ◌∙◌, arith, [], ◌∷◌, ◌⊎◌, inl, inr, ⊎_elim}
use Rattle.std.specs.Prelude.{ℤ, pos, ◌+ℤ◌, ◌-ℤ◌, ◌*ℤ◌, ◌≤ℤ◌, ◌<ℤ◌}
use Rattle.grid_core.proofs.Signed.{signed}
use Rattle.grid_core.proofs.Ring.{int_lt_or_le, int_le_of_mul}
use Rattle.grid_core.proofs.Polynomial.{V, K, ◌⊕◌, ◌⊖◌, ◌⊗◌, same_polynomial}
use Rattle.planar_law.proofs.Inequalities.{weak, le_less}
use Rattle.planar_law.proofs.Mix.{AreWeights, mix, mix-le, in_pixel}
use Rattle.planar_law.proofs.Tracks.{Track, IsCommon, IsSlide, MeetAtGoals, CrossAtStarts, in_any_order}
use Rattle.planar_law.proofs.Tracks.{cross_first, cross_both, slide_both, common_both, common_across}
use Rattle.planar_law.proofs.Nested.{nested}
use Rattle.planar_law.proofs.Staggered.{staggered}

-- with the ends of each edge in order, the lesser end of the second isn't beyond the greater of the
-- first: the common point lies between
lesser_end : {xa xb xc xd ya yb yc yd : ℤ} → IsCommon xa xb xc xd ya yb yc yd → ya ≤ℤ yb → yc ≤ℤ yd
    → yc ≤ℤ yb
lesser_end {xa} {xb} {xc} {xd} {ya} {yb} {yc} {yd} h ab cd =
    int_le_of_mul (h.m +ℤ h.k) yc yb h.first.some
    (through _ _ _ _ _ _
    (ap (λ l. l *ℤ yc) h.whole ∙ even h.i h.j yc) (mix-le h.i h.j yc yc yc yd h.second (same yc) cd)
    (sym h.y) (mix-le h.m h.k ya yb yb yb h.first ab (same yb)) (sym (even h.m h.k yb)))
  where
    even : (m k x : ℤ) → (m +ℤ k) *ℤ x ≡ mix m k x x
    even m k x = same_polynomial (m ∷ k ∷ x ∷ []) ((V 0 ⊕ V 1) ⊗ V 2) (V 0 ⊗ V 2 ⊕ V 1 ⊗ V 2) refl

    same : (x : ℤ) → x ≤ℤ x
    same x = omega (arith, signed)

    through : (x y z w p q : ℤ) → x ≡ y → y ≤ℤ z → z ≡ w → w ≤ℤ p → p ≡ q → x ≤ℤ q
    through x y z w p q e h f g i = omega (arith, signed, e, h, f, g, i)

-- ---- all levels are one

-- the four levels are one
abbrev AreLevel : Track → Track → Track → Track → Type 0
AreLevel a b c d = (a.level ≡ b.level) × (a.level ≡ c.level) × (a.level ≡ d.level)

abbrev NotLevel : Track → Track → Track → Track → Type 0
NotLevel a b c d = AreLevel a b c d → ⊥

not_level_first : (a b c d : Track) → NotLevel b a c d → NotLevel a b c d
not_level_first a b c d h l = h (sym l.0, sym l.0 ∙ l.1, sym l.0 ∙ l.2)

not_level_both : (a b c d : Track) → NotLevel c d a b → NotLevel a b c d
not_level_both a b c d h l = h (sym l.1 ∙ l.2, sym l.1, sym l.1 ∙ l.0)

-- the mean of two ends at one level is at that level
even_level : (m k ya yb yc : ℤ) → ya ≡ yc → yb ≡ yc → mix m k ya yb ≡ (m +ℤ k) *ℤ yc
even_level m k ya yb yc e f =
    (λ l. mix m k (e l) (f l))
    ∙ same_polynomial (m ∷ k ∷ yc ∷ []) (V 0 ⊗ V 2 ⊕ V 1 ⊗ V 2) ((V 0 ⊕ V 1) ⊗ V 2) refl

-- in order of where they come to, c comes to a point of the first edge, of which it is clear
flat_ordered : (n : ℤ) (a b c d : Track) → a.goal ≤ℤ b.goal → c.goal ≤ℤ d.goal → a.goal ≤ℤ c.goal
    → IsSlide n a b c d → MeetAtGoals a b c d → NotLevel a b c d
flat_ordered n a b c d ab cd ac s h l =
    ⊎_elim (λ (rises : a.goal <ℤ b.goal). onto _ _ (inside a.goal b.goal c.goal ac cb rises) (mean a.goal b.goal c.goal))
    (λ (still : b.goal ≤ℤ a.goal). onto (pos 1) (pos 0) first_alone
    (at_first a.goal b.goal c.goal (pinched a.goal b.goal c.goal ac cb still)))
    (int_lt_or_le a.goal b.goal)
  where
    cb : c.goal ≤ℤ b.goal
    cb = lesser_end (common_across h) ab cd

    onto : (m k : ℤ) → AreWeights m k → mix m k a.goal b.goal ≡ (m +ℤ k) *ℤ c.goal → ⊥
    onto m k w e =
        s.c_clear m k w (even_level m k a.level b.level c.level l.1 (sym l.0 ∙ l.1))
        (in_pixel m k n a.goal b.goal c.goal a.start b.start w s.in_a s.in_b e)

    inside : (u v w : ℤ) → u ≤ℤ w → w ≤ℤ v → u <ℤ v → AreWeights (v -ℤ w) (w -ℤ u)
    inside u v w h g f =
        record { first = omega (arith, signed, g); second = omega (arith, signed, h); some = omega (arith, signed, f) }

    mean : (u v w : ℤ) → mix (v -ℤ w) (w -ℤ u) u v ≡ ((v -ℤ w) +ℤ (w -ℤ u)) *ℤ w
    mean u v w =
        same_polynomial (u ∷ v ∷ w ∷ []) ((V 1 ⊖ V 2) ⊗ V 0 ⊕ (V 2 ⊖ V 0) ⊗ V 1) (((V 1 ⊖ V 2) ⊕ (V 2 ⊖ V 0)) ⊗ V 2)
        refl

    first_alone : AreWeights (pos 1) (pos 0)
    first_alone = record { first = omega (arith, signed); second = omega (arith, signed); some = omega (arith, signed) }

    pinched : (u v w : ℤ) → u ≤ℤ w → w ≤ℤ v → v ≤ℤ u → u ≡ w
    pinched u v w h g f = omega (arith, signed, h, g, f)

    at_first : (u v w : ℤ) → u ≡ w → mix (pos 1) (pos 0) u v ≡ (pos 1 +ℤ pos 0) *ℤ w
    at_first u v w e =
        same_polynomial (u ∷ v ∷ []) (K (pos 1) ⊗ V 0 ⊕ K (pos 0) ⊗ V 1) ((K (pos 1) ⊕ K (pos 0)) ⊗ V 0) refl
        ∙ ap (λ x. (pos 1 +ℤ pos 0) *ℤ x) e

-- edges at one level that slide don't come to a common point
flat : (n : ℤ) (a b c d : Track) → IsSlide n a b c d → MeetAtGoals a b c d → NotLevel a b c d
flat n = in_any_order n (λ t. t.goal) NotLevel not_level_first not_level_both (flat_ordered n)

-- ---- in order of level

staged_ordered : (n : ℤ) (a b c d : Track) → a.level ≤ℤ b.level → c.level ≤ℤ d.level
    → a.level ≤ℤ c.level
    → IsSlide n a b c d → MeetAtGoals a b c d → CrossAtStarts a b c d
staged_ordered n a b c d ab cd ac s h =
    by (int_lt_or_le b.level d.level) (int_lt_or_le a.level b.level) (int_lt_or_le a.level c.level)
  where
    cb : c.level ≤ℤ b.level
    cb = lesser_end h ab cd

    level : (ya yb yc yd : ℤ) → ya ≤ℤ yc → yc ≤ℤ yd → yd ≤ℤ yb → yb ≤ℤ ya
        → (ya ≡ yb) × (ya ≡ yc) × (ya ≡ yd)
    level ya yb yc yd h g f e =
        (omega (arith, signed, h, g, f, e), omega (arith, signed, h, g, f, e), omega (arith, signed, h, g, f, e))

    by : (b.level <ℤ d.level) ⊎ (d.level ≤ℤ b.level) → (a.level <ℤ b.level) ⊎ (b.level ≤ℤ a.level)
        → (a.level <ℤ c.level) ⊎ (c.level ≤ℤ a.level) → CrossAtStarts a b c d
    by (inl bd) _ (inl low) = staggered n a b c d low cb bd s h
    by (inl bd) _ (inr same) =
        cross_both a b c d
        (nested n c d a b same (weak _ _ bd) ab (le_less _ _ _ cb bd) (slide_both n a b c d s) (common_both h))
    by (inr db) (inl rises) _ = nested n a b c d ac db cd rises s h
    by (inr db) (inr still) _ =
        absurd (flat n a b c d s h (level a.level b.level c.level d.level ac cd db still))

-- two edges that slide and come to a common point cross where they begin
pub staged : (n : ℤ) (a b c d : Track) → IsSlide n a b c d → MeetAtGoals a b c d
    → CrossAtStarts a b c d
staged n = in_any_order n (λ t. t.level) CrossAtStarts cross_first cross_both (staged_ordered n)
