-- The rounding of segments within n lies within n: an end does, and a crossing lies between ends, so
-- that it is rounded to a point within n, as n is whole (`rat_cross`).

use Rattle.std.proofs.Common.{◌≡◌, refl, ap, subst, ◌∙◌, arith, ℕ, List, [], ◌∷◌, ◌++◌, ◌⊎◌, inl, inr}
use Rattle.std.proofs.Common.{Contains, Any, Some, None, Option, IfSome}
use Rattle.std.specs.Prelude.{filter_map, option_map, All}
use Rattle.std.specs.List.{cons_option}
use Rattle.std.proofs.lemmas.List.Elements.{All-contains, All-contains_itself, Contains-append_cases}
use Rattle.std.proofs.lemmas.Option.{same_Some}
use Rattle.grid_core.specs.declared.point.Point.{Point}
use Rattle.grid_core.specs.Vector.{IsWithin}
use Rattle.grid_core.specs.Segment.{Segment, IsSegment}
use Rattle.grid_core.specs.Crossing.{RationalPoint, crossing_of, pixel_of}
use Rattle.grid_core.specs.Rounding.{end_points, crossing_pixel, crossing_pixels, hot}
use Rattle.grid_core.proofs.ListMembers.{contains_first, contains_later, contains_cases, contains_flat_map}
use Rattle.grid_core.proofs.RisingMembers.{contains_rising}
use Rattle.grid_core.proofs.Order.{point_total, point_exact}
use Rattle.rat_cross.specs.CrossPoint.{IsCrossPoint}
use Rattle.rat_cross.proofs.Bounds.{crossing_within, pixel_within}

-- what holds of each member holds of all
pub all_of_each : {X : Type 0} (P : X → Type 0) (xs : List X) → ((x : X) → Contains xs x → P x)
    → All P xs
all_of_each P xs each k d fits = each _ (All-contains_itself xs k d fits)

-- what is found in a list is found of a member
found_of : {X Y : Type 0} (f : X → Option Y) (xs : List X) (y : Y) → Contains (filter_map f xs) y
    → (x : X) × Contains xs x × f x ≡ Some y
found_of f [] y c = absurd (omega (arith, c.1))
found_of {X = X} {Y = Y} f (x ∷ xs) y c = by (f x) refl (found_of f xs y) c
  where
    by : (o : Option Y) → f x ≡ o
        → (Contains (filter_map f xs) y → (z : X) × Contains xs z × f z ≡ Some y)
        → Contains (cons_option o (filter_map f xs)) y
        → (z : X) × Contains (x ∷ xs) z × f z ≡ Some y
    by None e rest d = let r = rest d in (r.0, contains_later x xs r.0 r.1, r.2)
    by (Some w) e rest d = either (contains_cases w (filter_map f xs) y d)
      where
        either : (w ≡ y) ⊎ Contains (filter_map f xs) y
            → (z : X) × Contains (x ∷ xs) z × f z ≡ Some y
        either (inl same) = (x, contains_first x xs, e ∙ ap Some same)
        either (inr more) = let r = rest more in (r.0, contains_later x xs r.0 r.1, r.2)

-- the pixel of a crossing of two segments within n
pixel_of_pair : (n : ℕ) (s t : Segment) (h : Point) → IsSegment n s → IsSegment n t
    → crossing_pixel s t ≡ Some h
    → IsWithin n h
pixel_of_pair n s t h w v e = by (crossing_of s t) (crossing_within n s t w v) e
  where
    by : (o : Option RationalPoint) → IfSome o (IsCrossPoint n) → option_map pixel_of o ≡ Some h
        → IsWithin n h
    by None p e = cc
    by (Some c) p e = subst (IsWithin n) (same_Some (pixel_of c) h e) (pixel_within n c p)

-- the pixels of all crossings
crossings_within : (n : ℕ) (ss : List Segment) (h : Point)
    → ((s : Segment) → Contains ss s → IsSegment n s)
    → Contains (crossing_pixels ss) h → IsWithin n h
unfolding crossing_pixels
crossings_within n [] h each c = absurd (omega (arith, c.1))
crossings_within n (s ∷ ss) h each c =
    by (crossings_within n ss h (λ t d. each t (contains_later s ss t d)))
    (Contains-append_cases (filter_map (crossing_pixel s) ss) (crossing_pixels ss) h c)
  where
    by : (Contains (crossing_pixels ss) h → IsWithin n h)
        → Contains (filter_map (crossing_pixel s) ss) h ⊎ Contains (crossing_pixels ss) h
        → IsWithin n h
    by rest (inl d) =
        let r = found_of (crossing_pixel s) ss h d in
        pixel_of_pair n s r.0 h (each s (contains_first s ss)) (each r.0 (contains_later s ss r.0 r.1)) r.2
    by rest (inr d) = rest d

-- the ends of all segments
ends_within : (n : ℕ) (ss : List Segment) (h : Point)
    → ((s : Segment) → Contains ss s → IsSegment n s)
    → Contains (end_points ss) h → IsWithin n h
ends_within n ss h each c = by ((contains_flat_map (λ (s : Segment). s.p ∷ s.q ∷ []) h ss).0 c)
  where
    by : Any (λ (s : Segment). Contains (s.p ∷ s.q ∷ []) h) ss → IsWithin n h
    by a = first (contains_cases (a.1).p ((a.1).q ∷ []) h a.4)
      where
        within : IsSegment n a.1
        within = each a.1 (a.0, a.2, a.3)

        second : ((a.1).q ≡ h) ⊎ Contains [] h → IsWithin n h
        second (inl e) = subst (IsWithin n) e within.q_within
        second (inr d) = absurd (omega (arith, d.1))

        first : ((a.1).p ≡ h) ⊎ Contains ((a.1).q ∷ []) h → IsWithin n h
        first (inl e) = subst (IsWithin n) e within.p_within
        first (inr d) = second (contains_cases (a.1).q [] h d)

-- where all segments lie within n, all hot pixels do
pub hot_within : (ss : List Segment) (n : ℕ) → All (IsSegment n) ss → All (IsWithin n) (hot ss)
hot_within ss n all = all_of_each (IsWithin n) (hot ss) each
  where
    member : (s : Segment) → Contains ss s → IsSegment n s
    member s c = All-contains (IsSegment n) ss s all c

    either : (h : Point) → Contains (end_points ss) h ⊎ Contains (crossing_pixels ss) h
        → IsWithin n h
    either h (inl c) = ends_within n ss h member c
    either h (inr c) = crossings_within n ss h member c

    each : (h : Point) → Contains (hot ss) h → IsWithin n h
    each h c =
        either h
        (Contains-append_cases (end_points ss) (crossing_pixels ss) h
        ((contains_rising point_total point_exact (end_points ss ++ crossing_pixels ss) h).0 c))
