-- A common point of two segments of a list that aren't parallel lies in a hot pixel: it is their crossing,
-- which lies in its pixel, in whatever fractions it is written. That the pixel is one of the crossings'
-- is by induction on the list, in which either of the two segments may come first.

use Rattle.std.proofs.Common.{◌≡◌, refl, sym, ap, subst, ◌∙◌, arith, [], ◌∷◌, ◌++◌, ◌⊎◌, inl, inr, List, Contains}
use Rattle.std.proofs.Common.{Some, None, Option}
use Rattle.std.specs.Prelude.{ℤ, pos, ◌+ℤ◌, ◌-ℤ◌, ◌*ℤ◌, ◌<ℤ◌, filter_map, option_map}
use Rattle.std.specs.List.{cons_option}
use Rattle.std.proofs.lemmas.List.Elements.{Contains-append_left, Contains-append_right}
use Rattle.grid_core.specs.declared.point.Point.{Point}
use Rattle.grid_core.specs.Vector.{cross_of}
use Rattle.grid_core.specs.Segment.{Segment, direction}
use Rattle.grid_core.specs.Meets.{box_of}
use Rattle.grid_core.specs.Crossing.{RationalPoint, point_along, pixel_of}
use Rattle.grid_core.specs.Rounding.{end_points, crossing_pixel, crossing_pixels, hot}
use Rattle.grid_core.specs.Laws.{IsFromTo, IsInBox}
use Rattle.grid_core.specs.Planar.{IsOnePoint}
use Rattle.grid_core.proofs.Ring.{int_le_of_mul, int_lt_of_mul}
use Rattle.grid_core.proofs.Polynomial.{V, K, ◌⊗◌, same_polynomial}
use Rattle.grid_core.proofs.Identities.{cross-itself}
use Rattle.grid_core.proofs.ListMembers.{contains_first, contains_later, contains_cases}
use Rattle.grid_core.proofs.RisingMembers.{contains_rising}
use Rattle.grid_core.proofs.Order.{point_total, point_exact}
use Rattle.grid_core.proofs.Crossings.{crossing_same, lies_in_its_pixel}
use Rattle.planar_law.proofs.Inequalities.{le_as, lt_as}
use Rattle.planar_law.proofs.Mix.{scaled}
use Rattle.planar_law.proofs.EdgePieces.{IsShare}
use Rattle.planar_law.proofs.Crossing.{CrossAt, SamePoint, crossing_there}

-- ---- one point in two fractions

-- an equal fraction lies where a fraction lies
equal_lies : (lo hi n d n' d' : ℤ) → pos 0 <ℤ d → pos 0 <ℤ d' → n *ℤ d' ≡ n' *ℤ d
    → IsFromTo lo hi n d
    → IsFromTo lo hi n' d'
equal_lies lo hi n d n' d' some some' e h =
    record {
      low = int_le_of_mul d _ _ some (le_as _ _ _ _ (turned (pos 2 *ℤ lo -ℤ pos 1)) doubled wide.low);
      high = int_lt_of_mul d _ _ some (lt_as _ _ _ _ doubled (turned (pos 2 *ℤ hi +ℤ pos 1)) wide.high);
    }
  where
    wide : IsFromTo lo hi (d' *ℤ n) (d' *ℤ d)
    wide = scaled d' d lo hi n some' h

    turned : (x : ℤ) → x *ℤ (d' *ℤ d) ≡ d *ℤ (x *ℤ d')
    turned x = same_polynomial (x ∷ d ∷ d' ∷ []) (V 0 ⊗ (V 2 ⊗ V 1)) (V 1 ⊗ (V 0 ⊗ V 2)) refl

    doubled : pos 2 *ℤ (d' *ℤ n) ≡ d *ℤ (pos 2 *ℤ n')
    doubled =
        same_polynomial (n ∷ d' ∷ []) (K (pos 2) ⊗ (V 1 ⊗ V 0)) (K (pos 2) ⊗ (V 0 ⊗ V 1)) refl
        ∙ ap (λ x. pos 2 *ℤ x) e
        ∙ same_polynomial (n' ∷ d ∷ []) (K (pos 2) ⊗ (V 0 ⊗ V 1)) (V 1 ⊗ (K (pos 2) ⊗ V 0)) refl

-- a point lies in its pixel, also in other fractions
same_point_lies : (c d : RationalPoint) → pos 0 <ℤ c.den → pos 0 <ℤ d.den → IsOnePoint c d
    → IsInBox (box_of (pixel_of c)) d
same_point_lies c d some some' e =
    record {
      x = equal_lies _ _ c.num_x c.den d.num_x d.den some some' e.x (lies_in_its_pixel c some).x;
      y = equal_lies _ _ c.num_y c.den d.num_y d.den some some' e.y (lies_in_its_pixel c some).y;
    }

-- ---- the pixels of crossings

-- what a test finds of a member
found : {X Y : Type 0} (f : X → Option Y) (xs : List X) (x : X) (y : Y) → Contains xs x
    → f x ≡ Some y
    → Contains (filter_map f xs) y
found f [] x y c e = absurd (omega (arith, c.1))
found {Y = Y} f (z ∷ zs) x y c e = by (λ d. found f zs x y d e) (contains_cases z zs x c)
  where
    by : (Contains zs x → Contains (filter_map f zs) y) → (z ≡ x) ⊎ Contains zs x
        → Contains (cons_option (f z) (filter_map f zs)) y
    by rest (inl same) =
        subst (λ o. Contains (cons_option o (filter_map f zs)) y) (sym (ap f same ∙ e)) (contains_first y (filter_map f zs))
    by rest (inr d) = later (f z)
      where
        later : (o : Option Y) → Contains (cons_option o (filter_map f zs)) y
        later None = rest d
        later (Some w) = contains_later w (filter_map f zs) y (rest d)

-- the pixel of a pair of members is there, whichever of the two comes first
pair_found : (ss : List Segment) (s t : Segment) (h : Point) → (s ≡ t → ⊥) → Contains ss s
    → Contains ss t
    → crossing_pixel s t ≡ Some h → crossing_pixel t s ≡ Some h → Contains (crossing_pixels ss) h
unfolding crossing_pixels
pair_found [] s t h apart cs ct es et = absurd (omega (arith, cs.1))
pair_found (x ∷ xs) s t h apart cs ct es et =
    by (λ ds dt. pair_found xs s t h apart ds dt es et) (contains_cases x xs s cs) (contains_cases x xs t ct)
  where
    with_first : (y : Segment) → Contains xs y → crossing_pixel x y ≡ Some h
        → Contains (filter_map (crossing_pixel x) xs ++ crossing_pixels xs) h
    with_first y d e =
        Contains-append_left (filter_map (crossing_pixel x) xs) (crossing_pixels xs) h
        (found (crossing_pixel x) xs y h d e)

    by : (Contains xs s → Contains xs t → Contains (crossing_pixels xs) h) → (x ≡ s) ⊎ Contains xs s
        → (x ≡ t) ⊎ Contains xs t
        → Contains (filter_map (crossing_pixel x) xs ++ crossing_pixels xs) h
    by rest (inl is_s) (inl is_t) = absurd (apart (sym is_s ∙ is_t))
    by rest (inl is_s) (inr dt) = with_first t dt (ap (λ z. crossing_pixel z t) is_s ∙ es)
    by rest (inr ds) (inl is_t) = with_first s ds (ap (λ z. crossing_pixel z s) is_t ∙ et)
    by rest (inr ds) (inr dt) =
        Contains-append_right (filter_map (crossing_pixel x) xs) (crossing_pixels xs) h (rest ds dt)

crossing_is_hot : (ss : List Segment) (h : Point) → Contains (crossing_pixels ss) h
    → Contains (hot ss) h
crossing_is_hot ss h c =
    (contains_rising point_total point_exact (end_points ss ++ crossing_pixels ss) h).1
    (Contains-append_right (end_points ss) (crossing_pixels ss) h c)

-- ---- the pixel of a common point

-- a hot pixel in which the point of s at i / n lies
pub record HasHotPixel (ss : List Segment) (s : Segment) (i n : ℤ) : Type 0 where
  pub at : Point
  pub is_hot : Contains (hot ss) at
  pub inside : IsInBox (box_of at) (point_along s i n)

-- the same point by the other segment
pub same_by : (s t : Segment) (i j n : ℤ) → SamePoint s t i j n
    → point_along s i n ≡ point_along t j n
same_by s t i j n same = λ l. record { num_x = same.x l; num_y = same.y l; den = n }

-- a common point of two segments of the list that aren't parallel lies in a hot pixel
pub common_is_hot : (ss : List Segment) (s t : Segment) (i j n : ℤ) → Contains ss s → Contains ss t
    → pos 0 <ℤ n
    → IsShare i n → IsShare j n → SamePoint s t i j n
    → (cross_of (direction s) (direction t) ≡ pos 0 → ⊥)
    → HasHotPixel ss s i n
common_is_hot ss s t i j n cs ct some i_share j_share same apart =
    record {
      at = pixel_of crossing.point;
      is_hot = crossing_is_hot ss (pixel_of crossing.point)
          (pair_found ss s t (pixel_of crossing.point) different cs ct pixel
          (ap (option_map pixel_of) (crossing_same t s) ∙ pixel));
      inside = same_point_lies crossing.point (point_along s i n) crossing.some some crossing.same;
    }
  where
    different : s ≡ t → ⊥
    different e = apart (ap (λ z. cross_of (direction s) (direction z)) (sym e) ∙ cross-itself (direction s))

    crossing : CrossAt s t i n
    crossing = crossing_there s t i j n some i_share j_share same apart

    pixel : crossing_pixel s t ≡ Some (pixel_of crossing.point)
    pixel = ap (option_map pixel_of) crossing.is
