-- Routes, whose pixels have different products: to order them by the product alone or by the
-- product and the pixel gives one list, which has the members of the list that it is made of.

use Rattle.std.proofs.Common.{◌≡◌, refl, ap, subst, ◌∙◌, ◌↔◌, List, []}
use Rattle.std.proofs.Common.{◌∷◌, filter, fold, Contains, IsTrue, Ordering, Less, Equal, Greater}
use Rattle.std.specs.BTreeSet.{insert_key}
use Rattle.std.specs.Cmp.{IsTotalOrder}
use Rattle.std.specs.List.{AllByRecursion}
use Rattle.std.specs.Ordering.{match_ordering, ordering_then}
use Rattle.std.proofs.lemmas.Cmp.{int_cmp_total, then_total, on_total}
use Rattle.std.proofs.lemmas.Map.Lookups.{CmpEqualImpliesEq, exact_signed}
use Rattle.grid_core.specs.declared.point.Point.{Point}
use Rattle.grid_core.specs.Vector.{dot_of, point_cmp}
use Rattle.grid_core.specs.Segment.{Segment, direction}
use Rattle.grid_core.specs.Meets.{meets_pixel_of}
use Rattle.grid_core.specs.RisingSet.{rising}
use Rattle.grid_core.specs.Rounding.{along_cmp}
use Rattle.grid_core.proofs.AlongSegments.{one_product}
use Rattle.grid_core.proofs.Filters.{all_kept}
use Rattle.grid_core.proofs.RisingMembers.{all_inserted, contains_rising}
use Rattle.grid_core.proofs.Order.{point_total, point_exact, point_same}

-- ---- one list by two orders

module _ {K : Type 0} (Φ : K → Type 0) (R S : K → K → Ordering) (o : IsTotalOrder S)
    (agree : (x y : K) → Φ x → Φ y → R x y ≡ S x y) where
  inserted_alike : (k : K) (ks : List K) → Φ k → AllByRecursion Φ ks → insert_key R ks k ≡ insert_key S ks k
  inserted_alike k [] p h = refl
  inserted_alike k (x ∷ xs) p h =
      ap (λ r. match_ordering r (k ∷ x ∷ xs) (x ∷ xs) (x ∷ insert_key R xs k)) (agree k x p h.0)
      ∙ ap (λ ys. match_ordering (S k x) (k ∷ x ∷ xs) (x ∷ xs) (x ∷ ys)) (inserted_alike k xs p h.1)

  folded_alike : (done ks : List K) → AllByRecursion Φ done → AllByRecursion Φ ks
      → fold (insert_key R) done ks ≡ fold (insert_key S) done ks
  folded_alike done [] d h = refl
  folded_alike done (k ∷ ks) d h =
      ap (λ ys. fold (insert_key R) ys ks) (inserted_alike k done h.0 d)
      ∙ folded_alike (insert_key S done k) ks (all_inserted o Φ k done h.0 d) h.1

  -- two orders that agree on a list's members put them into one order
  pub rising_alike : (ks : List K) → AllByRecursion Φ ks → rising R ks ≡ rising S ks
  rising_alike ks h = folded_alike [] ks tt h

-- ---- the order of a route

-- pixels are totally ordered along a segment
pub along_total : (s : Segment) → IsTotalOrder (along_cmp s)
along_total s = on_total (λ h. dot_of h (direction s)) int_cmp_total

-- the order along s where pixels of one product are told apart: by pixel
abbrev pub along_and_pixel_cmp : Segment → Point → Point → Ordering
along_and_pixel_cmp s g h = ordering_then (along_cmp s g h) (point_cmp g h)

first_decides : (o l : Ordering) → (o ≡ Equal → l ≡ Equal) → ordering_then o l ≡ o
first_decides Less l f = refl
first_decides Equal l f = f refl
first_decides Greater l f = refl

-- the two orders agree on pixels that s meets
orders_agree : (s : Segment) (g h : Point) → IsTrue (meets_pixel_of s g)
    → IsTrue (meets_pixel_of s h) → along_and_pixel_cmp s g h ≡ along_cmp s g h
orders_agree s g h m n =
    first_decides (along_cmp s g h) (point_cmp g h)
    (λ e. point_same g h (one_product s g h m n (exact_signed (dot_of g (direction s)) (dot_of h (direction s)) e)))

-- the pixels of a list that s meets are one list in either order
pub rising_by_product : (s : Segment) (hs : List Point)
    → rising (along_and_pixel_cmp s) (filter (meets_pixel_of s) hs)
    ≡ rising (along_cmp s) (filter (meets_pixel_of s) hs)
rising_by_product s hs =
    rising_alike (λ h. IsTrue (meets_pixel_of s h)) (along_and_pixel_cmp s) (along_cmp s)
    (along_total s) (orders_agree s)
    (filter (meets_pixel_of s) hs)
    (all_kept (λ h. IsTrue (meets_pixel_of s h)) (meets_pixel_of s) (λ h e. e) hs)

-- ---- members

exact_then : (o l : Ordering) {P : Type 0} → (l ≡ Equal → P) → ordering_then o l ≡ Equal → P
exact_then Less l f h = f (absurd (cc h))
exact_then Equal l f h = f h
exact_then Greater l f h = f (absurd (cc h))

-- by product and pixel, pixels are totally ordered along a segment, and those of equal order are one pixel
pub along_and_pixel_total : (s : Segment) → IsTotalOrder (along_and_pixel_cmp s)
along_and_pixel_total s = then_total (along_total s) point_total

pub along_and_pixel_exact : (s : Segment) → CmpEqualImpliesEq (along_and_pixel_cmp s)
along_and_pixel_exact s g h e = exact_then (along_cmp s g h) (point_cmp g h) (point_exact g h) e

-- the pixels of a list that s meets are the members of the list in order
pub contains_by_product : (s : Segment) (hs : List Point) (h : Point)
    → Contains (rising (along_cmp s) (filter (meets_pixel_of s) hs)) h ↔ Contains (filter (meets_pixel_of s) hs) h
contains_by_product s hs h =
    subst (λ ks. Contains ks h ↔ Contains (filter (meets_pixel_of s) hs) h) (rising_by_product s hs)
    (contains_rising (along_and_pixel_total s) (along_and_pixel_exact s) (filter (meets_pixel_of s) hs) h)
