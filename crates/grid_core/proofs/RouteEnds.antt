-- The route of a segment of the list begins with p and ends with q: both are hot and met, the route
-- rises by the product with the direction, and every other pixel that is met has a greater product
-- than p and a lesser one than q.

use Rattle.std.proofs.Common.{◌≡◌, sym, ap, subst, ◌∙◌, suc, ◌-◌, arith, ◌⊎◌, inl, inr, ⊎_elim}
use Rattle.std.proofs.Common.{List, [], ◌∷◌, ◌++◌, length, Contains, Some, Ordering, Less}
use Rattle.std.specs.Prelude.{◌<ℤ◌}
use Rattle.std.specs.Cmp.{IsTotalOrder, int_cmp_is}
use Rattle.std.specs.List.{AllByRecursion, slice_get}
use Rattle.std.specs.List.Sorted.{IsStrictlySortedBy}
use Rattle.std.proofs.lemmas.List.Elements.{Contains-append_left}
use Rattle.grid_core.specs.declared.point.Point.{Point}
use Rattle.grid_core.specs.Segment.{Segment, direction}
use Rattle.grid_core.specs.Vector.{dot_of}
use Rattle.grid_core.specs.Rounding.{along_cmp, end_points, crossing_pixels, hot, route}
use Rattle.grid_core.specs.Laws.{RouteIsMet, RouteRunsFromPToQ}
use Rattle.grid_core.proofs.AlongSegments.{meets_p, meets_q, beyond_p, short_of_q}
use Rattle.grid_core.proofs.ListMembers.{contains_first, contains_later, contains_cases, contains_flat_map}
use Rattle.grid_core.proofs.Order.{point_total, point_exact}
use Rattle.grid_core.proofs.RisingMembers.{contains_rising}
use Rattle.grid_core.proofs.RoundingMembers.{route_is_met}
use Rattle.grid_core.proofs.RouteOrder.{along_total}
use Rattle.grid_core.proofs.SortedLists.{not_both, not_itself}

-- ---- the ends of a list in order

module _ {K : Type 0} where
  -- what holds of every element holds of one of them
  pub all_at : (P : K → Type 0) (xs : List K) (x : K) → AllByRecursion P xs → Contains xs x → P x
  all_at P [] x h c = absurd (omega (arith, c.1))
  all_at P (y ∷ ys) x h c = by (all_at P ys x h.1) (contains_cases y ys x c)
    where
      by : (Contains ys x → P x) → (y ≡ x) ⊎ Contains ys x → P x
      by rest (inl e) = subst P e h.0
      by rest (inr d) = rest d

module _ {K : Type 0} {R : K → K → Ordering} (o : IsTotalOrder R) where
  -- a member that has no other before it is the first
  pub first_is : (p : K) (xs : List K) → IsStrictlySortedBy R xs → Contains xs p
      → ((x : K) → Contains xs x → (p ≡ x) ⊎ (R p x ≡ Less))
      → slice_get xs 0 ≡ Some p
  unfolding IsStrictlySortedBy
  first_is p [] s c least = absurd (omega (arith, c.1))
  first_is p (x ∷ xs) s c least = by (contains_cases x xs p c) (least x (contains_first x xs))
    where
      by : (x ≡ p) ⊎ Contains xs p → (p ≡ x) ⊎ (R p x ≡ Less) → Some x ≡ Some p
      by (inl e) k = ap Some e
      by (inr d) (inl e) = ap Some (sym e)
      by (inr d) (inr less) = absurd (not_both o x p (all_at (λ y. R x y ≡ Less) xs p s.0 d) less)

  -- a member that has no other after it is the last
  pub last_is : (q : K) (xs : List K) → IsStrictlySortedBy R xs → Contains xs q
      → ((x : K) → Contains xs x → (x ≡ q) ⊎ (R x q ≡ Less))
      → slice_get xs (length xs - 1) ≡ Some q
  unfolding IsStrictlySortedBy
  last_is q [] s c greatest = absurd (omega (arith, c.1))
  last_is q (x ∷ []) s c greatest = by (contains_cases x [] q c)
    where
      by : (x ≡ q) ⊎ Contains [] q → Some x ≡ Some q
      by (inl e) = ap Some e
      by (inr d) = absurd (omega (arith, d.1))
  last_is q (x ∷ y ∷ ys) s c greatest =
      ap (λ k. slice_get (x ∷ y ∷ ys) k) later
      ∙ last_is q (y ∷ ys) s.1
      (by (contains_cases x (y ∷ ys) q c)
      (greatest y (contains_later x (y ∷ ys) y (contains_first y ys))))
      (λ z k. greatest z (contains_later x (y ∷ ys) z k))
    where
      later : length (x ∷ y ∷ ys) - 1 ≡ suc (length (y ∷ ys) - 1)
      later = omega arith

      by : (x ≡ q) ⊎ Contains (y ∷ ys) q → (y ≡ q) ⊎ (R y q ≡ Less) → Contains (y ∷ ys) q
      by (inl e) (inl f) = absurd (not_itself o x y (e ∙ sym f) s.0.0)
      by (inl e) (inr less) = absurd (not_both o x y s.0.0 (subst (λ z. R y z ≡ Less) (sym e) less))
      by (inr d) f = d

-- ---- the ends of a route

-- an end of a segment of the list is hot
ends_are_hot : (ss : List Segment) (s : Segment) (h : Point) → Contains ss s
    → Contains (s.p ∷ s.q ∷ []) h → Contains (hot ss) h
ends_are_hot ss s h c d =
    (contains_rising point_total point_exact (end_points ss ++ crossing_pixels ss) h).1
    (Contains-append_left (end_points ss) (crossing_pixels ss) h
    ((contains_flat_map (λ (t : Segment). t.p ∷ t.q ∷ []) h ss).1 (c.0, s, c.1, c.2, d)))

less_along : (s : Segment) (g h : Point) → dot_of g (direction s) <ℤ dot_of h (direction s) → along_cmp s g h ≡ Less
less_along s g h l = sym (int_cmp_is (dot_of g (direction s)) (dot_of h (direction s)) Less l)

-- the route of a segment of the list begins with p and ends with q
pub route_runs_from_p_to_q : (ss : List Segment) (s : Segment) → Contains ss s → RouteRunsFromPToQ ss s
route_runs_from_p_to_q ss s c =
    record {
      first = first_is (along_total s) s.p (route ss s) members.in_order
          ((members.met s.p).1 (ends_are_hot ss s s.p c (contains_first s.p (s.q ∷ [])), meets_p s)) from_p;
      last = last_is (along_total s) s.q (route ss s) members.in_order
          ((members.met s.q).1 (
            ends_are_hot ss s s.q c (contains_later s.p (s.q ∷ []) s.q (contains_first s.q [])),
            meets_q s,
          )) to_q;
    }
  where
    members : RouteIsMet ss s
    members = route_is_met ss s

    from_p : (h : Point) → Contains (route ss s) h → (s.p ≡ h) ⊎ (along_cmp s s.p h ≡ Less)
    from_p h k = ⊎_elim (λ (e : s.p ≡ h). inl e) (λ l. inr (less_along s s.p h l))
        (beyond_p s h ((members.met h).0 k).1)

    to_q : (h : Point) → Contains (route ss s) h → (h ≡ s.q) ⊎ (along_cmp s h s.q ≡ Less)
    to_q h k = ⊎_elim (λ (e : h ≡ s.q). inl e) (λ l. inr (less_along s h s.q l))
        (short_of_q s h ((members.met h).0 k).1)
