-- The neighbour that follows another around a vertex. In the list of neighbours it is the next one, or
-- the first where there is no next. So no two neighbours have one that follows both, and a half-edge's
-- next is one to one on the half-edges.
use Rattle.std.proofs.Common.{◌≡◌, refl, sym, ap, subst, ◌∙◌, ℕ, zero, suc, ◌<◌, ◌≤◌, arith, ◌⊎◌, inl, inr}
use Rattle.std.proofs.Common.{cond, List, [], ◌∷◌, ◌++◌, length, drop, filter, get_or}
use Rattle.std.proofs.Common.{Some, Ordering, Less, Greater, is_lt, Contains}
use Rattle.std.specs.Prelude.{slice_get, unwrap_or, option_map}
use Rattle.std.specs.Cmp.{IsTotalOrder}
use Rattle.std.specs.List.{AllByRecursion}
use Rattle.std.specs.List.Sorted.{IsStrictlySortedBy}
use Rattle.std.specs.Ordering.{ordering_reverse}
use Rattle.std.proofs.lemmas.Cmp.{tied_itself}
use Rattle.std.proofs.lemmas.List.{drop_more, drop_all, get_or_default}
use Rattle.std.proofs.lemmas.List.Elements.{Contains-get_or}
use Rattle.std.proofs.lemmas.Map.Keys.{Less-from_sorted, sorted_head, sorted_tail}
use Rattle.std.proofs.lemmas.Option.{slice_get-get_or, get_or_from_slice_get}
use Rattle.grid_core.specs.declared.point.Point.{Point}
use Rattle.grid_core.specs.Vector.{point_eq}
use Rattle.grid_core.specs.Edge.{EdgeEnds}
use Rattle.grid_core.specs.Contours.{HalfEdge, half_edges, twin, neighbours, around_cmp, around, next_around, next}
use Rattle.grid_core.proofs.Comparisons.{point_decides}
use Rattle.grid_core.proofs.ListMembers.{contains_filter, contains_map}
use Rattle.grid_core.proofs.RisingMembers.{contains_rising, sorted_rising}
use Rattle.grid_core.proofs.SortedLists.{not_both, not_itself}
use Rattle.face_trace.specs.HalfEdge.{twin_number}
use Rattle.face_trace.proofs.AroundOrder.{around_total, around_exact}
use Rattle.face_trace.proofs.HalfEdgeLists.{twin_at, twin_within}

-- ---- a list in order

module _ {K : Type 0} {R : K → K → Ordering} (o : IsTotalOrder R) where
  all_pass : (u : K) (xs : List K) → AllByRecursion (λ y. R u y ≡ Less) xs → filter (λ w. is_lt (R u w)) xs ≡ xs
  all_pass u [] h = refl
  all_pass u (x ∷ xs) h =
      ap (λ r. cond (is_lt r) (x ∷ filter (λ w. is_lt (R u w)) xs) (filter (λ w. is_lt (R u w)) xs)) h.0
      ∙ ap (λ ys. x ∷ ys) (all_pass u xs h.1)

  -- what is greater than the element at i stands behind it
  filter_after : (xs : List K) (i : ℕ) (d : K) → IsStrictlySortedBy R xs → i < length xs
      → filter (λ w. is_lt (R (get_or xs i d) w)) xs ≡ drop (suc i) xs
  filter_after [] i d s l = absurd (omega (arith, l))
  filter_after (x ∷ xs) zero d s l =
      ap (λ r. cond (is_lt r) (x ∷ filter (λ w. is_lt (R x w)) xs) (filter (λ w. is_lt (R x w)) xs)) (tied_itself o x)
      ∙ all_pass x xs (sorted_head R x xs s)
  filter_after (x ∷ xs) (suc i) d s l =
      let u = get_or xs i d in
      let less : R x u ≡ Less = Less-from_sorted R (x ∷ xs) 0 (suc i) d s (omega arith) l in
      let later : R u x ≡ Greater = o.antisymm u x ∙ ap ordering_reverse less in
      ap (λ r. cond (is_lt r) (x ∷ filter (λ w. is_lt (R u w)) xs) (filter (λ w. is_lt (R u w)) xs)) later
      ∙ filter_after xs i d (sorted_tail R x xs s) (omega (arith, l))

  -- of two places the one with the lesser element comes first
  pub earlier : (xs : List K) (i j : ℕ) (d : K) → IsStrictlySortedBy R xs → i < length xs → j < length xs
      → R (get_or xs i d) (get_or xs j d) ≡ Less → i < j
  earlier xs i j d s k l h = by (split i j)
    where
      split : (m n : ℕ) → (m < n) ⊎ ((m ≡ n) ⊎ (n < m))
      split m n = grind arith

      by : (i < j) ⊎ ((i ≡ j) ⊎ (j < i)) → i < j
      by (inl p) = p
      by (inr (inl p)) = absurd (not_itself o (get_or xs i d) (get_or xs j d) (ap (λ n. get_or xs n d) p) h)
      by (inr (inr p)) = absurd (not_both o (get_or xs i d) (get_or xs j d) h (Less-from_sorted R xs j i d s p k))

  -- one element, one place
  one_place : (xs : List K) (i j : ℕ) (d : K) → IsStrictlySortedBy R xs → i < length xs → j < length xs
      → get_or xs i d ≡ get_or xs j d → i ≡ j
  one_place xs i j d s k l h = by (split i j)
    where
      split : (m n : ℕ) → (m < n) ⊎ ((m ≡ n) ⊎ (n < m))
      split m n = grind arith

      by : (i < j) ⊎ ((i ≡ j) ⊎ (j < i)) → i ≡ j
      by (inl p) = absurd (not_itself o (get_or xs i d) (get_or xs j d) h (Less-from_sorted R xs i j d s p l))
      by (inr (inl p)) = p
      by (inr (inr p)) = absurd (not_itself o (get_or xs j d) (get_or xs i d) (sym h) (Less-from_sorted R xs j i d s p k))

-- ---- neighbours

module _ (es : List EdgeEnds) (v : Point) where
  abbrev ring : List Point
  ring = around es v

  rises : IsStrictlySortedBy (around_cmp v) (around es v)
  rises = sorted_rising (around_total v) (neighbours es v)

  -- the neighbours of v are the ends of the half-edges from v
  pub to_half_edge : (x : Point) → Contains (around es v) x
      → Contains (half_edges es) (record { origin = v; target = x })
  to_half_edge x c =
      let a = (contains_map (λ (h : HalfEdge). h.target) (filter (λ h. point_eq h.origin v) (half_edges es)) x).0
      ((contains_rising (around_total v) (around_exact v) (neighbours es v) x).0 c) in
      let kept = (contains_filter (λ h. point_eq h.origin v) (half_edges es) a.1).0 (a.0, a.2, a.3) in
      let origin : a.1.origin ≡ v = (point_decides a.1.origin v).0 kept.1 in
      let target : a.1.target ≡ x = a.4 in
      let one : a.1 ≡ record { origin = v; target = x } = λ i. record { origin = origin i; target = target i } in
      subst (Contains (half_edges es)) one kept.0

  pub from_half_edge : (x : Point) → Contains (half_edges es) (record { origin = v; target = x })
      → Contains (around es v) x
  from_half_edge x c =
      let h : HalfEdge = record { origin = v; target = x } in
      let kept = (contains_filter (λ g. point_eq g.origin v) (half_edges es) h).1 (c, (point_decides v v).1 refl) in
      (contains_rising (around_total v) (around_exact v) (neighbours es v) x).1
      ((contains_map (λ (g : HalfEdge). g.target) (filter (λ g. point_eq g.origin v) (half_edges es)) x).1
      (kept.0, h, kept.1, kept.2, refl))

  -- the neighbour behind the one at i
  next_later : (i : ℕ) (d : Point) → suc i < length (around es v)
      → next_around es v (get_or (around es v) i d) ≡ get_or (around es v) (suc i) d
  next_later i d l =
      ap (λ ws. unwrap_or (slice_get (ws ++ around es v) 0) (get_or (around es v) i d))
      (filter_after (around_total v) (around es v) i d rises (omega (arith, l)) ∙ drop_more (around es v) (suc i) d l)

  -- the first one, behind the last
  next_wraps : (i : ℕ) (d : Point) → i < length (around es v) → length (around es v) ≤ suc i
      → next_around es v (get_or (around es v) i d) ≡ get_or (around es v) 0 d
  next_wraps i d k l =
      ap (λ ws. unwrap_or (slice_get (ws ++ around es v) 0) (get_or (around es v) i d))
      (filter_after (around_total v) (around es v) i d rises k ∙ drop_all (suc i) (around es v) l)
      ∙ ap (λ w. unwrap_or w (get_or (around es v) i d)) (slice_get-get_or (around es v) 0 d (omega (arith, k)))

  or_last : (i n : ℕ) → i < n → (suc i < n) ⊎ (n ≤ suc i)
  or_last i n l = grind arith

  -- the neighbour after u with none between follows u
  pub next_is_after : (u w : Point) → Contains (around es v) u → Contains (around es v) w
      → around_cmp v u w ≡ Less
      → ((x : Point) → Contains (around es v) x → around_cmp v u x ≡ Less → around_cmp v x w ≡ Less → ⊥)
      → next_around es v u ≡ w
  next_is_after u w c e less none =
      let at_u : get_or (around es v) c.0 u ≡ u = c.2 in
      let at_w : get_or (around es v) e.0 u ≡ w = get_or_default (around es v) e.0 u w e.1 ∙ e.2 in
      let before : c.0 < e.0 =
      earlier (around_total v) (around es v) c.0 e.0 u rises c.1 e.1
      ((λ i. around_cmp v (at_u i) (at_w i)) ∙ less) in
      let fits : suc c.0 < length (around es v) = omega (arith, before, e.1) in
      ap (next_around es v) (sym at_u)
      ∙ next_later c.0 u fits
      ∙ by at_u at_w before fits (split (suc c.0) e.0 before)
    where
      split : (m n : ℕ) → m ≤ n → (m ≡ n) ⊎ (m < n)
      split m n h = grind arith

      by : get_or (around es v) c.0 u ≡ u → get_or (around es v) e.0 u ≡ w → c.0 < e.0
          → suc c.0 < length (around es v)
          → (suc c.0 ≡ e.0) ⊎ (suc c.0 < e.0) → get_or (around es v) (suc c.0) u ≡ w
      by at_u at_w before fits (inl one) = ap (λ n. get_or (around es v) n u) one ∙ at_w
      by at_u at_w before fits (inr more) =
          absurd (none (get_or (around es v) (suc c.0) u) (Contains-get_or (around es v) (suc c.0) u fits)
          (ap (λ z. around_cmp v z (get_or (around es v) (suc c.0) u)) (sym at_u)
          ∙ Less-from_sorted (around_cmp v) (around es v) c.0 (suc c.0) u rises (omega arith) fits)
          (ap (around_cmp v (get_or (around es v) (suc c.0) u)) (sym at_w)
          ∙ Less-from_sorted (around_cmp v) (around es v) (suc c.0) e.0 u rises more e.1))

  -- the first neighbour follows the last one
  pub next_is_first : (u w : Point) → Contains (around es v) u → Contains (around es v) w
      → ((x : Point) → Contains (around es v) x → around_cmp v u x ≡ Less → ⊥)
      → ((x : Point) → Contains (around es v) x → around_cmp v x w ≡ Less → ⊥)
      → next_around es v u ≡ w
  next_is_first u w c e last first =
      let at_u : get_or (around es v) c.0 u ≡ u = c.2 in
      let at_w : get_or (around es v) e.0 u ≡ w = get_or_default (around es v) e.0 u w e.1 ∙ e.2 in
      ap (next_around es v) (sym at_u)
      ∙ next_wraps c.0 u c.1 (no_later at_u (or_last c.0 (length (around es v)) c.1))
      ∙ at_first at_w (zero_or e.0)
    where
      no_later : get_or (around es v) c.0 u ≡ u
          → (suc c.0 < length (around es v)) ⊎ (length (around es v) ≤ suc c.0) → length (around es v) ≤ suc c.0
      no_later at_u (inl more) =
          absurd (last (get_or (around es v) (suc c.0) u) (Contains-get_or (around es v) (suc c.0) u more)
          (ap (λ z. around_cmp v z (get_or (around es v) (suc c.0) u)) (sym at_u)
          ∙ Less-from_sorted (around_cmp v) (around es v) c.0 (suc c.0) u rises (omega arith) more))
      no_later at_u (inr none) = none

      zero_or : (n : ℕ) → (0 ≡ n) ⊎ (0 < n)
      zero_or n = grind arith

      at_first : get_or (around es v) e.0 u ≡ w → (0 ≡ e.0) ⊎ (0 < e.0) → get_or (around es v) 0 u ≡ w
      at_first at_w (inl one) = ap (λ n. get_or (around es v) n u) one ∙ at_w
      at_first at_w (inr more) =
          let some : 0 < length (around es v) = omega (arith, more, e.1) in
          absurd (first (get_or (around es v) 0 u) (Contains-get_or (around es v) 0 u some)
          (ap (around_cmp v (get_or (around es v) 0 u)) (sym at_w)
          ∙ Less-from_sorted (around_cmp v) (around es v) 0 e.0 u rises more e.1))

  -- what follows a neighbour is a neighbour
  next_member : (u : Point) → Contains (around es v) u → Contains (around es v) (next_around es v u)
  next_member u c =
      subst (λ z. Contains (around es v) (next_around es v z)) c.2
      (by (or_last c.0 (length (around es v)) c.1))
    where
      by : (suc c.0 < length (around es v)) ⊎ (length (around es v) ≤ suc c.0)
          → Contains (around es v) (next_around es v (get_or (around es v) c.0 u))
      by (inl more) =
          subst (Contains (around es v)) (sym (next_later c.0 u more)) (Contains-get_or (around es v) (suc c.0) u more)
      by (inr none) =
          subst (Contains (around es v)) (sym (next_wraps c.0 u c.1 none))
          (Contains-get_or (around es v) 0 u (omega (arith, c.1)))

  -- no two neighbours are followed by one
  next_one_to_one : (u x : Point) → Contains (around es v) u → Contains (around es v) x
      → next_around es v u ≡ next_around es v x → u ≡ x
  next_one_to_one u x c e h =
      let at_x : get_or (around es v) e.0 u ≡ x = get_or_default (around es v) e.0 u x e.1 ∙ e.2 in
      let same : c.0 ≡ e.0 =
      by (ap (next_around es v) c.2 ∙ h ∙ ap (next_around es v) (sym at_x))
      (or_last c.0 (length (around es v)) c.1) (or_last e.0 (length (around es v)) e.1) in
      sym c.2 ∙ ap (λ n. get_or (around es v) n u) same ∙ at_x
    where
      some : 0 < length (around es v)
      some = omega (arith, c.1)

      by : next_around es v (get_or (around es v) c.0 u) ≡ next_around es v (get_or (around es v) e.0 u)
          → (suc c.0 < length (around es v)) ⊎ (length (around es v) ≤ suc c.0)
          → (suc e.0 < length (around es v)) ⊎ (length (around es v) ≤ suc e.0)
          → c.0 ≡ e.0
      by g (inl p) (inl q) =
          let one = one_place (around_total v) (around es v) (suc c.0) (suc e.0) u rises p q
          (sym (next_later c.0 u p) ∙ g ∙ next_later e.0 u q) in omega (arith, one)
      by g (inl p) (inr q) =
          let one = one_place (around_total v) (around es v) (suc c.0) 0 u rises p some
          (sym (next_later c.0 u p) ∙ g ∙ next_wraps e.0 u e.1 q) in absurd (omega (arith, one))
      by g (inr p) (inl q) =
          let one = one_place (around_total v) (around es v) 0 (suc e.0) u rises some q
          (sym (next_wraps c.0 u c.1 p) ∙ g ∙ next_later e.0 u q) in absurd (omega (arith, one))
      by g (inr p) (inr q) = omega (arith, p, q, c.1, e.1)

-- ---- half-edges

module _ (es : List EdgeEnds) where
  -- with a half-edge its twin is one
  pub twin_member : (h : HalfEdge) → Contains (half_edges es) h → Contains (half_edges es) (twin h)
  twin_member h c =
      let at : slice_get (half_edges es) (twin_number c.0) ≡ Some (twin h) =
      twin_at es c.0 c.1
      ∙ ap (option_map twin) (slice_get-get_or (half_edges es) c.0 h c.1 ∙ ap Some c.2) in
      (twin_number c.0, twin_within es c.0 c.1, get_or_from_slice_get (half_edges es) (twin_number c.0) (twin h) (twin h) at)

  -- the next of a half-edge is a half-edge
  pub next_is_half_edge : (h : HalfEdge) → Contains (half_edges es) h → Contains (half_edges es) (next es h)
  next_is_half_edge h c =
      to_half_edge es h.target (next_around es h.target h.origin)
      (next_member es h.target h.origin (from_half_edge es h.target h.origin (twin_member h c)))

  -- no two half-edges have one next
  pub next_is_one_to_one : (g h : HalfEdge) → Contains (half_edges es) g → Contains (half_edges es) h
      → next es g ≡ next es h → g ≡ h
  next_is_one_to_one g h c e n =
      let target : g.target ≡ h.target = ap (λ (k : HalfEdge). k.origin) n in
      let follows : next_around es g.target g.origin ≡ next_around es h.target h.origin = ap (λ (k : HalfEdge). k.target) n in
      let origin : g.origin ≡ h.origin =
      next_one_to_one es g.target g.origin h.origin (from_half_edge es g.target g.origin (twin_member g c))
      (subst (λ v. Contains (around es v) h.origin) (sym target) (from_half_edge es h.target h.origin (twin_member h e)))
      (follows ∙ ap (λ v. next_around es v h.origin) (sym target)) in
      λ i. record { origin = origin i; target = target i }
