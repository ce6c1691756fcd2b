-- Neighbours in a list in order, as the ends of an edge: both are members, and no member is strictly
-- between them. By induction on the list: the first two are neighbours, since what is before the
-- second of a list in order is the first; every other edge is one of the list without the first.

use Rattle.std.proofs.Common.{◌≡◌, sym, subst, arith, ◌⊎◌, inl, inr, List, [], ◌∷◌}
use Rattle.std.proofs.Common.{Contains, Ordering, Less}
use Rattle.std.specs.Cmp.{IsTotalOrder}
use Rattle.std.specs.List.Sorted.{IsStrictlySortedBy}
use Rattle.grid_core.specs.declared.point.Point.{Point}
use Rattle.grid_core.specs.Edge.{EdgeEnds, edge_between}
use Rattle.grid_core.specs.Rounding.{edges_along}
use Rattle.grid_core.proofs.ListMembers.{contains_first, contains_later, contains_cases}
use Rattle.grid_core.proofs.RouteEnds.{all_at}
use Rattle.grid_core.proofs.SortedLists.{not_both, not_itself}

-- e is the edge between two members u and v of the list, u before v and no member between
pub record JoinsNeighbours (R : Point → Point → Ordering) (hs : List Point) (e : EdgeEnds) : Type 0 where
  pub u : Point
  pub v : Point
  pub has_u : Contains hs u
  pub has_v : Contains hs v
  pub rises : R u v ≡ Less
  pub none_between : (h : Point) → Contains hs h → R u h ≡ Less → R h v ≡ Less → ⊥
  pub is : e ≡ edge_between u v

module _ {R : Point → Point → Ordering} (o : IsTotalOrder R) where
  -- the first two
  none_first : (u v h : Point) (hs : List Point) → IsStrictlySortedBy R (u ∷ v ∷ hs)
      → Contains (u ∷ v ∷ hs) h
      → R u h ≡ Less → R h v ≡ Less → ⊥
  unfolding IsStrictlySortedBy
  none_first u v h hs s c after before = by (contains_cases u (v ∷ hs) h c)
    where
      later : (v ≡ h) ⊎ Contains hs h → ⊥
      later (inl e) = not_itself o h v (sym e) before
      later (inr d) = not_both o h v before (all_at (λ y. R v y ≡ Less) hs h s.1.0 d)

      by : (u ≡ h) ⊎ Contains (v ∷ hs) h → ⊥
      by (inl e) = not_itself o u h e after
      by (inr d) = later (contains_cases v hs h d)

  -- one member more in front
  none_later : (x u v h : Point) (hs : List Point) → IsStrictlySortedBy R (x ∷ hs) → Contains hs u
      → ((g : Point) → Contains hs g → R u g ≡ Less → R g v ≡ Less → ⊥)
      → Contains (x ∷ hs) h → R u h ≡ Less → R h v ≡ Less → ⊥
  unfolding IsStrictlySortedBy
  none_later x u v h hs s has_u none c after before = by (contains_cases x hs h c)
    where
      by : (x ≡ h) ⊎ Contains hs h → ⊥
      by (inl e) = not_both o u h after (subst (λ z. R z u ≡ Less) e (all_at (λ y. R x y ≡ Less) hs u s.0 has_u))
      by (inr d) = none h d after before

  -- an edge along a list in order joins two neighbours
  pub joins_neighbours : (hs : List Point) (e : EdgeEnds) → IsStrictlySortedBy R hs
      → Contains (edges_along hs) e
      → JoinsNeighbours R hs e
  unfolding IsStrictlySortedBy
  joins_neighbours [] e s c = absurd (omega (arith, c.1))
  joins_neighbours (u ∷ []) e s c = absurd (omega (arith, c.1))
  joins_neighbours (u ∷ v ∷ hs) e s c =
      by (joins_neighbours (v ∷ hs) e s.1) (contains_cases (edge_between u v) (edges_along (v ∷ hs)) e c)
    where
      by : (Contains (edges_along (v ∷ hs)) e → JoinsNeighbours R (v ∷ hs) e)
          → (edge_between u v ≡ e) ⊎ Contains (edges_along (v ∷ hs)) e
          → JoinsNeighbours R (u ∷ v ∷ hs) e
      by rest (inl is) =
          record {
            u = u;
            v = v;
            has_u = contains_first u (v ∷ hs);
            has_v = contains_later u (v ∷ hs) v (contains_first v hs);
            rises = s.0.0;
            none_between = λ h. none_first u v h hs s;
            is = sym is;
          }
      by rest (inr d) =
          let w = rest d in
          record {
            u = w.u;
            v = w.v;
            has_u = contains_later u (v ∷ hs) w.u w.has_u;
            has_v = contains_later u (v ∷ hs) w.v w.has_v;
            rises = w.rises;
            none_between = λ h. none_later u w.u w.v h (v ∷ hs) s w.has_u w.none_between;
            is = w.is;
          }
