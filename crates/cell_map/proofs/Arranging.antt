-- What lies in a strip of a planar graph can be searched. What holds of any two edges of a graph holds of any two of
-- some of them; vertices that rise do so without those outside the strip; and an edge joins two vertices, each of
-- which is one of the strip's where it lies in it.
use Rattle.std.proofs.Common.{◌≡◌, sym, subst, arith, ℕ, ◌≤◌, ◌^◌, refl, Bool, true}
use Rattle.std.proofs.Common.{length, List, [], ◌∷◌, All, filter, Contains, None, Some, ⊎_elim}
use Rattle.std.specs.Prelude.{ℤ, pos, ◌-ℤ◌, ◌≤ℤ◌, unsigned_abs}
use Rattle.std.specs.List.Sorted.{IsStrictlySortedBy}
use Rattle.std.proofs.lemmas.Int.{ints}
use Rattle.std.proofs.lemmas.List.Elements.{All-contains, All-filter, All-from_recursion}
use Rattle.std.proofs.lemmas.List.Kept.{IsStrictlySortedBy-filter}
use Rattle.grid_core.specs.declared.point.Point.{Point}
use Rattle.grid_core.specs.Vector.{point_cmp, IsWithin}
use Rattle.grid_core.specs.Edge.{EdgeEnds, IsEdge}
use Rattle.grid_core.specs.Planar.{IsEnd}
use Rattle.grid_core.proofs.Crossings.{floor_low}
use Rattle.grid_core.proofs.ListMembers.{contains_filter, contains_first}
use Rattle.grid_core.proofs.Quotients.{floor_ge}
use Rattle.grid_core.proofs.Signed.{signed, from_le_true}
use Rattle.place_test.specs.Reach.{IsEdgeWithin}
use Rattle.planar_law.specs.PlanarEdges.{Graph, IsPlanarGraph, JoinsVertices}
use Rattle.edge_search.proofs.Ranges.{and_left, and_right}
use Rattle.edge_search.specs.Search.{DontCross}
use Rattle.cell_map.specs.Strips.{strip_at, meets_strip, lies_in_strip, IsStripWithin}
use Rattle.cell_map.specs.Arranged.{IsSearchable, HasSearchableStrips, IsArranged}

-- ---- a strip of a graph

-- edges that don't cross, and some of them
pub dont_cross_filtered : (p : EdgeEnds → Bool) (es : List EdgeEnds) → DontCross es → DontCross (filter p es)
dont_cross_filtered p es h = record {
  ordered = All-filter p IsEdge es h.ordered;
  inside = λ e f q r c d. h.inside e f q r (member e c) (member f d);
  one = λ e f q c d. h.one e f q (member e c) (member f d);
}
  where
    member : (e : EdgeEnds) → Contains (filter p es) e → Contains es e
    member e c = ((contains_filter p es e).0 c).0

-- a column with a size of at most 2^30 lies in a strip with a number of at most 2^25
strip_low : (x : ℤ) → unsigned_abs x ≤ 2 ^ 30 → (pos 0 -ℤ pos (2 ^ 25)) ≤ℤ strip_at x
strip_low x h = floor_ge x (pos 256) (pos 0 -ℤ pos (2 ^ 25)) (omega (arith, ints)) (omega (arith, signed, h))

strip_high : (x : ℤ) → unsigned_abs x ≤ 2 ^ 30 → strip_at x ≤ℤ pos (2 ^ 25)
strip_high x h = let low = floor_low x (pos 256) (omega (arith, ints)) in omega (arith, signed, h, low)

between_within : (low k high : ℤ) → (pos 0 -ℤ pos (2 ^ 25)) ≤ℤ low → low ≤ℤ k → k ≤ℤ high → high ≤ℤ pos (2 ^ 25)
    → unsigned_abs k ≤ 2 ^ 25
between_within low k high a b c d = omega (arith, signed, a, b, c, d)

meets_within : (k : ℤ) (e : EdgeEnds) → unsigned_abs e.a.x ≤ 2 ^ 30 → unsigned_abs e.b.x ≤ 2 ^ 30
    → meets_strip k e ≡ true → unsigned_abs k ≤ 2 ^ 25
meets_within k e a b h =
    between_within (strip_at e.a.x) k (strip_at e.b.x) (strip_low e.a.x a)
    (from_le_true (strip_at e.a.x) k (and_left _ _ h)) (from_le_true k (strip_at e.b.x) (and_right _ _ h))
    (strip_high e.b.x b)

module _ (g : Graph) (of_g : IsPlanarGraph (2 ^ 30) g) (apart : DontCross g.edges) where
  ends : (e : EdgeEnds) → Contains g.edges e → JoinsVertices g.vertices e
  ends e c = All-contains (JoinsVertices g.vertices) g.edges e of_g.joined c

  within : (h : Point) → Contains g.vertices h → IsWithin (2 ^ 30) h
  within h c = All-contains (IsWithin (2 ^ 30)) g.vertices h of_g.within c

  end_is_vertex : (e : EdgeEnds) (h : Point) → Contains g.edges e → IsEnd e h → Contains g.vertices h
  end_is_vertex e h c end =
      let joins = ends e c in
      ⊎_elim
      (λ (is : h ≡ e.a). subst (Contains g.vertices) (sym is) joins.0)
      (λ (is : h ≡ e.b). subst (Contains g.vertices) (sym is) joins.1)
      end

  pub has_searchable_strips : HasSearchableStrips g
  has_searchable_strips k = record {
    apart = dont_cross_filtered (meets_strip k) g.edges apart;
    rising = IsStrictlySortedBy-filter point_cmp (lies_in_strip k) g.vertices of_g.vertices_rise;
    ends = λ e h c end lies.
        let member = (contains_filter (meets_strip k) g.edges e).0 c in
        (contains_filter (lies_in_strip k) g.vertices h).1 (end_is_vertex e h member.0 end, lies);
    number = λ e c.
        let member = (contains_filter (meets_strip k) g.edges e).0 c in
        let joins = ends e member.0 in
        meets_within k e (within e.a joins.0).x (within e.b joins.1).x member.1;
  }

-- ---- a strip, arranged

pub number_within : {k : ℤ} {s : Graph} → IsSearchable k s → (length s.edges ≡ 0 → ⊥) → unsigned_abs k ≤ 2 ^ 25
number_within {k} {s} h some = by s.edges h.number some
  where
    by : (es : List EdgeEnds) → ((e : EdgeEnds) → Contains es e → unsigned_abs k ≤ 2 ^ 25) → (length es ≡ 0 → ⊥)
        → unsigned_abs k ≤ 2 ^ 25
    by [] number some = absurd (some refl)
    by (e ∷ es) number some = number e (contains_first e es)

-- without edges, and so without a search
pub arranged_without : (n : ℕ) (vs : List Point) → All (IsWithin n) vs → IsStrictlySortedBy point_cmp vs
    → IsArranged n None vs
arranged_without n vs within rising = record {
  within = record { edges = All-from_recursion (IsEdgeWithin n) [] tt; vertices = within };
  rising = rising;
  ends = tt;
}

-- with a search among its edges
pub arranged_with : (n : ℕ) (k : ℤ) (es : List EdgeEnds) (vs : List Point)
    → IsStripWithin n (record { edges = es; vertices = vs })
    → IsSearchable k (record { edges = es; vertices = vs }) → IsArranged n (Some (record { strip = k; edges = es })) vs
arranged_with n k es vs within searchable = record {
  within = within;
  rising = searchable.rising;
  ends = searchable.ends;
}

pub nothing_arranged : (n : ℕ) → IsArranged n None []
unfolding IsStrictlySortedBy
nothing_arranged n = arranged_without n [] (All-from_recursion (IsWithin n) [] tt) tt
