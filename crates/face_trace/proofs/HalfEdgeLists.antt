-- The half-edges of edges that rise: no two are one, and the twin of each stands beside it.
-- An edge's two half-edges run in opposite orders, so they differ from each other, and from those of
-- another edge as the edges differ.
use Rattle.std.proofs.Common.{◌≡◌, ◌≢◌, refl, sym, ap, subst, ◌∙◌, ℕ, zero, suc, ◌+◌, ◌-◌, ◌<◌, ◌%◌, arith}
use Rattle.std.proofs.Common.{Bool, true, false, ◌&&◌, if◌then◌else◌, append_assoc, true≢false, List, [], ◌∷◌, ◌++◌, length, length-append, take, get_or}
use Rattle.std.proofs.Common.{Ordering, Less, Equal, Greater, is_eq, Contains}
use Rattle.std.specs.Prelude.{slice_get, option_map, All}
use Rattle.std.specs.Bool.{Decides}
use Rattle.std.specs.Cmp.{IsTotalOrder, Equal-is}
use Rattle.std.specs.List.{AllByRecursion, IsDistinct, list_any}
use Rattle.std.specs.List.Sorted.{IsStrictlySortedBy}
use Rattle.std.specs.Ordering.{ordering_then, ordering_reverse, int_eq, int_cmp, MatchOrdering}
use Rattle.std.specs.Prelude.{ℤ, ◌<ℤ◌}
use Rattle.std.proofs.lemmas.Int.{ints}
use Rattle.indexmap.specs.IndexSet.{insert_key}
use Rattle.std.proofs.lemmas.Cmp.{int_ranked, tied_itself, then_total, on_total}
use Rattle.std.proofs.lemmas.Bool.{false_from_ne_true}
use Rattle.std.proofs.lemmas.Bool.Decides.{Decides-int_eq}
use Rattle.std.proofs.lemmas.List.{get_or_append_left, get_or_at, take_more}
use Rattle.std.proofs.lemmas.List.Concat.{flat_map-append}
use Rattle.std.proofs.lemmas.List.Elements.{All-head, All-tail, All-push}
use Rattle.std.proofs.lemmas.Map.Keys.{sorted_head, sorted_tail, apart_from_distinct}
use Rattle.std.proofs.lemmas.Map.Lookups.{CmpEqualImpliesEq}
use Rattle.std.proofs.lemmas.Map.Views.{Contains-from_any}
use Rattle.grid_core.specs.declared.point.Point.{Point}
use Rattle.grid_core.specs.Vector.{point_cmp}
use Rattle.grid_core.specs.Edge.{EdgeEnds, IsEdge, edge_cmp}
use Rattle.grid_core.specs.Contours.{HalfEdge, half_edge_cmp, half_edge_eq, half_edges, twin}
use Rattle.grid_core.proofs.Comparisons.{both_tie}
use Rattle.grid_core.proofs.Order.{point_total, point_exact, edge_total}
use Rattle.face_trace.specs.HalfEdge.{twin_number}

-- ---- half-edges that are one

-- half-edges are totally ordered
pub half_total : IsTotalOrder half_edge_cmp
half_total = then_total (on_total (λ (h : HalfEdge). h.origin) point_total) (on_total (λ (h : HalfEdge). h.target) point_total)

both_equal : (o r : Ordering) → ordering_then o r ≡ Equal → (o ≡ Equal) × (r ≡ Equal)
both_equal Equal r e = (refl, e)
both_equal Less r e = absurd (cc e)
both_equal Greater r e = absurd (cc e)

-- half-edges of equal order are one
pub half_exact : CmpEqualImpliesEq half_edge_cmp
half_exact g h e =
    let ends = both_equal (point_cmp g.origin h.origin) (point_cmp g.target h.target) e in
    let origin : g.origin ≡ h.origin = point_exact g.origin h.origin ends.0 in
    let target : g.target ≡ h.target = point_exact g.target h.target ends.1 in
    λ i. record { origin = origin i; target = target i }

-- the test decides that two half-edges are one
pub half_decides : (g h : HalfEdge) → Decides (half_edge_eq g h) (g ≡ h)
half_decides g h = (
  λ t. half_exact g h ((Equal-is (half_edge_cmp g h)).0 t),
  λ e. ap (λ k. is_eq (half_edge_cmp g k)) (sym e) ∙ ap is_eq (tied_itself half_total g),
)

differ : (g h : HalfEdge) → g ≢ h → half_edge_eq g h ≡ false
differ g h n = by (half_edge_eq g h) refl
  where
    by : (b : Bool) → half_edge_eq g h ≡ b → b ≡ false
    by true e = absurd (n ((half_decides g h).0 e))
    by false e = refl

-- ---- no two are one

not_less : (a b : Point) → point_cmp a b ≡ Less → point_cmp b a ≡ Less → ⊥
not_less a b p q = cc (p, point_total.antisymm a b, ap ordering_reverse q)

-- half-edges of opposite directions differ
opposite : (d e : EdgeEnds) → IsEdge d → IsEdge e → d.a ≡ e.b → d.b ≡ e.a → ⊥
opposite d e p q r s =
    not_less d.a d.b p (subst (λ z. point_cmp z d.a ≡ Less) (sym s) (subst (λ z. point_cmp e.a z ≡ Less) (sym r) q))

-- so do those of one direction, of different edges
alike : (d e : EdgeEnds) → edge_cmp d e ≡ Less → d.a ≡ e.a → d.b ≡ e.b → ⊥
alike d e p r s =
    let one : d ≡ e = λ i. record { a = r i; b = s i } in
    let tied : edge_cmp d e ≡ Equal = ap (edge_cmp d) (sym one) ∙ tied_itself edge_total d in
    cc (p, tied)

module _ (d : EdgeEnds) (p : IsEdge d) where
  forward_apart : (es : List EdgeEnds) → AllByRecursion (λ e. edge_cmp d e ≡ Less) es → All IsEdge es
      → AllByRecursion (λ h. half_edge_eq (record { origin = d.a; target = d.b }) h ≡ false) (half_edges es)
  forward_apart [] s k = tt
  forward_apart (e ∷ es) s k =
      let q = All-head IsEdge e es k in (
        differ _ _ (λ j. alike d e s.0 (ap (λ (h : HalfEdge). h.origin) j) (ap (λ (h : HalfEdge). h.target) j)),
        (
          differ _ _ (λ j. opposite d e p q (ap (λ (h : HalfEdge). h.origin) j) (ap (λ (h : HalfEdge). h.target) j)),
          forward_apart es s.1 (All-tail IsEdge e es k),
        ),
      )

  backward_apart : (es : List EdgeEnds) → AllByRecursion (λ e. edge_cmp d e ≡ Less) es → All IsEdge es
      → AllByRecursion (λ h. half_edge_eq (record { origin = d.b; target = d.a }) h ≡ false) (half_edges es)
  backward_apart [] s k = tt
  backward_apart (e ∷ es) s k =
      let q = All-head IsEdge e es k in (
        differ _ _ (λ j. opposite d e p q (ap (λ (h : HalfEdge). h.target) j) (ap (λ (h : HalfEdge). h.origin) j)),
        (
          differ _ _ (λ j. alike d e s.0 (ap (λ (h : HalfEdge). h.target) j) (ap (λ (h : HalfEdge). h.origin) j)),
          backward_apart es s.1 (All-tail IsEdge e es k),
        ),
      )

-- no two half-edges of edges that rise are one
pub half_edges_distinct : (es : List EdgeEnds) → IsStrictlySortedBy edge_cmp es → All IsEdge es
    → IsDistinct half_edge_eq (half_edges es)
unfolding IsDistinct
half_edges_distinct [] s k = tt
half_edges_distinct (e ∷ es) s k =
    let p = All-head IsEdge e es k in
    let rest = All-tail IsEdge e es k in
    let more = sorted_head edge_cmp e es s in (
      (
        differ (record { origin = e.a; target = e.b }) (record { origin = e.b; target = e.a })
            (λ j. opposite e e p p (ap (λ (h : HalfEdge). h.origin) j) (ap (λ (h : HalfEdge). h.target) j)),
        forward_apart e p es more rest,
      ),
      (backward_apart e p es more rest, half_edges_distinct es (sorted_tail edge_cmp e es s) rest),
    )

-- ---- what comes later isn't there yet

module _ {X : Type 0} (eq : X → X → Bool) (decides : (x y : X) → Decides (eq x y) (x ≡ y)) where
  -- an element of a list without repetition isn't among those before it, by any test that tells apart
  pub not_before : (same : X → X → Bool) → ((x y : X) → same x y ≡ true → x ≡ y)
      → (xs : List X) (x : X) (ys : List X) → IsDistinct eq (xs ++ x ∷ ys) → list_any (same x) xs ≡ false
  not_before same tells xs x ys h = by (list_any (same x) xs) refl
    where
      at : (n : ℕ) → n < length xs → get_or xs n x ≡ x → ⊥
      at n l e =
          let inside : length xs < length (xs ++ x ∷ ys) = omega (arith, length-append xs (x ∷ ys)) in
          let apart = apart_from_distinct eq (xs ++ x ∷ ys) n (length xs) x h l inside in
          let here : get_or (xs ++ x ∷ ys) n x ≡ x = get_or_append_left xs (x ∷ ys) x n l ∙ e in
          let there : get_or (xs ++ x ∷ ys) (length xs) x ≡ x = get_or_at xs x ys x (length xs) refl in
          true≢false (sym ((decides _ _).1 (here ∙ sym there)) ∙ apart)

      by : (b : Bool) → list_any (same x) xs ≡ b → b ≡ false
      by true e = let c : Contains xs x = Contains-from_any tells x xs e in absurd (at c.0 c.1 c.2)
      by false e = refl

-- the test that the code makes is that of the definition
coordinate_test : (x y : ℤ) → int_eq x y ≡ is_eq (int_cmp x y)
coordinate_test x y = by (int_cmp x y) (int_ranked x y _ refl)
  where
    by : (o : Ordering) → MatchOrdering o (x <ℤ y) (x ≡ y) (y <ℤ x) → int_eq x y ≡ is_eq o
    by Less h = false_from_ne_true (int_eq x y) (λ t. absurd (omega (arith, ints, h, (Decides-int_eq x y).0 t)))
    by Equal h = (Decides-int_eq x y).1 h
    by Greater h = false_from_ne_true (int_eq x y) (λ t. absurd (omega (arith, ints, h, (Decides-int_eq x y).0 t)))

point_test : (a b : Point) → (int_eq a.x b.x && int_eq a.y b.y) ≡ is_eq (point_cmp a b)
point_test a b =
    (λ i. coordinate_test a.x b.x i && coordinate_test a.y b.y i) ∙ sym (both_tie (int_cmp a.x b.x) (int_cmp a.y b.y))

pub half_test : (g h : HalfEdge)
    → ((int_eq g.origin.x h.origin.x && int_eq g.origin.y h.origin.y)
    && (int_eq g.target.x h.target.x && int_eq g.target.y h.target.y)) ≡ half_edge_eq g h
half_test g h =
    (λ i. point_test g.origin h.origin i && point_test g.target h.target i)
    ∙ sym (both_tie (point_cmp g.origin h.origin) (point_cmp g.target h.target))

-- it tells half-edges apart
pub told_apart : (g h : HalfEdge)
    → ((int_eq g.origin.x h.origin.x && int_eq g.origin.y h.origin.y)
    && (int_eq g.target.x h.target.x && int_eq g.target.y h.target.y)) ≡ true
    → g ≡ h
told_apart g h t = (half_decides g h).0 (sym (half_test g h) ∙ t)

-- the first edges of edges that rise do so too
sorted_front : (es : List EdgeEnds) (n : ℕ) → IsStrictlySortedBy edge_cmp es → IsStrictlySortedBy edge_cmp (take n es)
unfolding IsStrictlySortedBy
sorted_front es zero s = tt
sorted_front [] (suc n) s = tt
sorted_front (e ∷ es) (suc n) s = (front es n s.0, sorted_front es n s.1)
  where
    front : (ds : List EdgeEnds) (m : ℕ) → AllByRecursion (λ d. edge_cmp e d ≡ Less) ds
        → AllByRecursion (λ d. edge_cmp e d ≡ Less) (take m ds)
    front ds zero h = tt
    front [] (suc m) h = tt
    front (d ∷ ds) (suc m) h = (h.0, front ds m h.1)

-- the half-edges of one edge more, put into the set one after the other
pub numbered_more : (same : HalfEdge → HalfEdge → Bool) → ((g h : HalfEdge) → same g h ≡ true → g ≡ h)
    → (es : List EdgeEnds) (i : ℕ) (e : EdgeEnds) → i < length es → e ≡ get_or es i e
    → IsStrictlySortedBy edge_cmp es → All IsEdge (take i es) → IsEdge e
    → (ks js is : List HalfEdge) (g h : HalfEdge) → ks ≡ half_edges (take i es)
    → g ≡ record { origin = e.a; target = e.b } → h ≡ record { origin = e.b; target = e.a }
    → js ≡ insert_key same ks g → is ≡ insert_key same js h
    → is ≡ half_edges (take (i + 1) es)
numbered_more same tells es i e l at s edges edge ks js is g h so is_f is_b one two =
    two
    ∙ (λ j. insert_key same ((one ∙ (λ k. insert_key same (so k) (is_f k)) ∙ put xs f first) j) (is_b j))
    ∙ put (xs ++ f ∷ []) b second
    ∙ append_assoc xs (f ∷ []) (b ∷ [])
    ∙ sym whole
  where
    f : HalfEdge
    f = record { origin = e.a; target = e.b }

    b : HalfEdge
    b = record { origin = e.b; target = e.a }

    xs : List HalfEdge
    xs = half_edges (take i es)

    more : take (i + 1) es ≡ take i es ++ e ∷ []
    more = take_more es i e l ∙ ap (λ d. take i es ++ d ∷ []) (sym at)

    whole : half_edges (take (i + 1) es) ≡ xs ++ f ∷ b ∷ []
    whole = ap half_edges more
        ∙ flat_map-append (λ (d : EdgeEnds). record { origin = d.a; target = d.b } ∷ record { origin = d.b; target = d.a } ∷ [])
        (take i es) (e ∷ [])

    distinct : IsDistinct half_edge_eq (xs ++ f ∷ b ∷ [])
    distinct =
        subst (IsDistinct half_edge_eq) whole
        (half_edges_distinct (take (i + 1) es) (sorted_front es (i + 1) s)
        (subst (All IsEdge) (sym more) (All-push IsEdge (take i es) e edges edge)))

    first : list_any (same f) xs ≡ false
    first = not_before half_edge_eq half_decides same tells xs f (b ∷ []) distinct

    second : list_any (same b) (xs ++ f ∷ []) ≡ false
    second =
        not_before half_edge_eq half_decides same tells (xs ++ f ∷ []) b []
        (subst (IsDistinct half_edge_eq) (sym (append_assoc xs (f ∷ []) (b ∷ []))) distinct)

    put : (gs : List HalfEdge) (h : HalfEdge) → list_any (same h) gs ≡ false → insert_key same gs h ≡ gs ++ h ∷ []
    put gs h none = ap (λ t. if t then gs else gs ++ h ∷ []) none

-- ---- twins

-- the next number after an even one
pub twin_of_even : (n : ℕ) → n % 2 ≡ 0 → twin_number n ≡ n + 1
unfolding twin_number
twin_of_even zero h = refl
twin_of_even (suc zero) h = absurd (omega (arith, h))
twin_of_even (suc (suc n)) h = let e = twin_of_even n (omega (arith, h)) in omega (arith, e)

-- the one before an odd one
pub twin_of_odd : (n : ℕ) → n % 2 ≢ 0 → twin_number n ≡ n - 1
unfolding twin_number
twin_of_odd zero h = absurd (h refl)
twin_of_odd (suc zero) h = refl
twin_of_odd (suc (suc n)) h = let e = twin_of_odd n (λ k. h (omega (arith, k))) in
    let odd : 0 < n = by n (λ k. h (omega (arith, k))) in omega (arith, e, odd)
  where
    by : (m : ℕ) → m % 2 ≢ 0 → 0 < m
    by zero k = absurd (k refl)
    by (suc m) k = omega arith

-- the twin of the twin
pub twin_twice : (n : ℕ) → twin_number (twin_number n) ≡ n
unfolding twin_number
twin_twice zero = refl
twin_twice (suc zero) = refl
twin_twice (suc (suc n)) = ap (λ m. suc (suc m)) (twin_twice n)

-- a half-edge's twin has a number, as the half-edge has
pub twin_within : (es : List EdgeEnds) (n : ℕ) → n < length (half_edges es) → twin_number n < length (half_edges es)
unfolding twin_number
twin_within [] n h = absurd (omega (arith, h))
twin_within (e ∷ es) zero h = omega arith
twin_within (e ∷ es) (suc zero) h = omega arith
twin_within (e ∷ es) (suc (suc n)) h =
    let rest = twin_within es n (omega (arith, h)) in omega (arith, rest)

-- at a half-edge's twin number stands its twin
pub twin_at : (es : List EdgeEnds) (n : ℕ) → n < length (half_edges es)
    → slice_get (half_edges es) (twin_number n) ≡ option_map twin (slice_get (half_edges es) n)
unfolding twin_number
twin_at [] n h = absurd (omega (arith, h))
twin_at (e ∷ es) zero h = refl
twin_at (e ∷ es) (suc zero) h = refl
twin_at (e ∷ es) (suc (suc n)) h = twin_at es n (omega (arith, h))

-- one edge more
pub edges_more : (es : List EdgeEnds) (i : ℕ) (e : EdgeEnds) → i < length es → e ≡ get_or es i e
    → All IsEdge (take i es) → IsEdge e → All IsEdge (take (i + 1) es)
edges_more es i e l at edges edge =
    subst (All IsEdge) (sym (take_more es i e l ∙ ap (λ d. take i es ++ d ∷ []) (sym at)))
    (All-push IsEdge (take i es) e edges edge)
