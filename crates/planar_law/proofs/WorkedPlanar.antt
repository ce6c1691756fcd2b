-- The definition bites: two edges that cross, one that ends inside another, two that overlap, and a
-- vertex inside an edge are each refused.

use Rattle.std.proofs.Common.{◌≡◌, refl, ap, sym, ◌∙◌, arith, ◌⊎◌, inl, inr, [], ◌∷◌}
use Rattle.std.specs.Prelude.{ℤ, pos, negsuc}
use Rattle.grid_core.specs.declared.point.Point.{Point}
use Rattle.grid_core.specs.Edge.{EdgeEnds}
use Rattle.grid_core.specs.Planar.{whole_point, IsOnEdge, IsEnd, IsCommonEnd, IsPlanar}
use Rattle.grid_core.proofs.Signed.{signed}
use Rattle.grid_core.proofs.ListMembers.{contains_first, contains_later}

-- the edge from (xa, ya) to (xb, yb)
abbrev edge : ℤ → ℤ → ℤ → ℤ → EdgeEnds
edge xa ya xb yb = record { a = record { x = xa; y = ya }; b = record { x = xb; y = yb } }

abbrev point : ℤ → ℤ → Point
point x y = record { x = x; y = y }

-- a common point of two edges is refused where no end of the one is in the column of an end of the other
refused : (e f : EdgeEnds) (h : Point) → (e.a.x ≡ f.a.x → ⊥) → (e.a.x ≡ f.b.x → ⊥)
    → (e.b.x ≡ f.a.x → ⊥) → (e.b.x ≡ f.b.x → ⊥) → IsOnEdge e (whole_point h)
    → IsOnEdge f (whole_point h) → IsPlanar (e ∷ f ∷ []) [] → ⊥
refused e f h aa ab ba bb on_e on_f planar =
    by (planar.apart e f (whole_point h) (contains_first e (f ∷ []))
    (contains_later e (f ∷ []) f (contains_first f [])) (omega (arith, signed)) on_e on_f)
  where
    none : (g : Point) → IsEnd e g → IsEnd f g → ⊥
    none g (inl h) (inl k) = aa (ap (λ (p : Point). p.x) (sym h ∙ k))
    none g (inl h) (inr k) = ab (ap (λ (p : Point). p.x) (sym h ∙ k))
    none g (inr h) (inl k) = ba (ap (λ (p : Point). p.x) (sym h ∙ k))
    none g (inr h) (inr k) = bb (ap (λ (p : Point). p.x) (sym h ∙ k))

    by : (e ≡ f) ⊎ IsCommonEnd e f (whole_point h) → ⊥
    by (inl same) = aa (ap (λ (g : EdgeEnds). g.a.x) same)
    by (inr end) = none end.at end.of_first end.of_second

-- a level and an upright edge cross at (0, 0)
crossing_edges :
    IsPlanar
    (edge (negsuc 0) (pos 0) (pos 1) (pos 0)
    ∷ edge (pos 0) (negsuc 0) (pos 0) (pos 1)
    ∷ []) []
    → ⊥
crossing_edges =
    refused (edge (negsuc 0) (pos 0) (pos 1) (pos 0)) (edge (pos 0) (negsuc 0) (pos 0) (pos 1))
    (point (pos 0) (pos 0)) (omega (arith, signed)) (omega (arith, signed)) (omega (arith, signed))
    (omega (arith, signed))
    (record { a = 1; b = 2; part = omega arith; whole = omega arith; is = record { x = refl; y = refl } })
    (record { a = 1; b = 2; part = omega arith; whole = omega arith; is = record { x = refl; y = refl } })

-- an edge begins inside another, at (0, 0)
touching_edges :
    IsPlanar
    (edge (negsuc 0) (pos 0) (pos 1) (pos 0)
    ∷ edge (pos 0) (pos 0) (pos 0) (pos 1)
    ∷ []) []
    → ⊥
touching_edges =
    refused (edge (negsuc 0) (pos 0) (pos 1) (pos 0)) (edge (pos 0) (pos 0) (pos 0) (pos 1))
    (point (pos 0) (pos 0)) (omega (arith, signed)) (omega (arith, signed)) (omega (arith, signed))
    (omega (arith, signed))
    (record { a = 1; b = 2; part = omega arith; whole = omega arith; is = record { x = refl; y = refl } })
    (record { a = 0; b = 1; part = omega arith; whole = omega arith; is = record { x = refl; y = refl } })

-- two edges overlap from (1, 0) to (2, 0)
overlapping_edges :
    IsPlanar
    (edge (pos 0) (pos 0) (pos 2) (pos 0)
    ∷ edge (pos 1) (pos 0) (pos 3) (pos 0)
    ∷ []) []
    → ⊥
overlapping_edges =
    refused (edge (pos 0) (pos 0) (pos 2) (pos 0)) (edge (pos 1) (pos 0) (pos 3) (pos 0))
    (point (pos 1) (pos 0)) (omega (arith, signed)) (omega (arith, signed)) (omega (arith, signed))
    (omega (arith, signed))
    (record { a = 1; b = 2; part = omega arith; whole = omega arith; is = record { x = refl; y = refl } })
    (record { a = 0; b = 1; part = omega arith; whole = omega arith; is = record { x = refl; y = refl } })

-- a vertex is the middle of an edge
vertex_inside :
    IsPlanar (edge (negsuc 0) (pos 0) (pos 1) (pos 0) ∷ []) (point (pos 0) (pos 0) ∷ []) → ⊥
vertex_inside planar =
    by (planar.ended (edge (negsuc 0) (pos 0) (pos 1) (pos 0)) (point (pos 0) (pos 0))
    (contains_first _ []) (contains_first _ [])
    (record { a = 1; b = 2; part = omega arith; whole = omega arith; is = record { x = refl; y = refl } }))
  where
    by : IsEnd (edge (negsuc 0) (pos 0) (pos 1) (pos 0)) (point (pos 0) (pos 0)) → ⊥
    by (inl h) = omega (arith, signed, ap (λ (p : Point). p.x) h)
    by (inr h) = omega (arith, signed, ap (λ (p : Point). p.x) h)
