-- The laws of the orders of points, edges and names: each by one part, and where that is equal by another.
-- They are those of the order of numbers, taken on each part and joined.

use Rattle.std.proofs.Common.{◌≡◌, refl, ap, sym, ◌∙◌, arith, inl, inr, Ordering, Less, Equal}
use Rattle.std.proofs.Common.{Greater, int_cmp, nat_cmp}
use Rattle.std.specs.Prelude.{◌<ℤ◌, ◌⊎◌}
use Rattle.std.specs.Cmp.{IsTotalOrder}
use Rattle.std.specs.Ordering.{ordering_then, ordering_reverse, MatchOrdering}
use Rattle.std.proofs.lemmas.Int.{ints}
use Rattle.std.proofs.lemmas.Cmp.{int_ranked, tied_itself}
use Rattle.std.proofs.lemmas.Map.Lookups.{CmpEqualImpliesEq, exact_unsigned}
use Rattle.grid_core.specs.declared.point.Point.{Point}
use Rattle.grid_core.specs.Vector.{point_cmp}
use Rattle.grid_core.specs.Name.{label_cmp}
use Rattle.grid_core.specs.Edge.{edge_cmp}
use Rattle.grid_core.specs.Orders.{points_in_order, names_in_order, edges_in_order}

-- points are totally ordered
pub point_total : IsTotalOrder point_cmp
point_total = points_in_order

exact : (ox oy : Ordering) (a b : Point) → MatchOrdering ox (a.x <ℤ b.x) (a.x ≡ b.x) (b.x <ℤ a.x)
    → MatchOrdering oy (a.y <ℤ b.y) (a.y ≡ b.y) (b.y <ℤ a.y) → ordering_then ox oy ≡ Equal → a ≡ b
exact Less oy a b hx hy e = cc
exact Equal Less a b hx hy e = cc
exact Equal Equal a b hx hy e = λ i. record { x = hx i; y = hy i }
exact Equal Greater a b hx hy e = cc
exact Greater oy a b hx hy e = cc

-- points of equal order are one point
pub point_exact : (a b : Point) → point_cmp a b ≡ Equal → a ≡ b
point_exact a b e =
    exact (int_cmp a.x b.x) (int_cmp a.y b.y) a b (int_ranked a.x b.x _ (λ i. int_cmp a.x b.x))
    (int_ranked a.y b.y _ (λ i. int_cmp a.y b.y)) e

-- a point has equal order with itself
pub point_same : (a b : Point) → a ≡ b → point_cmp a b ≡ Equal
point_same a b e = ap (point_cmp a) (sym e) ∙ tied_itself point_total a

-- one point after another is the other before the one
pub point_greater : (a b : Point) → point_cmp a b ≡ Greater → point_cmp b a ≡ Less
point_greater a b e = point_total.antisymm b a ∙ ap ordering_reverse e

-- one point before another is the other after the one
pub point_lesser : (a b : Point) → point_cmp a b ≡ Less → point_cmp b a ≡ Greater
point_lesser a b e = point_total.antisymm b a ∙ ap ordering_reverse e

less : (ox oy : Ordering) (a b : Point) → MatchOrdering ox (a.x <ℤ b.x) (a.x ≡ b.x) (b.x <ℤ a.x)
    → MatchOrdering oy (a.y <ℤ b.y) (a.y ≡ b.y) (b.y <ℤ a.y) → ordering_then ox oy ≡ Less
    → (a.x <ℤ b.x) ⊎ ((a.x ≡ b.x) × (a.y <ℤ b.y))
less Less oy a b hx hy e = inl hx
less Equal Less a b hx hy e = inr (hx, hy)
less Equal Equal a b hx hy e = cc
less Equal Greater a b hx hy e = cc
less Greater oy a b hx hy e = cc

-- a point before another lies left of it, or below it on one vertical
pub point_less : (a b : Point) → point_cmp a b ≡ Less → (a.x <ℤ b.x) ⊎ ((a.x ≡ b.x) × (a.y <ℤ b.y))
point_less a b e =
    less (int_cmp a.x b.x) (int_cmp a.y b.y) a b (int_ranked a.x b.x _ (λ i. int_cmp a.x b.x))
    (int_ranked a.y b.y _ (λ i. int_cmp a.y b.y)) e

before : (ox oy : Ordering) (a b : Point) → MatchOrdering ox (a.x <ℤ b.x) (a.x ≡ b.x) (b.x <ℤ a.x)
    → MatchOrdering oy (a.y <ℤ b.y) (a.y ≡ b.y) (b.y <ℤ a.y)
    → (a.x <ℤ b.x) ⊎ ((a.x ≡ b.x) × (a.y <ℤ b.y)) → ordering_then ox oy ≡ Less
before Less oy a b hx hy h = refl
before Equal Less a b hx hy h = refl
before Equal Equal a b hx hy h = absurd (omega (arith, ints, h))
before Equal Greater a b hx hy h = absurd (omega (arith, ints, h))
before Greater oy a b hx hy h = absurd (omega (arith, ints, h))

-- a point left of another, or below it on one vertical, is before it
pub point_before : (a b : Point) → (a.x <ℤ b.x) ⊎ ((a.x ≡ b.x) × (a.y <ℤ b.y)) → point_cmp a b ≡ Less
point_before a b h =
    before (int_cmp a.x b.x) (int_cmp a.y b.y) a b (int_ranked a.x b.x _ (λ i. int_cmp a.x b.x))
    (int_ranked a.y b.y _ (λ i. int_cmp a.y b.y)) h

-- ---- edges and names

both_equal : (o l : Ordering) {P Q : Type 0} → (o ≡ Equal → P) → (l ≡ Equal → Q) → ordering_then o l ≡ Equal → P × Q
both_equal Equal l f g h = (f refl, g h)
both_equal Less l f g h = absurd (cc h)
both_equal Greater l f g h = absurd (cc h)

-- edges are totally ordered
pub edge_total : IsTotalOrder edge_cmp
edge_total = edges_in_order

-- edges of equal order are one edge
pub edge_exact : CmpEqualImpliesEq edge_cmp
edge_exact e f h =
    let ends = both_equal (point_cmp e.a f.a) (point_cmp e.b f.b) (point_exact e.a f.a) (point_exact e.b f.b) h in
    λ i. record { a = ends.0 i; b = ends.1 i }

-- names are totally ordered
pub label_total : IsTotalOrder label_cmp
label_total = names_in_order

-- names of equal order are one name
pub label_exact : CmpEqualImpliesEq label_cmp
label_exact m n h =
    let parts =
    both_equal (nat_cmp m.editor n.editor) (nat_cmp m.serial n.serial)
    (exact_unsigned m.editor n.editor) (exact_unsigned m.serial n.serial) h in
    λ i. record { editor = parts.0 i; serial = parts.1 i }
