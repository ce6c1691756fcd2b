-- The answers of comparisons as tests, and the tests by which two points or two names are one.
use Rattle.std.proofs.Common.{◌≡◌, refl, ap, sym, ◌∙◌, ℕ, arith, Bool, true, false, ◌&&◌, true≢false}
use Rattle.std.proofs.Common.{Ordering, Less, Equal, Greater, is_lt, is_eq, nat_eq, nat_cmp}
use Rattle.std.specs.Bool.{Decides}
use Rattle.std.specs.Cmp.{Equal-is}
use Rattle.std.specs.Ordering.{ordering_then, is_ge}
use Rattle.std.proofs.lemmas.Bool.Decides.{nat_tests}
use Rattle.std.proofs.lemmas.Cmp.{tied_itself}
use Rattle.grid_core.specs.declared.point.Point.{Point}
use Rattle.grid_core.specs.Vector.{point_cmp, point_eq}
use Rattle.grid_core.specs.Name.{Label, label_cmp, label_eq}
use Rattle.grid_core.specs.Edge.{EdgeEnds, edge_cmp, edge_eq}
use Rattle.grid_core.proofs.Order.{point_exact, point_same, label_total, label_exact, edge_total, edge_exact}

-- ---- answers

pub is_less : (r : Ordering) → is_lt r ≡ true → r ≡ Less
is_less Less h = refl
is_less Equal h = absurd (true≢false (sym h))
is_less Greater h = absurd (true≢false (sym h))

pub is_equal : (r : Ordering) → is_eq r ≡ true → r ≡ Equal
is_equal r h = (Equal-is r).0 h

-- what isn't greater or equal is less, and what is isn't
pub is_lesser : (r : Ordering) → is_ge r ≡ false → r ≡ Less
is_lesser Less e = refl
is_lesser Equal e = cc
is_lesser Greater e = cc

pub not_lesser : (r : Ordering) → is_ge r ≡ true → is_lt r ≡ false
not_lesser Less e = cc
not_lesser Equal e = refl
not_lesser Greater e = refl

-- two comparisons in a row tie where both do
pub both_tie : (r s : Ordering) → is_eq (ordering_then r s) ≡ (is_eq r && is_eq s)
both_tie Less s = refl
both_tie Equal s = refl
both_tie Greater s = refl

-- ---- two things that are one

-- the test of points decides that they are one
pub point_decides : (a b : Point) → Decides (point_eq a b) (a ≡ b)
point_decides a b = (λ t. point_exact a b (is_equal (point_cmp a b) t), λ e. ap is_eq (point_same a b e))

-- the test of names decides that they are one
pub label_decides : (m n : Label) → Decides (label_eq m n) (m ≡ n)
label_decides m n = (
  λ t. label_exact m n (is_equal (label_cmp m n) t),
  λ e. ap is_eq (ap (label_cmp m) (sym e) ∙ tied_itself label_total m),
)

-- the test of edges decides that they are one
pub edge_decides : (e f : EdgeEnds) → Decides (edge_eq e f) (e ≡ f)
edge_decides e f = (
  λ t. edge_exact e f (is_equal (edge_cmp e f) t),
  λ same. ap is_eq (ap (edge_cmp e) (sym same) ∙ tied_itself edge_total e),
)

-- a thing is itself
pub itself : {V : Type 0} (same : V → V → Bool) (decides : (a b : V) → Decides (same a b) (a ≡ b)) (a : V)
    → same a a ≡ true
itself same decides a = (decides a a).1 refl

-- the test of names, part by part
name_part : (x y : ℕ) → nat_eq x y ≡ is_eq (nat_cmp x y)
name_part x y = grind (arith, nat_tests)

pub name_test : (m n : Label) → (nat_eq m.editor n.editor && nat_eq m.serial n.serial) ≡ label_eq m n
name_test m n =
    (λ i. name_part m.editor n.editor i && name_part m.serial n.serial i)
    ∙ sym (both_tie (nat_cmp m.editor n.editor) (nat_cmp m.serial n.serial))
