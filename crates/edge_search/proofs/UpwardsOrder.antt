-- Edges of some width are totally ordered from a query point upwards, and downwards: by height, by slope, and as edges.
-- Heights and slopes are fractions, ordered by products; each difference is a sum of two others, times positive widths.
use Rattle.std.proofs.Common.{◌≡◌, refl, ap, ap₂, sym, subst, ◌∙◌, arith, inl, inr, [], ◌∷◌, Ordering, Less, Equal, Greater, int_cmp}
use Rattle.std.specs.Prelude.{ℤ, pos, ◌+ℤ◌, ◌-ℤ◌, ◌*ℤ◌, ◌<ℤ◌, ◌⊎◌}
use Rattle.std.specs.Cmp.{int_cmp_is}
use Rattle.std.specs.Ordering.{ordering_then, ordering_reverse}
use Rattle.std.proofs.lemmas.Cmp.{int_ranked, int_cmp_total}
use Rattle.grid_core.specs.declared.point.Point.{Point}
use Rattle.grid_core.specs.Edge.{EdgeEnds, edge_cmp}
use Rattle.grid_core.specs.Places.{height_at, height_cmp, slope_cmp, upwards_cmp, downwards_cmp}
use Rattle.grid_core.proofs.Order.{edge_total, edge_exact}
use Rattle.grid_core.proofs.Signed.{signed}
use Rattle.grid_core.proofs.Ring.{int_mul_pos, int_mul_nonneg, int_same_of_mul, int_lt_of_mul}
use Rattle.grid_core.proofs.Polynomial.{V, ◌⊕◌, ◌⊖◌, ◌⊗◌, same_polynomial}
use Rattle.edge_search.proofs.EdgeOrder.{width}
use Rattle.edge_search.proofs.Least.{Leads}

-- how the orders of x and y, and of y and z, join to that of x and z
record Joins (r s t : Ordering) : Type 0 where
  less : r ≡ Less → s ≡ Less → t ≡ Less
  left : r ≡ Less → s ≡ Equal → t ≡ Less
  right : r ≡ Equal → s ≡ Less → t ≡ Less
  equal : r ≡ Equal → s ≡ Equal → t ≡ Equal

module _ {t v w u : Ordering} where
  less_then : (r s : Ordering) → Joins r s t → Joins v w u → ordering_then r v ≡ Less → ordering_then s w ≡ Less → ordering_then t u ≡ Less
  less_then Less Less j k e f = ap (λ o. ordering_then o u) (j.less refl refl)
  less_then Less Equal j k e f = ap (λ o. ordering_then o u) (j.left refl refl)
  less_then Equal Less j k e f = ap (λ o. ordering_then o u) (j.right refl refl)
  less_then Equal Equal j k e f = ap (λ o. ordering_then o u) (j.equal refl refl) ∙ k.less e f
  less_then Less Greater j k e f = absurd (cc f)
  less_then Equal Greater j k e f = absurd (cc f)
  less_then Greater s j k e f = absurd (cc e)

  left_then : (r s : Ordering) → Joins r s t → Joins v w u → ordering_then r v ≡ Less → ordering_then s w ≡ Equal → ordering_then t u ≡ Less
  left_then Less Equal j k e f = ap (λ o. ordering_then o u) (j.left refl refl)
  left_then Equal Equal j k e f = ap (λ o. ordering_then o u) (j.equal refl refl) ∙ k.left e f
  left_then Less Less j k e f = absurd (cc f)
  left_then Equal Less j k e f = absurd (cc f)
  left_then Less Greater j k e f = absurd (cc f)
  left_then Equal Greater j k e f = absurd (cc f)
  left_then Greater s j k e f = absurd (cc e)

  right_then : (r s : Ordering) → Joins r s t → Joins v w u → ordering_then r v ≡ Equal → ordering_then s w ≡ Less → ordering_then t u ≡ Less
  right_then Equal Less j k e f = ap (λ o. ordering_then o u) (j.right refl refl)
  right_then Equal Equal j k e f = ap (λ o. ordering_then o u) (j.equal refl refl) ∙ k.right e f
  right_then Equal Greater j k e f = absurd (cc f)
  right_then Less s j k e f = absurd (cc e)
  right_then Greater s j k e f = absurd (cc e)

  equal_then : (r s : Ordering) → Joins r s t → Joins v w u → ordering_then r v ≡ Equal → ordering_then s w ≡ Equal → ordering_then t u ≡ Equal
  equal_then Equal Equal j k e f = ap (λ o. ordering_then o u) (j.equal refl refl) ∙ k.equal e f
  equal_then Equal Less j k e f = absurd (cc f)
  equal_then Equal Greater j k e f = absurd (cc f)
  equal_then Less s j k e f = absurd (cc e)
  equal_then Greater s j k e f = absurd (cc e)

then_joins : {r s t v w u : Ordering} → Joins r s t → Joins v w u → Joins (ordering_then r v) (ordering_then s w) (ordering_then t u)
then_joins {r} {s} j k = record {
  less = less_then r s j k;
  left = left_then r s j k;
  right = right_then r s j k;
  equal = equal_then r s j k;
}

-- numbers whose difference is the sum of two other differences, times something above 0 each
int_joins : (a b c d x y u v w : ℤ) → pos 0 <ℤ u → pos 0 <ℤ v → pos 0 <ℤ w
    → w *ℤ (y -ℤ x) ≡ u *ℤ (b -ℤ a) +ℤ v *ℤ (d -ℤ c)
    → Joins (int_cmp a b) (int_cmp c d) (int_cmp x y)
int_joins a b c d x y u v w some_u some_v some_w is = record {
  less = λ e f.
      let p = int_mul_pos u (b -ℤ a) some_u (omega (arith, signed, less a b e)) in
      let q = int_mul_pos v (d -ℤ c) some_v (omega (arith, signed, less c d f)) in
      rises (omega (arith, signed, p, q));
  left = λ e f.
      let p = int_mul_pos u (b -ℤ a) some_u (omega (arith, signed, less a b e)) in
      let q = int_mul_nonneg v (d -ℤ c) (omega (arith, signed, some_v)) (omega (arith, signed, same c d f)) in
      rises (omega (arith, signed, p, q));
  right = λ e f.
      let p = int_mul_nonneg u (b -ℤ a) (omega (arith, signed, some_u)) (omega (arith, signed, same a b e)) in
      let q = int_mul_pos v (d -ℤ c) some_v (omega (arith, signed, less c d f)) in
      rises (omega (arith, signed, p, q));
  equal = λ e f.
      let p : b -ℤ a ≡ pos 0 = omega (arith, signed, same a b e) in
      let q : d -ℤ c ≡ pos 0 = omega (arith, signed, same c d f) in
      let none : w *ℤ (y -ℤ x) ≡ w *ℤ pos 0 =
      is ∙ ap₂ (λ i j. u *ℤ i +ℤ v *ℤ j) p q ∙ zeros in
      let level : y -ℤ x ≡ pos 0 = int_same_of_mul w (y -ℤ x) (pos 0) some_w none in
      sym (int_cmp_is x y Equal (omega (arith, signed, level)));
}
  where
    less : (m n : ℤ) → int_cmp m n ≡ Less → m <ℤ n
    less m n e = int_ranked m n Less (sym e)

    same : (m n : ℤ) → int_cmp m n ≡ Equal → m ≡ n
    same m n e = int_ranked m n Equal (sym e)

    zeros : u *ℤ pos 0 +ℤ v *ℤ pos 0 ≡ w *ℤ pos 0
    zeros = omega (arith, signed)

    rises : pos 0 <ℤ (u *ℤ (b -ℤ a) +ℤ v *ℤ (d -ℤ c)) → int_cmp x y ≡ Less
    rises h =
        let none : w *ℤ pos 0 ≡ pos 0 = omega (arith, signed) in
        let up = int_lt_of_mul w (pos 0) (y -ℤ x) some_w (omega (arith, signed, h, is, none)) in
        sym (int_cmp_is x y Less (omega (arith, signed, up)))

-- the differences of three fractions, upwards and downwards
rising_sum : (m d n e k g : ℤ)
    → e *ℤ (k *ℤ d -ℤ m *ℤ g) ≡ g *ℤ (n *ℤ d -ℤ m *ℤ e) +ℤ d *ℤ (k *ℤ e -ℤ n *ℤ g)
rising_sum m d n e k g =
    same_polynomial (m ∷ d ∷ n ∷ e ∷ k ∷ g ∷ []) (V 3 ⊗ (V 4 ⊗ V 1 ⊖ V 0 ⊗ V 5))
    (V 5 ⊗ (V 2 ⊗ V 1 ⊖ V 0 ⊗ V 3) ⊕ V 1 ⊗ (V 4 ⊗ V 3 ⊖ V 2 ⊗ V 5)) refl

falling_sum : (m d n e k g : ℤ)
    → e *ℤ (m *ℤ g -ℤ k *ℤ d) ≡ g *ℤ (m *ℤ e -ℤ n *ℤ d) +ℤ d *ℤ (n *ℤ g -ℤ k *ℤ e)
falling_sum m d n e k g =
    same_polynomial (m ∷ d ∷ n ∷ e ∷ k ∷ g ∷ []) (V 3 ⊗ (V 0 ⊗ V 5 ⊖ V 4 ⊗ V 1))
    (V 5 ⊗ (V 0 ⊗ V 3 ⊖ V 2 ⊗ V 1) ⊕ V 1 ⊗ (V 2 ⊗ V 5 ⊖ V 4 ⊗ V 3)) refl

rising : (m d n e k g : ℤ) → pos 0 <ℤ d → pos 0 <ℤ e → pos 0 <ℤ g
    → Joins (int_cmp (m *ℤ e) (n *ℤ d)) (int_cmp (n *ℤ g) (k *ℤ e)) (int_cmp (m *ℤ g) (k *ℤ d))
rising m d n e k g some_d some_e some_g =
    int_joins (m *ℤ e) (n *ℤ d) (n *ℤ g) (k *ℤ e) (m *ℤ g) (k *ℤ d) g d e some_g some_d some_e (rising_sum m d n e k g)

falling : (m d n e k g : ℤ) → pos 0 <ℤ d → pos 0 <ℤ e → pos 0 <ℤ g
    → Joins (int_cmp (n *ℤ d) (m *ℤ e)) (int_cmp (k *ℤ e) (n *ℤ g)) (int_cmp (k *ℤ d) (m *ℤ g))
falling m d n e k g some_d some_e some_g =
    int_joins (n *ℤ d) (m *ℤ e) (k *ℤ e) (n *ℤ g) (k *ℤ d) (m *ℤ g) g d e some_g some_d some_e (falling_sum m d n e k g)

edge_joins : (e f g : EdgeEnds) → Joins (edge_cmp e f) (edge_cmp f g) (edge_cmp e g)
edge_joins e f g = record {
  less = edge_total.trans e f g;
  left = λ h i. ap (edge_cmp e) (sym (edge_exact f g i)) ∙ h;
  right = λ h i. ap (λ x. edge_cmp x g) (edge_exact e f h) ∙ i;
  equal = λ h i. ap (λ x. edge_cmp x g) (edge_exact e f h) ∙ i;
}

-- ---- both orders

reverse_then : (r s : Ordering) → ordering_then (ordering_reverse r) (ordering_reverse s) ≡ ordering_reverse (ordering_then r s)
reverse_then Less s = refl
reverse_then Equal s = refl
reverse_then Greater s = refl

-- the order of two turned round is the order turned round
three_turned : {r s t : Ordering} (u v w : Ordering) → r ≡ ordering_reverse u → s ≡ ordering_reverse v → t ≡ ordering_reverse w
    → ordering_then r (ordering_then s t) ≡ ordering_reverse (ordering_then u (ordering_then v w))
three_turned {r} {s} {t} u v w e f g =
    ap₂ ordering_then e (ap₂ ordering_then f g ∙ reverse_then v w) ∙ reverse_then u (ordering_then v w)

three_same : (r s : Ordering) {e f : EdgeEnds} → ordering_then r (ordering_then s (edge_cmp e f)) ≡ Equal → e ≡ f
three_same Equal Equal {e} {f} h = edge_exact e f h
three_same Equal Less h = absurd (cc h)
three_same Equal Greater h = absurd (cc h)
three_same Less s h = absurd (cc h)
three_same Greater s h = absurd (cc h)

abbrev pub IsWide : EdgeEnds → Type 0
IsWide e = pos 0 <ℤ (e.b.x -ℤ e.a.x)

module _ (cmp : EdgeEnds → EdgeEnds → Ordering) (turns : (e f : EdgeEnds) → cmp f e ≡ ordering_reverse (cmp e f))
    (exact : (e f : EdgeEnds) → cmp e f ≡ Equal → e ≡ f)
    (joins : (e f g : EdgeEnds) → IsWide e → IsWide f → IsWide g → Joins (cmp e f) (cmp f g) (cmp e g)) where
  turned_by : (e f : EdgeEnds) → cmp e f ≡ Less → cmp f e ≡ Greater
  turned_by e f h = turns e f ∙ ap ordering_reverse h

  total_by : (e f : EdgeEnds) → IsWide e → IsWide f → Leads cmp e f ⊎ Leads cmp f e
  total_by e f wide_e wide_f = by (cmp e f) refl
    where
      by : (o : Ordering) → cmp e f ≡ o → Leads cmp e f ⊎ Leads cmp f e
      by Less is = inl (inr is)
      by Equal is = inl (inl (exact e f is))
      by Greater is = inr (inr (turns e f ∙ ap ordering_reverse is))

  joined_by : (e f g : EdgeEnds) → IsWide e → IsWide f → IsWide g → Leads cmp e f → Leads cmp f g → Leads cmp e g
  joined_by e f g wide_e wide_f wide_g (inl h) l = subst (λ x. Leads cmp x g) (sym h) l
  joined_by e f g wide_e wide_f wide_g (inr h) (inl i) = subst (Leads cmp e) i (inr h)
  joined_by e f g wide_e wide_f wide_g (inr h) (inr i) = inr ((joins e f g wide_e wide_f wide_g).less h i)

module _ (q : Point) where
  turns_up : (e f : EdgeEnds) → upwards_cmp q f e ≡ ordering_reverse (upwards_cmp q e f)
  turns_up e f =
      three_turned (height_cmp q e f) (slope_cmp e f) (edge_cmp e f)
      (int_cmp_total.antisymm (height_at q f *ℤ width e) (height_at q e *ℤ width f))
      (int_cmp_total.antisymm ((f.b.y -ℤ f.a.y) *ℤ width e) ((e.b.y -ℤ e.a.y) *ℤ width f)) (edge_total.antisymm f e)

  turns_down : (e f : EdgeEnds) → downwards_cmp q f e ≡ ordering_reverse (downwards_cmp q e f)
  turns_down e f =
      three_turned (height_cmp q f e) (slope_cmp f e) (edge_cmp e f)
      (int_cmp_total.antisymm (height_at q e *ℤ width f) (height_at q f *ℤ width e))
      (int_cmp_total.antisymm ((e.b.y -ℤ e.a.y) *ℤ width f) ((f.b.y -ℤ f.a.y) *ℤ width e)) (edge_total.antisymm f e)

  exact_up : (e f : EdgeEnds) → upwards_cmp q e f ≡ Equal → e ≡ f
  exact_up e f h = three_same (height_cmp q e f) (slope_cmp e f) h

  exact_down : (e f : EdgeEnds) → downwards_cmp q e f ≡ Equal → e ≡ f
  exact_down e f h = three_same (height_cmp q f e) (slope_cmp f e) h

  joins_up : (e f g : EdgeEnds) → IsWide e → IsWide f → IsWide g
      → Joins (upwards_cmp q e f) (upwards_cmp q f g) (upwards_cmp q e g)
  joins_up e f g some_e some_f some_g =
      then_joins (rising (height_at q e) (width e) (height_at q f) (width f) (height_at q g) (width g) some_e some_f some_g)
      (then_joins
      (rising (e.b.y -ℤ e.a.y) (width e) (f.b.y -ℤ f.a.y) (width f) (g.b.y -ℤ g.a.y) (width g) some_e some_f some_g)
      (edge_joins e f g))

  joins_down : (e f g : EdgeEnds) → IsWide e → IsWide f → IsWide g
      → Joins (downwards_cmp q e f) (downwards_cmp q f g) (downwards_cmp q e g)
  joins_down e f g some_e some_f some_g =
      then_joins (falling (height_at q e) (width e) (height_at q f) (width f) (height_at q g) (width g) some_e some_f some_g)
      (then_joins
      (falling (e.b.y -ℤ e.a.y) (width e) (f.b.y -ℤ f.a.y) (width f) (g.b.y -ℤ g.a.y) (width g) some_e some_f some_g)
      (edge_joins e f g))

  pub turned_up : (e f : EdgeEnds) → upwards_cmp q e f ≡ Less → upwards_cmp q f e ≡ Greater
  turned_up = turned_by (upwards_cmp q) turns_up exact_up joins_up

  pub total_up : (e f : EdgeEnds) → IsWide e → IsWide f → Leads (upwards_cmp q) e f ⊎ Leads (upwards_cmp q) f e
  total_up = total_by (upwards_cmp q) turns_up exact_up joins_up

  pub joined_up : (e f g : EdgeEnds) → IsWide e → IsWide f → IsWide g → Leads (upwards_cmp q) e f
      → Leads (upwards_cmp q) f g → Leads (upwards_cmp q) e g
  joined_up = joined_by (upwards_cmp q) turns_up exact_up joins_up

  pub turned_down : (e f : EdgeEnds) → downwards_cmp q e f ≡ Less → downwards_cmp q f e ≡ Greater
  turned_down = turned_by (downwards_cmp q) turns_down exact_down joins_down

  pub total_down : (e f : EdgeEnds) → IsWide e → IsWide f → Leads (downwards_cmp q) e f ⊎ Leads (downwards_cmp q) f e
  total_down = total_by (downwards_cmp q) turns_down exact_down joins_down

  pub joined_down : (e f g : EdgeEnds) → IsWide e → IsWide f → IsWide g → Leads (downwards_cmp q) e f
      → Leads (downwards_cmp q) f g → Leads (downwards_cmp q) e g
  joined_down = joined_by (downwards_cmp q) turns_down exact_down joins_down
