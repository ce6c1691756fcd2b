-- Vertices in order, by columns. In one column those below an edge come first, and those above it last. So where two of a
-- column lie on one side of a cell, all between them do, and no column of theirs bounds the cell.
use Rattle.std.proofs.Common.{◌≡◌, refl, ap, sym, subst, ◌∙◌, arith, ℕ, ◌-◌, ◌<◌, ◌≤◌, Bool, true, false, true≢false, not}
use Rattle.std.proofs.Common.{◌&&◌, ◌||◌, ⊎_elim, inl, inr, List, [], ◌∷◌, ◌++◌, length, get_or, Option, Some, None, Ordering, Less, is_lt}
use Rattle.std.specs.Prelude.{ℤ, pos, ◌+ℤ◌, ◌-ℤ◌, ◌*ℤ◌, ◌<ℤ◌, ◌≤ℤ◌, ◌⊎◌, int_le}
use Rattle.std.specs.List.{AllWithin, HoldsAt, AllByRecursion}
use Rattle.std.specs.Ordering.{int_eq}
use Rattle.std.proofs.lemmas.List.{get_or_default}
use Rattle.std.proofs.lemmas.Bool.Decides.{Decides-int_eq}
use Rattle.round_plain.proofs.Counts.{origin}
use Rattle.std.specs.List.Sorted.{IsStrictlySortedBy, IsPartitionedBy}
use Rattle.std.specs.Int.{int_div_euclid}
use Rattle.grid_core.proofs.Crossings.{floor_low, floor_high}
use Rattle.std.proofs.lemmas.Map.Keys.{Less-from_sorted}
use Rattle.grid_core.specs.declared.point.Point.{Point}
use Rattle.grid_core.specs.Vector.{point_cmp}
use Rattle.grid_core.specs.Edge.{EdgeEnds}
use Rattle.grid_core.specs.Places.{query_point, reaches, side_of_edge, is_at_most, is_at_least}
use Rattle.grid_core.proofs.Order.{point_less, point_total}
use Rattle.grid_core.proofs.Comparisons.{is_less}
use Rattle.grid_core.proofs.Signed.{signed, le_true, from_le_true}
use Rattle.grid_core.proofs.Ring.{int_mul_nonneg}
use Rattle.grid_core.proofs.Polynomial.{V, K, ◌⊕◌, ◌⊖◌, ◌⊗◌, same_polynomial}
use Rattle.cell_map.specs.declared.columns.Side.{Side}
use Rattle.cell_map.specs.declared.columns.Side.TheVariants.{Below, Above}
use Rattle.cell_map.specs.Columns.{bounds_cell, lies_outside}
use Rattle.edge_search.proofs.Ranges.{and_left, and_right}

-- ---- a list in order

earlier_or_same : (i j : ℕ) → i ≤ j → (i ≡ j) ⊎ (i < j)
earlier_or_same i j le = grind arith

-- what stands before a vertex that passes a test passes it, where all lesser vertices do
pub parted : (p : Point → Bool) → ((g h : Point) → point_cmp g h ≡ Less → p h ≡ true → p g ≡ true)
    → (vs : List Point) → IsStrictlySortedBy point_cmp vs → IsPartitionedBy p vs
parted p lesser_too vs s i j d le lt passes =
    ⊎_elim
    (λ (e : i ≡ j). subst (λ k. p (get_or vs k d) ≡ true) (sym e) passes)
    (λ (less : i < j). lesser_too (get_or vs i d) (get_or vs j d) (Less-from_sorted point_cmp vs i j d s less lt) passes)
    (earlier_or_same i j le)

-- one vertex is no further right than another, and in one column no higher
pub record ComesFirst (g h : Point) : Type 0 where
  pub left : g.x ≤ℤ h.x
  pub low : g.x ≡ h.x → g.y ≤ℤ h.y

first_if_less : (g h : Point) → (g.x <ℤ h.x) ⊎ ((g.x ≡ h.x) × (g.y <ℤ h.y)) → ComesFirst g h
first_if_less g h (inl left) = record { left = omega (arith, signed, left); low = λ e. absurd (omega (arith, signed, left, e)) }
first_if_less g h (inr low) = record { left = omega (arith, signed, low.0); low = λ e. omega (arith, signed, low.1) }

first_if_same : (g h : Point) → g ≡ h → ComesFirst g h
first_if_same g h e =
    let x : g.x ≡ h.x = ap (λ (p : Point). p.x) e in
    let y : g.y ≡ h.y = ap (λ (p : Point). p.y) e in
    record { left = omega (arith, signed, x); low = λ _. omega (arith, signed, y) }

pub in_order : (vs : List Point) → IsStrictlySortedBy point_cmp vs → (i j : ℕ) (d : Point) → i ≤ j → j < length vs
    → ComesFirst (get_or vs i d) (get_or vs j d)
in_order vs s i j d le lt =
    ⊎_elim
    (λ (e : i ≡ j). first_if_same (get_or vs i d) (get_or vs j d) (ap (λ k. get_or vs k d) e))
    (λ (less : i < j). first_if_less (get_or vs i d) (get_or vs j d)
    (point_less (get_or vs i d) (get_or vs j d) (Less-from_sorted point_cmp vs i j d s less lt)))
    (earlier_or_same i j le)

-- what stands before a vertex that comes before a point comes before it
pub parted_before : (p : Point) (vs : List Point) → IsStrictlySortedBy point_cmp vs
    → IsPartitionedBy (λ h. is_lt (point_cmp h p)) vs
parted_before p =
    parted (λ h. is_lt (point_cmp h p))
    (λ g h less before. ap is_lt (point_total.trans g h p less (is_less (point_cmp h p) before)))

-- what stands before a vertex that isn't right of a column isn't right of it
pub columns_parted : (x : ℤ) (vs : List Point) → IsStrictlySortedBy point_cmp vs → IsPartitionedBy (λ h. int_le h.x x) vs
columns_parted x =
    parted (λ h. int_le h.x x)
    (λ g h less le. le_true g.x x (omega (arith, signed, (first_if_less g h (point_less g h less)).left, from_le_true h.x x le)))

-- such a vertex isn't right of a query point in that column, and one behind them is
pub not_right : (q x c : ℤ) → c ≡ int_div_euclid q (pos 256) → int_le x c ≡ true → (pos 256 *ℤ x) ≤ℤ q
not_right q x c e le = omega (arith, signed, e, from_le_true x c le, floor_low q (pos 256) (omega (arith, signed)))

pub right_of : (q x c : ℤ) → c ≡ int_div_euclid q (pos 256) → int_le x c ≡ false → q <ℤ (pos 256 *ℤ x)
right_of q x c e le = omega (arith, signed, e, le, floor_high q (pos 256) (omega (arith, signed)))

-- both parts of a list in order are in order
module _ {X : Type 0} where
  all_left : (P : X → Type 0) (xs ys : List X) → AllByRecursion P (xs ++ ys) → AllByRecursion P xs
  all_left P [] ys h = tt
  all_left P (x ∷ xs) ys h = (h.0, all_left P xs ys h.1)

  pub sorted_left : (R : X → X → Ordering) (xs ys : List X) → IsStrictlySortedBy R (xs ++ ys) → IsStrictlySortedBy R xs
  unfolding IsStrictlySortedBy
  sorted_left R [] ys h = tt
  sorted_left R (x ∷ xs) ys h = (all_left (λ y. R x y ≡ Less) xs ys h.0, sorted_left R xs ys h.1)

  pub sorted_right : (R : X → X → Ordering) (xs ys : List X) → IsStrictlySortedBy R (xs ++ ys) → IsStrictlySortedBy R ys
  unfolding IsStrictlySortedBy
  sorted_right R [] ys h = h
  sorted_right R (x ∷ xs) ys h = sorted_right R xs ys h.1

-- ---- a column and an edge

side_higher : (e : EdgeEnds) (g h : Point) → g.x ≡ h.x
    → side_of_edge e (query_point h) ≡ side_of_edge e (query_point g) +ℤ pos 256 *ℤ ((e.b.x -ℤ e.a.x) *ℤ (h.y -ℤ g.y))
side_higher e g h x =
    same_polynomial (e.a.x ∷ e.a.y ∷ (e.b.x -ℤ e.a.x) ∷ (e.b.y -ℤ e.a.y) ∷ h.x ∷ g.y ∷ h.y ∷ [])
    (V 2 ⊗ (K (pos 256) ⊗ V 6 ⊖ K (pos 256) ⊗ V 1) ⊖ V 3 ⊗ (K (pos 256) ⊗ V 4 ⊖ K (pos 256) ⊗ V 0))
    ((V 2 ⊗ (K (pos 256) ⊗ V 5 ⊖ K (pos 256) ⊗ V 1) ⊖ V 3 ⊗ (K (pos 256) ⊗ V 4 ⊖ K (pos 256) ⊗ V 0))
    ⊕ K (pos 256) ⊗ (V 2 ⊗ (V 6 ⊖ V 5))) refl
    ∙ ap (λ z. ((e.b.x -ℤ e.a.x) *ℤ (pos 256 *ℤ g.y -ℤ pos 256 *ℤ e.a.y)
    -ℤ (e.b.y -ℤ e.a.y) *ℤ (pos 256 *ℤ z -ℤ pos 256 *ℤ e.a.x))
    +ℤ pos 256 *ℤ ((e.b.x -ℤ e.a.x) *ℤ (h.y -ℤ g.y))) (sym x)

reaches_both : (e : EdgeEnds) (g h : Point) → g.x ≡ h.x → reaches e g ≡ reaches e h
reaches_both e g h x = ap (λ z. int_le e.a.x z && int_le z e.b.x) x

side_rises : (e : EdgeEnds) (g h : Point) → ComesFirst g h → g.x ≡ h.x → reaches e h ≡ true
    → side_of_edge e (query_point g) ≤ℤ side_of_edge e (query_point h)
side_rises e g h first x r =
    let from = from_le_true e.a.x h.x (and_left (int_le e.a.x h.x) (int_le h.x e.b.x) r) in
    let to = from_le_true h.x e.b.x (and_right (int_le e.a.x h.x) (int_le h.x e.b.x) r) in
    let rise =
    int_mul_nonneg (e.b.x -ℤ e.a.x) (h.y -ℤ g.y) (omega (arith, signed, from, to)) (omega (arith, signed, first.low x)) in
    omega (arith, signed, side_higher e g h x, rise)

or_denied : (b c : Bool) → (not b || c) ≡ true → b ≡ true → c ≡ true
or_denied true c h e = h
or_denied false c h e = absurd (true≢false (sym e))

-- above a vertex of its column that is on an edge or above it, a vertex is so too
at_least_higher : (o : Option EdgeEnds) (g h : Point) → ComesFirst g h → g.x ≡ h.x
    → is_at_least o g ≡ true → is_at_least o h ≡ true
at_least_higher None g h first x up = refl
at_least_higher (Some e) g h first x up = by (reaches e h) refl
  where
    by : (b : Bool) → reaches e h ≡ b → (not (reaches e h) || int_le (pos 0) (side_of_edge e (query_point h))) ≡ true
    by false r = ap (λ b. not b || int_le (pos 0) (side_of_edge e (query_point h))) r
    by true r =
        let lower = from_le_true (pos 0) (side_of_edge e (query_point g))
        (or_denied (reaches e g) (int_le (pos 0) (side_of_edge e (query_point g))) up (reaches_both e g h x ∙ r)) in
        ap (λ b. not b || int_le (pos 0) (side_of_edge e (query_point h))) r
        ∙ le_true (pos 0) (side_of_edge e (query_point h)) (omega (arith, signed, lower, side_rises e g h first x r))

-- below a vertex of its column that is on an edge or below it, a vertex is so too
at_most_lower : (o : Option EdgeEnds) (g h : Point) → ComesFirst g h → g.x ≡ h.x
    → is_at_most o h ≡ true → is_at_most o g ≡ true
at_most_lower None g h first x down = refl
at_most_lower (Some e) g h first x down = by (reaches e h) refl
  where
    by : (b : Bool) → reaches e h ≡ b → (not (reaches e g) || int_le (side_of_edge e (query_point g)) (pos 0)) ≡ true
    by false r = ap (λ b. not b || int_le (side_of_edge e (query_point g)) (pos 0)) (reaches_both e g h x ∙ r)
    by true r =
        let higher = from_le_true (side_of_edge e (query_point h)) (pos 0)
        (or_denied (reaches e h) (int_le (side_of_edge e (query_point h)) (pos 0)) down r) in
        ap (λ b. not b || int_le (side_of_edge e (query_point g)) (pos 0)) (reaches_both e g h x ∙ r)
        ∙ le_true (side_of_edge e (query_point g)) (pos 0) (omega (arith, signed, higher, side_rises e g h first x r))

-- ---- a column and a cell

denied : (b c : Bool) → (b ≡ true → c ≡ true) → not c ≡ true → not b ≡ true
denied true true h e = e
denied true false h e = absurd (true≢false (sym (h refl)))
denied false c h e = refl

-- one vertex of a list is in the column x and on this side of the cell
pub record LiesAt (above below : Option EdgeEnds) (side : Side) (x : ℤ) (vs : List Point) (k : ℕ) : Type 0 where
  pub column : HoldsAt (λ h. h.x ≡ x) vs k
  pub outside : HoldsAt (λ h. lies_outside above below side h ≡ true) vs k

module _ (above below : Option EdgeEnds) where
  -- a vertex between two of its column that lie on one side of the cell does too
  between_outside : (side : Side) (f g h : Point) → ComesFirst f g → ComesFirst g h → f.x ≡ h.x
      → lies_outside above below side f ≡ true → lies_outside above below side h ≡ true → lies_outside above below side g ≡ true
  between_outside Below f g h first second x low high =
      let column : g.x ≡ h.x = omega (arith, signed, x, first.left, second.left) in
      denied (is_at_least below g) (is_at_least below h) (at_least_higher below g h second column) high
  between_outside Above f g h first second x low high =
      let column : f.x ≡ g.x = omega (arith, signed, x, first.left, second.left) in
      denied (is_at_most above g) (is_at_most above f) (at_most_lower above f g first column) low

  -- a vertex outside a cell doesn't bound it
  outside_bounds : (side : Side) (h : Point) → lies_outside above below side h ≡ true → bounds_cell above below h ≡ false
  outside_bounds Below h e = by (is_at_most above h) (is_at_least below h) e
    where
      by : (b c : Bool) → not c ≡ true → (b && c) ≡ false
      by true true e = sym e
      by true false e = refl
      by false c e = refl
  outside_bounds Above h e = ap (λ b. b && is_at_least below h) (by (is_at_most above h) e)
    where
      by : (b : Bool) → not b ≡ true → b ≡ false
      by true e = sym e
      by false e = refl

  -- from one vertex to another of its column on the same side of the cell none bounds it
  pub run_outside : (vs : List Point) → IsStrictlySortedBy point_cmp vs → (side : Side) (i j : ℕ) (d : Point) → j < length vs
      → (get_or vs i d).x ≡ (get_or vs j d).x
      → lies_outside above below side (get_or vs i d) ≡ true → lies_outside above below side (get_or vs j d) ≡ true
      → (k : ℕ) → i ≤ k → k ≤ j → bounds_cell above below (get_or vs k d) ≡ false
  run_outside vs s side i j d lt x first last k from to =
      outside_bounds side (get_or vs k d)
      (between_outside side (get_or vs i d) (get_or vs k d) (get_or vs j d)
      (in_order vs s i k d from (omega (arith, to, lt))) (in_order vs s k j d to lt) x first last)

  -- what a test of a vertex with another in its column tells, whatever stands outside the list
  pub alike : (vs : List Point) (side : Side) (x : ℤ) (k : ℕ) → k < length vs
      → (int_eq (get_or vs k origin).x x && lies_outside above below side (get_or vs k origin)) ≡ true
      → LiesAt above below side x vs k
  alike vs side x k lt t =
      let h = get_or vs k origin in
      let column : h.x ≡ x = (Decides-int_eq h.x x).0 (and_left (int_eq h.x x) (lies_outside above below side h) t) in
      let outside = and_right (int_eq h.x x) (lies_outside above below side h) t in
      record {
        column = λ d. ap (λ (g : Point). g.x) (get_or_default vs k d origin lt) ∙ column;
        outside = λ d. ap (lies_outside above below side) (get_or_default vs k d origin lt) ∙ outside;
      }

module _ {above below : Option EdgeEnds} {side : Side} {vs : List Point} (order : IsStrictlySortedBy point_cmp vs) (n : ℕ)
    (some : 1 ≤ n) (within : n ≤ length vs) where
  -- the first n, of which the first and the last are alike
  pub first_outside : lies_outside above below side (get_or vs 0 origin) ≡ true
      → LiesAt above below side (get_or vs 0 origin).x vs (n - 1)
      → AllWithin (λ h. bounds_cell above below h ≡ false) vs 0 n
  first_outside first last k d from to =
      let there = get_or_default vs 0 d origin (omega (arith, some, within)) in
      run_outside above below vs order side 0 (n - 1) d (omega (arith, some, within))
      (ap (λ (g : Point). g.x) there ∙ sym (last.column d)) (ap (lies_outside above below side) there ∙ first)
      (last.outside d) k from (omega (arith, to))

  -- the last n, of which the first and the last are alike
  pub last_outside : lies_outside above below side (get_or vs (length vs - 1) origin) ≡ true
      → LiesAt above below side (get_or vs (length vs - 1) origin).x vs (length vs - n)
      → AllWithin (λ h. bounds_cell above below h ≡ false) vs (length vs - n) (length vs)
  last_outside last first k d from to =
      let there = get_or_default vs (length vs - 1) d origin (omega (arith, some, within)) in
      run_outside above below vs order side (length vs - n) (length vs - 1) d (omega (arith, some, within))
      (first.column d ∙ sym (ap (λ (g : Point). g.x) there)) (first.outside d)
      (ap (lies_outside above below side) there ∙ last) k from (omega (arith, to))
