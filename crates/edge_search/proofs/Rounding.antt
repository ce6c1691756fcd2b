-- Quotients of numbers that were scaled first and then rounded down: where the scale is at least the product of the
-- denominators, different fractions give different numbers.
use Rattle.std.proofs.Common.{◌≡◌, refl, sym, ap, ◌∙◌, ℕ, ◌*◌, ◌≤◌, arith, [], ◌∷◌, ⊎_elim}
use Rattle.std.specs.Prelude.{ℤ, pos, neg_ℤ, unsigned_abs, ◌+ℤ◌, ◌-ℤ◌, ◌*ℤ◌, ◌≤ℤ◌, ◌<ℤ◌}
use Rattle.std.specs.Int.{int_div_euclid}
use Rattle.std.proofs.lemmas.Int.{unsigned_abs-mul}
use Rattle.grid_core.proofs.Signed.{signed, size_between}
use Rattle.grid_core.proofs.Ring.{int_mul-le_left, int_mul-le_right, int_mul-lt_right, int_lt_or_le}
use Rattle.grid_core.proofs.Ring.{int_mul_comm, int_mul_nonneg, int_mul-neg}
use Rattle.grid_core.proofs.Polynomial.{V, K, ◌⊕◌, ◌⊖◌, ◌⊗◌, same_polynomial}
use Rattle.grid_core.proofs.Crossings.{floor_low, floor_high}
use Rattle.grid_core.proofs.Quotients.{floor_le, floor_ge, below_floor_le, times_more}

times_sum : (d q s t : ℤ) → d *ℤ (q *ℤ s +ℤ t) ≡ (q *ℤ d) *ℤ s +ℤ d *ℤ t
times_sum d q s t =
    same_polynomial (d ∷ q ∷ s ∷ t ∷ []) (V 0 ⊗ (V 1 ⊗ V 2 ⊕ V 3)) ((V 1 ⊗ V 0) ⊗ V 2 ⊕ V 0 ⊗ V 3) refl

times_more_sum : (d q s t : ℤ)
    → d *ℤ ((q *ℤ s +ℤ t) +ℤ pos 1) ≡ (q *ℤ d) *ℤ s +ℤ d *ℤ (t +ℤ pos 1)
times_more_sum d q s t =
    same_polynomial (d ∷ q ∷ s ∷ t ∷ []) (V 0 ⊗ ((V 1 ⊗ V 2 ⊕ V 3) ⊕ K (pos 1)))
    ((V 1 ⊗ V 0) ⊗ V 2 ⊕ V 0 ⊗ (V 3 ⊕ K (pos 1))) refl

less_times : (n d q s : ℤ) → (n -ℤ q *ℤ d) *ℤ s ≡ n *ℤ s -ℤ (q *ℤ d) *ℤ s
less_times n d q s =
    same_polynomial (n ∷ d ∷ q ∷ s ∷ []) ((V 0 ⊖ V 2 ⊗ V 1) ⊗ V 3) (V 0 ⊗ V 3 ⊖ (V 2 ⊗ V 1) ⊗ V 3) refl

-- q times the denominator may be taken away first, and q times the scale added in the end
div_in_parts : (n d q s : ℤ) → pos 0 <ℤ d
    → int_div_euclid (n *ℤ s) d ≡ q *ℤ s +ℤ int_div_euclid ((n -ℤ q *ℤ d) *ℤ s) d
div_in_parts n d q s some =
    let t = int_div_euclid ((n -ℤ q *ℤ d) *ℤ s) d in
    let low = floor_low ((n -ℤ q *ℤ d) *ℤ s) d some in
    let high = floor_high ((n -ℤ q *ℤ d) *ℤ s) d some in
    let up = floor_le (n *ℤ s) d (q *ℤ s +ℤ t) some
    (omega (arith, signed, high, less_times n d q s, times_more_sum d q s t)) in
    let down = floor_ge (n *ℤ s) d (q *ℤ s +ℤ t) some
    (omega (arith, signed, low, less_times n d q s, times_sum d q s t)) in
    omega (arith, signed, up, down)

-- the same, step by step
pub joined_parts : (n d s whole top rest part low r : ℤ) → pos 0 <ℤ d → whole ≡ int_div_euclid n d → top ≡ whole *ℤ s
    → rest ≡ n -ℤ int_div_euclid n d *ℤ d → part ≡ rest *ℤ s → low ≡ int_div_euclid part d → r ≡ top +ℤ low
    → r ≡ int_div_euclid (n *ℤ s) d
joined_parts n d s whole top rest part low r some whole_is top_is rest_is part_is low_is is =
    is
    ∙ ap (λ z. z +ℤ low) (top_is ∙ ap (λ z. z *ℤ s) whole_is)
    ∙ ap (λ z. int_div_euclid n d *ℤ s +ℤ z)
    (low_is ∙ ap (λ z. int_div_euclid z d) (part_is ∙ ap (λ z. z *ℤ s) rest_is))
    ∙ sym (div_in_parts n d (int_div_euclid n d) s some)

one_apart : (h g w v s a : ℤ)
    → (g *ℤ w -ℤ h *ℤ v) *ℤ s ≡ ((g *ℤ s) *ℤ w -ℤ (v *ℤ (a +ℤ pos 1)) *ℤ w) +ℤ (v *ℤ (w *ℤ a) -ℤ v *ℤ (h *ℤ s)) +ℤ w *ℤ v
one_apart h g w v s a =
    same_polynomial (h ∷ g ∷ w ∷ v ∷ s ∷ a ∷ []) ((V 1 ⊗ V 2 ⊖ V 0 ⊗ V 3) ⊗ V 4)
    (((V 1 ⊗ V 4) ⊗ V 2 ⊖ (V 3 ⊗ (V 5 ⊕ K (pos 1))) ⊗ V 2)
    ⊕ (V 3 ⊗ (V 2 ⊗ V 5) ⊖ V 3 ⊗ (V 0 ⊗ V 4)) ⊕ V 2 ⊗ V 3) refl

one_time : (s : ℤ) → pos 1 *ℤ s ≡ s
one_time s = same_polynomial (s ∷ []) (K (pos 1) ⊗ V 0) (V 0) refl

-- the greater fraction has the greater number
pub div_rises : (h g w v s : ℤ) → pos 0 <ℤ w → pos 0 <ℤ v → (w *ℤ v) ≤ℤ s → pos 0 ≤ℤ s → (h *ℤ v) <ℤ (g *ℤ w)
    → int_div_euclid (h *ℤ s) w <ℤ int_div_euclid (g *ℤ s) v
div_rises h g w v s some_w some_v fine scale less =
    let a = int_div_euclid (h *ℤ s) w in
    ⊎_elim (λ l. l)
    (λ (back : int_div_euclid (g *ℤ s) v ≤ℤ a).
    let below = int_mul-lt_right (g *ℤ s) (v *ℤ (a +ℤ pos 1)) w some_w (below_floor_le (g *ℤ s) v a some_v back) in
    let above = int_mul-le_left v (w *ℤ a) (h *ℤ s) (omega (arith, signed, some_v)) (floor_low (h *ℤ s) w some_w) in
    let gap = int_mul-le_right (pos 1) (g *ℤ w -ℤ h *ℤ v) s scale (omega (arith, signed, less)) in
    absurd (omega (arith, signed, below, above, gap, fine, one_apart h g w v s a, one_time s)))
    (int_lt_or_le a (int_div_euclid (g *ℤ s) v))

-- ---- sizes

-- a number by the size of its fraction
sized : (n d : ℤ) (m : ℕ) → unsigned_abs n ≤ m * unsigned_abs d → pos 0 <ℤ d
    → ((d *ℤ neg_ℤ (pos m)) ≤ℤ n) × (n ≤ℤ (d *ℤ pos m))
sized n d m small some =
    let size = unsigned_abs-mul (pos m) d in
    let product = int_mul_nonneg (pos m) d (omega (arith, signed)) (omega (arith, signed, some)) in
    let turned = int_mul-neg d (pos m) in
    let same = int_mul_comm d (pos m) in
    (omega (arith, signed, small, size, product, turned, same), omega (arith, signed, small, size, product, same))

-- a fraction of at most m in size, rounded down, is at most m in size
pub floor_within : (n d : ℤ) (m : ℕ) → pos 0 <ℤ d → unsigned_abs n ≤ m * unsigned_abs d
    → unsigned_abs (int_div_euclid n d) ≤ m
floor_within n d m some small =
    let bounds = sized n d m small some in
    let more = times_more d (pos m) in
    size_between (int_div_euclid n d) m (floor_ge n d (neg_ℤ (pos m)) some bounds.0)
    (floor_le n d (pos m) some (omega (arith, signed, bounds.1, more, some)))
