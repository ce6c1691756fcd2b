-- How far a cell reaches, by vertices in order. Those that don't bound it are passed over, from the query point on; the first
-- that does tells the nearest column, since what comes behind it is no nearer.
use Rattle.std.proofs.Common.{◌≡◌, refl, ap, sym, subst, ◌∙◌, arith, ℕ, ◌+◌, ◌-◌, ◌^◌, ◌<◌, ◌≤◌, Bool, true, false, cond}
use Rattle.std.proofs.Common.{List, [], ◌∷◌, ◌++◌, map, filter, fold, length, get_or, take, drop, Option, Some}
use Rattle.std.specs.Prelude.{ℤ, pos, ◌+ℤ◌, ◌*ℤ◌, ◌<ℤ◌, ◌≤ℤ◌, int_lt, int_le, slice_get}
use Rattle.std.specs.List.{All, AllWithin, HoldsAt, AllByRecursion}
use Rattle.std.specs.List.Sorted.{IsStrictlySortedBy}
use Rattle.std.specs.Int.{int_min, int_max}
use Rattle.std.proofs.lemmas.Int.{int_min_is, int_max_is}
use Rattle.std.proofs.lemmas.List.{map-append, append-nil, take-append-drop, take_more, take_all, drop_more}
use Rattle.std.proofs.lemmas.List.{get_or-take, get_or-drop, get_or_default, length-take-le, length-drop}
use Rattle.std.proofs.lemmas.List.Elements.{All-take, All-drop, recursion_from_All}
use Rattle.std.proofs.lemmas.Option.{get_or_from_slice_get, slice_get_within}
use Rattle.grid_core.specs.declared.point.Point.{Point}
use Rattle.grid_core.specs.Vector.{IsWithin, point_cmp}
use Rattle.grid_core.specs.Edge.{EdgeEnds}
use Rattle.grid_core.specs.Places.{columns_between, cell_between, strip_of}
use Rattle.grid_core.proofs.Filters.{filter_joined, none_kept, every_kept}
use Rattle.grid_core.proofs.Signed.{signed, le_true, le_false, lt_true, lt_false}
use Rattle.round_plain.proofs.Counts.{origin}
use Rattle.cell_map.specs.Columns.{bounds_cell}
use Rattle.cell_map.proofs.ColumnOrder.{in_order, sorted_left, sorted_right}

-- ---- parts of a list

module _ {X : Type 0} where
  pub all_taken : (P : X → Type 0) (xs : List X) (n : ℕ) → n ≤ length xs → AllWithin P xs 0 n → All P (take n xs)
  all_taken P xs n within h k d lt =
      let less : k < n = subst (λ m. k < m) (length-take-le n xs within) lt in
      subst P (sym (get_or-take n xs k d less)) (h k d (omega arith) less)

  pub all_dropped : (P : X → Type 0) (xs : List X) (n : ℕ) → AllWithin P xs n (length xs) → All P (drop n xs)
  all_dropped P xs n h k d lt =
      let less : k < length xs - n = subst (λ m. k < m) (length-drop n xs) lt in
      subst P (sym (get_or-drop n xs k d)) (h (n + k) d (omega arith) (omega (arith, less)))

-- ---- the nearest of some columns

fold_stays : (f : ℤ → ℤ → ℤ) (w : ℤ) (xs : List ℤ) → AllByRecursion (λ x. f w x ≡ w) xs → fold f w xs ≡ w
fold_stays f w [] h = refl
fold_stays f w (x ∷ xs) h = ap (λ z. fold f z xs) h.0 ∙ fold_stays f w xs h.1

fold_last : (f : ℤ → ℤ → ℤ) → ((w a x : ℤ) → f (f w a) x ≡ f (f w x) a) → (w x : ℤ) (xs : List ℤ)
    → fold f w (xs ++ x ∷ []) ≡ fold f (f w x) xs
fold_last f swaps w x [] = refl
fold_last f swaps w x (a ∷ xs) = fold_last f swaps (f w a) x xs ∙ ap (λ z. fold f z xs) (swaps w a x)

min_stays : (w x y : ℤ) → x ≤ℤ y → int_min (int_min w x) y ≡ int_min w x
min_stays w x y le = omega (arith, signed, le, int_min_is w x, int_min_is (int_min w x) y)

max_stays : (w x y : ℤ) → y ≤ℤ x → int_max (int_max w x) y ≡ int_max w x
max_stays w x y le = omega (arith, signed, le, int_max_is w x, int_max_is (int_max w x) y)

max_swaps : (w a x : ℤ) → int_max (int_max w a) x ≡ int_max (int_max w x) a
max_swaps w a x = omega (arith, signed, int_max_is w a, int_max_is (int_max w a) x, int_max_is w x, int_max_is (int_max w x) a)

module _ (above below : Option EdgeEnds) where
  -- ---- the columns of vertices that bound a cell

  between_joined : (vs hs : List Point)
      → columns_between (vs ++ hs) above below ≡ columns_between vs above below ++ columns_between hs above below
  between_joined vs hs =
      ap (map (λ (h : Point). h.x)) (filter_joined (bounds_cell above below) vs hs)
      ∙ map-append (λ (h : Point). h.x) (filter (bounds_cell above below) vs) (filter (bounds_cell above below) hs)

  none_between : (vs : List Point) → All (λ h. bounds_cell above below h ≡ false) vs → columns_between vs above below ≡ []
  none_between vs h =
      ap (map (λ (h : Point). h.x))
      (none_kept (bounds_cell above below) vs (recursion_from_All (λ h. bounds_cell above below h ≡ false) vs h))

  all_between : (P : ℤ → Type 0) (vs : List Point) → AllByRecursion (λ h. P h.x) vs
      → AllByRecursion P (columns_between vs above below)
  all_between P [] h = tt
  all_between P (v ∷ vs) h = by (all_between P vs h.1) (bounds_cell above below v)
    where
      by : AllByRecursion P (map (λ (h : Point). h.x) (filter (bounds_cell above below) vs)) → (b : Bool)
          → AllByRecursion P
          (map (λ (h : Point). h.x) (cond b (v ∷ filter (bounds_cell above below) vs) (filter (bounds_cell above below) vs)))
      by rest true = (h.0, rest)
      by rest false = rest

  one_between : (v : Point) → bounds_cell above below v ≡ true → columns_between (v ∷ []) above below ≡ v.x ∷ []
  one_between v e = ap (λ b. map (λ (h : Point). h.x) (cond b (v ∷ []) [])) e

  -- vertices that bound no cell, first or last, tell nothing
  first_idle : (vs : List Point) (n : ℕ) → n ≤ length vs → AllWithin (λ h. bounds_cell above below h ≡ false) vs 0 n
      → columns_between (drop n vs) above below ≡ columns_between vs above below
  first_idle vs n within h =
      sym (ap (λ hs. columns_between hs above below) (sym (take-append-drop n vs))
      ∙ between_joined (take n vs) (drop n vs)
      ∙ ap (λ xs. xs ++ columns_between (drop n vs) above below)
      (none_between (take n vs) (all_taken (λ h. bounds_cell above below h ≡ false) vs n within h)))

  last_idle : (vs : List Point) (n : ℕ) → AllWithin (λ h. bounds_cell above below h ≡ false) vs n (length vs)
      → columns_between (take n vs) above below ≡ columns_between vs above below
  last_idle vs n h =
      sym (ap (λ hs. columns_between hs above below) (sym (take-append-drop n vs))
      ∙ between_joined (take n vs) (drop n vs)
      ∙ ap (λ xs. columns_between (take n vs) above below ++ xs)
      (none_between (drop n vs) (all_dropped (λ h. bounds_cell above below h ≡ false) vs n h))
      ∙ append-nil (columns_between (take n vs) above below))

  -- what stands behind a first vertex is no nearer, nor what stands before a last one
  behind_first : (v : Point) (rest : List Point) (w : ℤ) → All (λ h. v.x ≤ℤ h.x) rest
      → fold int_min (int_min w v.x) (columns_between rest above below) ≡ int_min w v.x
  behind_first v rest w right =
      let m = int_min w v.x in
      fold_stays int_min m (columns_between rest above below)
      (all_between (λ x. int_min m x ≡ m) rest
      (recursion_from_All (λ h. int_min m h.x ≡ m) rest (λ k d lt. min_stays w v.x (get_or rest k d).x (right k d lt))))

  before_last : (v : Point) (rest : List Point) (w : ℤ) → All (λ h. h.x ≤ℤ v.x) rest
      → fold int_max (int_max w v.x) (columns_between rest above below) ≡ int_max w v.x
  before_last v rest w left =
      let m = int_max w v.x in
      fold_stays int_max m (columns_between rest above below)
      (all_between (λ x. int_max m x ≡ m) rest
      (recursion_from_All (λ h. int_max m h.x ≡ m) rest (λ k d lt. max_stays w v.x (get_or rest k d).x (left k d lt))))

  -- the first vertex that bounds a cell is the nearest one from the left
  first_is_nearest : (vs : List Point) (w : ℤ) → IsStrictlySortedBy point_cmp vs → 0 < length vs
      → bounds_cell above below (get_or vs 0 origin) ≡ true
      → int_min w (get_or vs 0 origin).x ≡ fold int_min w (columns_between vs above below)
  first_is_nearest vs w s some e =
      let v = get_or vs 0 origin in
      let rest = drop 1 vs in
      let right : All (λ h. v.x ≤ℤ h.x) rest =
      all_dropped (λ h. v.x ≤ℤ h.x) vs 1
      (λ k d from to. subst (λ (g : Point). g.x ≤ℤ (get_or vs k d).x) (get_or_default vs 0 d origin some)
      (in_order vs s 0 k d (omega arith) to).left) in
      let columns : columns_between vs above below ≡ v.x ∷ columns_between rest above below =
      ap (λ hs. columns_between hs above below) (drop_more vs 0 origin some)
      ∙ between_joined (v ∷ []) rest
      ∙ ap (λ xs. xs ++ columns_between rest above below) (one_between v e) in
      sym (ap (fold int_min w) columns ∙ behind_first v rest w right)

  -- the last vertex that bounds a cell is the nearest one from the right
  last_is_nearest : (vs : List Point) (w : ℤ) → IsStrictlySortedBy point_cmp vs → 0 < length vs
      → bounds_cell above below (get_or vs (length vs - 1) origin) ≡ true
      → int_max w (get_or vs (length vs - 1) origin).x ≡ fold int_max w (columns_between vs above below)
  last_is_nearest vs w s some e =
      let n = length vs - 1 in
      let v = get_or vs n origin in
      let rest = take n vs in
      let there : n < length vs = omega (arith, some) in
      let left : All (λ h. h.x ≤ℤ v.x) rest =
      all_taken (λ h. h.x ≤ℤ v.x) vs n (omega arith)
      (λ k d from to. subst (λ (g : Point). (get_or vs k d).x ≤ℤ g.x) (get_or_default vs n d origin there)
      (in_order vs s k n d (omega (arith, to)) there).left) in
      let parts : vs ≡ rest ++ v ∷ [] = sym (take_all (n + 1) vs (omega arith)) ∙ take_more vs n origin there in
      let columns : columns_between vs above below ≡ columns_between rest above below ++ v.x ∷ [] =
      ap (λ hs. columns_between hs above below) parts
      ∙ between_joined rest (v ∷ [])
      ∙ ap (λ xs. columns_between rest above below ++ xs) (one_between v e) in
      sym (ap (fold int_max w) columns
      ∙ fold_last int_max max_swaps w v.x (columns_between rest above below)
      ∙ before_last v rest w left)

-- ---- the search

-- of all the vertices, the rest tells how far a cell reaches
pub record Tells (f : ℤ → ℤ → ℤ) (w : ℤ) (above below : Option EdgeEnds) (vs rest : List Point) : Type 0 where
  pub within : All (IsWithin (2 ^ 30)) rest
  pub order : IsStrictlySortedBy point_cmp rest
  pub same : fold f w (columns_between rest above below) ≡ fold f w (columns_between vs above below)

module _ {f : ℤ → ℤ → ℤ} {w : ℤ} {above below : Option EdgeEnds} {vs rest : List Point} (is : Tells f w above below vs rest) where
  ordered_parts : (n : ℕ) → IsStrictlySortedBy point_cmp (take n rest ++ drop n rest)
  ordered_parts n = subst (IsStrictlySortedBy point_cmp) (sym (take-append-drop n rest)) is.order

  pub first_passed : (n : ℕ) → n ≤ length rest → AllWithin (λ h. bounds_cell above below h ≡ false) rest 0 n
      → Tells f w above below vs (drop n rest)
  first_passed n within idle =
      record {
        within = All-drop (IsWithin (2 ^ 30)) n rest is.within;
        order = sorted_right point_cmp (take n rest) (drop n rest) (ordered_parts n);
        same = ap (fold f w) (first_idle above below rest n within idle) ∙ is.same;
      }

  pub last_passed : (n : ℕ) → AllWithin (λ h. bounds_cell above below h ≡ false) rest n (length rest)
      → Tells f w above below vs (take n rest)
  last_passed n idle =
      record {
        within = All-take (IsWithin (2 ^ 30)) n rest is.within;
        order = sorted_left point_cmp (take n rest) (drop n rest) (ordered_parts n);
        same = ap (fold f w) (last_idle above below rest n idle) ∙ is.same;
      }

module _ {w : ℤ} {above below : Option EdgeEnds} {vs rest : List Point} where
  pub first_found : Tells int_min w above below vs rest → (v : Point) → Some v ≡ slice_get rest 0
      → HoldsAt (λ h. bounds_cell above below h ≡ true) rest 0
      → int_min w v.x ≡ fold int_min w (columns_between vs above below)
  first_found is v there bounds =
      ap (λ (h : Point). int_min w h.x) (sym (get_or_from_slice_get rest 0 v origin (sym there)))
      ∙ first_is_nearest above below rest w is.order (slice_get_within rest 0 v (sym there)) (bounds origin)
      ∙ is.same

  pub last_found : Tells int_max w above below vs rest → (v : Point) → Some v ≡ slice_get rest (length rest - 1)
      → HoldsAt (λ h. bounds_cell above below h ≡ true) rest (length rest - 1)
      → int_max w v.x ≡ fold int_max w (columns_between vs above below)
  last_found is v there bounds =
      let some = slice_get_within rest (length rest - 1) v (sym there) in
      ap (λ (h : Point). int_max w h.x) (sym (get_or_from_slice_get rest (length rest - 1) v origin (sym there)))
      ∙ last_is_nearest above below rest w is.order (omega (arith, some)) (bounds origin)
      ∙ is.same

-- ---- the cell

-- all columns of a list where a test holds of them, and none where it doesn't
all_kept_between : (above below : Option EdgeEnds) (side : ℤ → Bool) (vs : List Point) → All (λ h. side h.x ≡ true) vs
    → filter side (columns_between vs above below) ≡ columns_between vs above below
all_kept_between above below side vs h =
    every_kept side (columns_between vs above below)
    (all_between above below (λ x. side x ≡ true) vs (recursion_from_All (λ h. side h.x ≡ true) vs h))

none_kept_between : (above below : Option EdgeEnds) (side : ℤ → Bool) (vs : List Point) → All (λ h. side h.x ≡ false) vs
    → filter side (columns_between vs above below) ≡ []
none_kept_between above below side vs h =
    none_kept side (columns_between vs above below)
    (all_between above below (λ x. side x ≡ false) vs (recursion_from_All (λ h. side h.x ≡ false) vs h))

module _ (q : Point) (above below : Option EdgeEnds) (vs us hs : List Point) (parts : vs ≡ us ++ hs)
    (not_right : All (λ h. (pos 256 *ℤ h.x) ≤ℤ q.x) us) (right : All (λ h. q.x <ℤ (pos 256 *ℤ h.x)) hs) where
  columns_on : (side : ℤ → Bool) → filter side (columns_between vs above below)
      ≡ filter side (columns_between us above below) ++ filter side (columns_between hs above below)
  columns_on side =
      ap (λ vs. filter side (columns_between vs above below)) parts
      ∙ ap (filter side) (between_joined above below us hs)
      ∙ filter_joined side (columns_between us above below) (columns_between hs above below)

  columns_left : filter (λ x. int_le (pos 256 *ℤ x) q.x) (columns_between vs above below) ≡ columns_between us above below
  columns_left =
      let side = λ (x : ℤ). int_le (pos 256 *ℤ x) q.x in
      let kept = all_kept_between above below side us (λ k d lt. le_true (pos 256 *ℤ (get_or us k d).x) q.x (not_right k d lt)) in
      let none = none_kept_between above below side hs (λ k d lt. le_false (pos 256 *ℤ (get_or hs k d).x) q.x (right k d lt)) in
      columns_on side ∙ (λ i. kept i ++ none i) ∙ append-nil (columns_between us above below)

  columns_right : filter (λ x. int_lt q.x (pos 256 *ℤ x)) (columns_between vs above below) ≡ columns_between hs above below
  columns_right =
      let side = λ (x : ℤ). int_lt q.x (pos 256 *ℤ x) in
      let none =
      none_kept_between above below side us (λ k d lt. lt_false q.x (pos 256 *ℤ (get_or us k d).x) (not_right k d lt)) in
      let kept = all_kept_between above below side hs (λ k d lt. lt_true q.x (pos 256 *ℤ (get_or hs k d).x) (right k d lt)) in
      columns_on side ∙ (λ i. none i ++ kept i)

  -- the cell, from what its two ends are
  pub cell_of_ends : (number left_wall right_wall left right : ℤ) → number ≡ strip_of 256 q
      → left_wall ≡ pos 256 *ℤ number
      → right_wall ≡ pos 256 *ℤ (number +ℤ pos 1)
      → left ≡ fold int_max left_wall (columns_between us above below)
      → right ≡ fold int_min right_wall (columns_between hs above below)
      → record { above = above; below = below; left = left; right = right } ≡ cell_between 256 vs q above below
  cell_of_ends number left_wall right_wall left right n lower upper l r =
      let from = lower ∙ ap (λ k. pos 256 *ℤ k) n in
      let to = upper ∙ ap (λ k. pos 256 *ℤ (k +ℤ pos 1)) n in
      λ i. record {
        above = above;
        below = below;
        left = (l ∙ (λ j. fold int_max (from j) (sym columns_left j))) i;
        right = (r ∙ (λ j. fold int_min (to j) (sym columns_right j))) i;
      }
