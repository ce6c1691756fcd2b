-- Spots counted one by one: their keys stay in order, and no count is greater than their number.
use Rattle.std.proofs.Common.{◌≡◌, refl, ap, sym, subst, ℕ, ◌+◌, ◌≤◌, arith, Ordering, Less, Equal, Greater, List, [], ◌∷◌, ◌++◌, length, fold, ◌^◌, Option, Some, None, length-append}
use Rattle.std.specs.List.{AllByRecursion, All}
use Rattle.std.specs.List.Sorted.{IsStrictlySortedBy}
use Rattle.std.specs.Ordering.{nat_cmp, match_ordering}
use Rattle.std.specs.BTreeSet.{insert_key}
use Rattle.std.proofs.lemmas.Cmp.{nat_cmp_total}
use Rattle.std.proofs.lemmas.List.Elements.{All-from_recursion}
use Rattle.grid_core.specs.declared.point.Point.{Point}
use Rattle.grid_core.specs.Segment.{Segment}
use Rattle.grid_core.specs.Rounding.{crossing_pixel}
use Rattle.grid_core.proofs.RisingMembers.{sorted_inserted}
use Rattle.hot_tile.specs.declared.spots.Spot.{Spot}
use Rattle.hot_tile.specs.Frame.{TileFrame, key_in}
use Rattle.hot_tile.specs.Spots.{keys, both, counted, IsSmall}
use Rattle.hot_tile.specs.Own.{one_end, one_crossing, of_some, end_spot, pixel_spot, crossing_spot, end_spots, crossing_spots, own_spots}

-- one counted more is a key more
pub keys_counted : (xs : List Spot) (y : Spot) → keys (counted xs y) ≡ insert_key nat_cmp (keys xs) y.key
unfolding counted
keys_counted [] y = refl
keys_counted (x ∷ xs) y = by (keys_counted xs y) (nat_cmp y.key x.key)
  where
    by : keys (counted xs y) ≡ insert_key nat_cmp (keys xs) y.key → (r : Ordering) → keys (match_ordering r (y ∷ x ∷ xs) (both x y ∷ xs) (x ∷ counted xs y))
        ≡ match_ordering r (y.key ∷ x.key ∷ keys xs) (x.key ∷ keys xs) (x.key ∷ insert_key nat_cmp (keys xs) y.key)
    by rest Less = refl
    by rest Equal = refl
    by rest Greater = ap (λ ks. x.key ∷ ks) rest

-- the keys stay in order
pub counted_rises : (xs ys : List Spot) → IsStrictlySortedBy nat_cmp (keys xs) → IsStrictlySortedBy nat_cmp (keys (fold counted xs ys))
counted_rises xs [] s = s
counted_rises xs (y ∷ ys) s =
    counted_rises (counted xs y) ys
    (subst (IsStrictlySortedBy nat_cmp) (sym (keys_counted xs y)) (sorted_inserted nat_cmp_total y.key (keys xs) s))

-- ---- counts stay small

weaker : (n m n' m' : ℕ) → n ≤ n' → m ≤ m' → (xs : List Spot) → AllByRecursion (IsSmall n m) xs → AllByRecursion (IsSmall n' m') xs
weaker n m n' m' a b [] h = tt
weaker n m n' m' a b (x ∷ xs) h =
    (record { ends = omega (arith, h.0.ends, a); crossings = omega (arith, h.0.crossings, b) }, weaker n m n' m' a b xs h.1)

small_counted : (n m : ℕ) (xs : List Spot) (y : Spot) → IsSmall 1 1 y → AllByRecursion (IsSmall n m) xs
    → AllByRecursion (IsSmall (n + 1) (m + 1)) (counted xs y)
unfolding counted
small_counted n m [] y one h = (record { ends = omega (arith, one.ends); crossings = omega (arith, one.crossings) }, tt)
small_counted n m (x ∷ xs) y one h = by (small_counted n m xs y one h.1) (nat_cmp y.key x.key)
  where
    first : IsSmall (n + 1) (m + 1) y
    first = record { ends = omega (arith, one.ends); crossings = omega (arith, one.crossings) }

    rest : AllByRecursion (IsSmall (n + 1) (m + 1)) (x ∷ xs)
    rest = weaker n m (n + 1) (m + 1) (omega arith) (omega arith) (x ∷ xs) h

    by : AllByRecursion (IsSmall (n + 1) (m + 1)) (counted xs y) → (r : Ordering)
        → AllByRecursion (IsSmall (n + 1) (m + 1)) (match_ordering r (y ∷ x ∷ xs) (both x y ∷ xs) (x ∷ counted xs y))
    by later Less = (first, rest)
    by later Equal = (record { ends = omega (arith, one.ends, h.0.ends); crossings = omega (arith, one.crossings, h.0.crossings) }, rest.1)
    by later Greater = (rest.0, later)

small_folded : (n m : ℕ) (xs ys : List Spot) → AllByRecursion (IsSmall 1 1) ys → AllByRecursion (IsSmall n m) xs
    → AllByRecursion (IsSmall (n + length ys) (m + length ys)) (fold counted xs ys)
small_folded n m xs [] ones h = weaker n m (n + 0) (m + 0) (omega arith) (omega arith) xs h
small_folded n m xs (y ∷ ys) ones h =
    weaker ((n + 1) + length ys) ((m + 1) + length ys) (n + length (y ∷ ys)) (m + length (y ∷ ys)) (omega arith) (omega arith)
    (fold counted (counted xs y) ys) (small_folded (n + 1) (m + 1) (counted xs y) ys ones.1 (small_counted n m xs y ones.0 h))

-- ---- what a segment counts by its own

module _ (f : TileFrame) where
  end_once : (h : Point) → (length (end_spot f h) ≤ 1) × AllByRecursion (IsSmall 1 1) (end_spot f h)
  end_once h = by (key_in f h)
    where
      by : (k : Option ℕ) → (length (of_some (λ n. one_end n ∷ []) k) ≤ 1) × AllByRecursion (IsSmall 1 1) (of_some (λ n. one_end n ∷ []) k)
      by None = (omega arith, tt)
      by (Some n) = (omega arith, (record { ends = omega arith; crossings = omega arith }, tt))

  crossing_once : (s t : Segment) → (length (crossing_spot f s t) ≤ 1) × AllByRecursion (IsSmall 1 1) (crossing_spot f s t)
  crossing_once s t = by (crossing_pixel s t)
    where
      at : (k : Option ℕ) → (length (of_some (λ n. one_crossing n ∷ []) k) ≤ 1) × AllByRecursion (IsSmall 1 1) (of_some (λ n. one_crossing n ∷ []) k)
      at None = (omega arith, tt)
      at (Some n) = (omega arith, (record { ends = omega arith; crossings = omega arith }, tt))

      by : (h : Option Point) → (length (of_some (pixel_spot f) h) ≤ 1) × AllByRecursion (IsSmall 1 1) (of_some (pixel_spot f) h)
      by None = (omega arith, tt)
      by (Some h) = at (key_in f h)

  all_joined : (xs ys : List Spot) → AllByRecursion (IsSmall 1 1) xs → AllByRecursion (IsSmall 1 1) ys → AllByRecursion (IsSmall 1 1) (xs ++ ys)
  all_joined [] ys a b = b
  all_joined (x ∷ xs) ys a b = (a.0, all_joined xs ys a.1 b)

  crossings_once : (s : Segment) (ss : List Segment)
      → (length (crossing_spots f ss s) ≤ length ss) × AllByRecursion (IsSmall 1 1) (crossing_spots f ss s)
  crossings_once s [] = (omega arith, tt)
  crossings_once s (t ∷ ss) =
      let one = crossing_once s t in
      let rest = crossings_once s ss in (
        omega (arith, one.0, rest.0, length-append (crossing_spot f s t) (crossing_spots f ss s)),
        all_joined (crossing_spot f s t) (crossing_spots f ss s) one.1 rest.1,
      )

  -- the keys of what is counted stand in order
  pub own_rises : (ss : List Segment) (s : Segment) → IsStrictlySortedBy nat_cmp (keys (own_spots f ss s))
  unfolding IsStrictlySortedBy
  own_rises ss s = counted_rises [] (end_spots f s ++ crossing_spots f ss s) tt

  -- no count is greater than 2 and the number of segments
  pub own_small : (ss : List Segment) (s : Segment) → length ss ≤ 65536 → AllByRecursion (IsSmall (2 ^ 30) (2 ^ 30)) (own_spots f ss s)
  own_small ss s few =
      let p = end_once s.p in
      let q = end_once s.q in
      let rest = crossings_once s ss in
      let singles = end_spots f s ++ crossing_spots f ss s in
      let short : length (end_spots f s ++ crossing_spots f ss s) ≤ 2 ^ 30 =
      omega (arith, p.0, q.0, rest.0, few, length-append (end_spot f s.p) (end_spot f s.q), length-append (end_spots f s) (crossing_spots f ss s)) in
      weaker (0 + length (end_spots f s ++ crossing_spots f ss s)) (0 + length (end_spots f s ++ crossing_spots f ss s)) (2 ^ 30) (2 ^ 30)
      (omega (arith, short)) (omega (arith, short)) (own_spots f ss s)
      (small_folded 0 0 [] (end_spots f s ++ crossing_spots f ss s)
      (all_joined (end_spots f s) (crossing_spots f ss s) (all_joined (end_spot f s.p) (end_spot f s.q) p.1 q.1) rest.1) tt)

-- what was counted is small enough to count one more
pub own_countable : (f : TileFrame) (ss : List Segment) (s : Segment) → length ss ≤ 65536 → All (IsSmall (2 ^ 31) (2 ^ 31)) (own_spots f ss s)
own_countable f ss s few =
    All-from_recursion (IsSmall (2 ^ 31) (2 ^ 31)) (own_spots f ss s)
    (weaker (2 ^ 30) (2 ^ 30) (2 ^ 31) (2 ^ 31) (omega arith) (omega arith) (own_spots f ss s) (own_small f ss s few))

-- and so is one end
pub end_rises : (f : TileFrame) (h : Point) → IsStrictlySortedBy nat_cmp (keys (fold counted [] (end_spot f h)))
unfolding IsStrictlySortedBy
end_rises f h = counted_rises [] (end_spot f h) tt

pub end_countable : (f : TileFrame) (h : Point) → All (IsSmall (2 ^ 31) (2 ^ 31)) (fold counted [] (end_spot f h))
end_countable f h =
    let once = end_once f h in
    All-from_recursion (IsSmall (2 ^ 31) (2 ^ 31)) (fold counted [] (end_spot f h))
    (weaker (0 + length (end_spot f h)) (0 + length (end_spot f h)) (2 ^ 31) (2 ^ 31) (omega (arith, once.0)) (omega (arith, once.0))
    (fold counted [] (end_spot f h)) (small_folded 0 0 [] (end_spot f h) once.1 tt))
