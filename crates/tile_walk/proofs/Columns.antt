-- The tiles along a segment, column after column. A column's tiles, from entry to exit, stand in the
-- order along the segment and are those that it meets, so they are that part of the whole list; and
-- the list up to a column is the list before it, and then the column.

use Rattle.std.proofs.Common.{◌≡◌, refl, ap, sym, subst, ◌∙◌, ℕ, zero, suc, ◌+◌, ◌<◌, arith}
use Rattle.std.proofs.Common.{true, false, not, ◌↔◌, IsTrue, List, [], ◌∷◌, ◌++◌, map, filter, Contains}
use Rattle.std.proofs.Common.{Ordering, Less, Equal, Greater, append_assoc}
use Rattle.std.specs.Prelude.{ℤ, pos, negsuc, ◌+ℤ◌, ◌-ℤ◌, ◌≤ℤ◌, ◌<ℤ◌, int_lt, if◌then◌else◌}
use Rattle.std.specs.Cmp.{int_cmp_is}
use Rattle.std.specs.Int.{int_gap}
use Rattle.std.specs.List.{AllByRecursion, range_with_len}
use Rattle.std.specs.List.Sorted.{IsStrictlySortedBy}
use Rattle.std.specs.Ordering.{int_cmp, ordering_then, MatchOrdering}
use Rattle.std.proofs.lemmas.Bool.{not-true}
use Rattle.std.proofs.lemmas.Cmp.{int_cmp_total, int_ranked, tied_itself}
use Rattle.std.proofs.lemmas.List.FromFn.{length-map-range_with_len, get_or-map-range_with_len}
use Rattle.std.proofs.lemmas.List.FromFn.{map-range_with_len_more}
use Rattle.std.proofs.lemmas.List.Kept.{IsStrictlySortedBy-filter}
use Rattle.grid_core.specs.declared.tile.TileId.{TileId}
use Rattle.grid_core.specs.Profile.{Sizes}
use Rattle.grid_core.specs.Segment.{Segment}
use Rattle.grid_core.specs.Vector.{point_cmp}
use Rattle.grid_core.specs.Tiles.{meets_tile, falls, along_tile_cmp, along, tile_of}
use Rattle.grid_core.proofs.Filters.{every_kept, none_kept, filter_within}
use Rattle.grid_core.proofs.ListMembers.{contains_first, contains_later, contains_filter}
use Rattle.grid_core.proofs.RisingMembers.{same_members}
use Rattle.grid_core.proofs.Signed.{signed, lt_true, lt_false, from_lt_true, from_lt_false}
use Rattle.grid_core.proofs.SortedLists.{split_sorted}
use Rattle.grid_core.proofs.TileOrder.{along_tile_total, along_tile_exact}
use Rattle.tile_law.proofs.JoinedLists.{all_of, int_gap_is}
use Rattle.tile_law.proofs.MetTiles.{IsBetween, met_between, contains_along, sorted_along}
use Rattle.tile_walk.specs.Columns.{column_up, column_down, before}

-- ---- lists that are made

module _ {X : Type 0} where
  -- what holds of each member holds of all
  all_members : (P : X → Type 0) (xs : List X) → ((x : X) → Contains xs x → P x) → AllByRecursion P xs
  all_members P [] h = tt
  all_members P (x ∷ xs) h = (h x (contains_first x xs), all_members P xs (λ y c. h y (contains_later x xs y c)))

  module _ (f : ℕ → X) where
    -- the members of a list that is made
    contains_made : (n : ℕ) (y : X) → Contains (map f (range_with_len 0 n)) y ↔ ((k : ℕ) × (k < n) × (f k ≡ y))
    contains_made n y = (
      λ c.
          let within : c.0 < n = subst (λ m. c.0 < m) (length-map-range_with_len f 0 n) c.1 in
          (c.0, within, sym (get_or-map-range_with_len f 0 n c.0 c.0 y within (omega arith)) ∙ c.2),
      λ m. (
        m.0,
        subst (λ l. m.0 < l) (sym (length-map-range_with_len f 0 n)) m.1,
        get_or-map-range_with_len f 0 n m.0 m.0 y m.1 (omega arith) ∙ m.2,
      ),
    )

    module _ (R : X → X → Ordering) (later : (k l : ℕ) → k < l → R (f k) (f l) ≡ Less) where
      all_later : (k a n : ℕ) → k < a → AllByRecursion (λ y. R (f k) y ≡ Less) (map f (range_with_len a n))
      all_later k a zero h = tt
      all_later k a (suc n) h = (later k a h, all_later k (a + 1) n (omega (arith, h)))

      sorted_made : (a n : ℕ) → IsStrictlySortedBy R (map f (range_with_len a n))
      unfolding IsStrictlySortedBy
      sorted_made a zero = tt
      sorted_made a (suc n) = (all_later a (a + 1) n (omega arith), sorted_made (a + 1) n)

  -- one element more at the end of a list
  pub made_more : (f : ℕ → X) (old now new : List X) (x : X) (k : ℕ) → now ≡ old ++ map f (range_with_len 0 k)
      → x ≡ f k → new ≡ now ++ x ∷ [] → new ≡ old ++ map f (range_with_len 0 (k + 1))
  made_more f old now new x k done one more =
      more ∙ (λ n. done n ++ one n ∷ []) ∙ append_assoc old (map f (range_with_len 0 k)) (f k ∷ [])
      ∙ ap (λ ys. old ++ ys) (sym (map-range_with_len_more f 0 k k (omega arith)))

-- ---- one column

-- the tile lies in column i, from row low to row high
pub record IsInRows (i low high : ℤ) (t : TileId) : Type 0 where
  pub column : t.i ≡ i
  pub least : low ≤ℤ t.j
  pub most : t.j ≤ℤ high

-- so many rows from one to another
pub rows_in : (low high : ℤ) (k : ℕ) → k < int_gap low (high +ℤ pos 1) → (low +ℤ pos k) ≤ℤ high
rows_in low high k h = omega (arith, signed, int_gap_is low (high +ℤ pos 1), h)

in_rows : (low high j : ℤ) (k : ℕ) → j ≤ℤ high → j -ℤ low ≡ pos k → k < int_gap low (high +ℤ pos 1)
in_rows low high j k h e = omega (arith, signed, int_gap_is low (high +ℤ pos 1), h, e)

pub contains_up : (i low high : ℤ) (t : TileId) → Contains (column_up i low high) t ↔ IsInRows i low high t
contains_up i low high t = (from, to)
  where
    at : ℕ → TileId
    at k = record { i = i; j = low +ℤ pos k }

    from : Contains (column_up i low high) t → IsInRows i low high t
    from c =
        let m = (contains_made (λ k. record { i = i; j = low +ℤ pos k }) (int_gap low (high +ℤ pos 1)) t).0 c in
        let row : low +ℤ pos m.0 ≡ t.j = ap (λ u. u.j) m.2 in
        let within = rows_in low high m.0 m.1 in
        record {
          column = sym (ap (λ u. u.i) m.2);
          least = omega (arith, signed, row);
          most = omega (arith, signed, row, within);
        }

    to : IsInRows i low high t → Contains (column_up i low high) t
    to r = by (t.j -ℤ low) refl
      where
        by : (d : ℤ) → t.j -ℤ low ≡ d → Contains (column_up i low high) t
        by (negsuc k) e = absurd (omega (arith, signed, r.least, e))
        by (pos k) e =
            let row : low +ℤ pos k ≡ t.j = omega (arith, signed, e) in
            (contains_made (λ k. record { i = i; j = low +ℤ pos k }) (int_gap low (high +ℤ pos 1)) t).1
            (k, in_rows low high t.j k r.most e, λ n. record { i = sym r.column n; j = row n })

pub contains_down : (i low high : ℤ) (t : TileId) → Contains (column_down i high low) t ↔ IsInRows i low high t
contains_down i low high t = (from, to)
  where
    from : Contains (column_down i high low) t → IsInRows i low high t
    from c =
        let m = (contains_made (λ k. record { i = i; j = high -ℤ pos k }) (int_gap low (high +ℤ pos 1)) t).0 c in
        let row : high -ℤ pos m.0 ≡ t.j = ap (λ u. u.j) m.2 in
        let within = rows_in low high m.0 m.1 in
        record {
          column = sym (ap (λ u. u.i) m.2);
          least = omega (arith, signed, row, within);
          most = omega (arith, signed, row);
        }

    to : IsInRows i low high t → Contains (column_down i high low) t
    to r = by (high -ℤ t.j) refl
      where
        by : (d : ℤ) → high -ℤ t.j ≡ d → Contains (column_down i high low) t
        by (negsuc k) e = absurd (omega (arith, signed, r.most, e))
        by (pos k) e =
            let row : high -ℤ pos k ≡ t.j = omega (arith, signed, e) in
            let within : k < int_gap low (high +ℤ pos 1) =
            omega (arith, signed, int_gap_is low (high +ℤ pos 1), e, r.least) in
            (contains_made (λ k. record { i = i; j = high -ℤ pos k }) (int_gap low (high +ℤ pos 1)) t).1
            (k, within, λ n. record { i = sym r.column n; j = row n })

module _ (s : Segment) (i : ℤ) where
  pub sorted_up : (low high : ℤ) → falls s ≡ false → IsStrictlySortedBy (along_tile_cmp s) (column_up i low high)
  sorted_up low high f =
      sorted_made (λ k. record { i = i; j = low +ℤ pos k }) (along_tile_cmp s) later 0 (int_gap low (high +ℤ pos 1))
    where
      later : (k l : ℕ) → k < l
          → along_tile_cmp s (record { i = i; j = low +ℤ pos k }) (record { i = i; j = low +ℤ pos l }) ≡ Less
      later k l h =
          ap (λ o. ordering_then o (if falls s then int_cmp (low +ℤ pos l) (low +ℤ pos k)
          else int_cmp (low +ℤ pos k) (low +ℤ pos l))) (tied_itself int_cmp_total i)
          ∙ ap (λ b. if b then int_cmp (low +ℤ pos l) (low +ℤ pos k) else int_cmp (low +ℤ pos k) (low +ℤ pos l)) f
          ∙ sym (int_cmp_is (low +ℤ pos k) (low +ℤ pos l) Less (omega (arith, signed, h)))

  pub sorted_down : (low high : ℤ) → falls s ≡ true → IsStrictlySortedBy (along_tile_cmp s) (column_down i high low)
  sorted_down low high f =
      sorted_made (λ k. record { i = i; j = high -ℤ pos k }) (along_tile_cmp s) later 0 (int_gap low (high +ℤ pos 1))
    where
      later : (k l : ℕ) → k < l
          → along_tile_cmp s (record { i = i; j = high -ℤ pos k }) (record { i = i; j = high -ℤ pos l }) ≡ Less
      later k l h =
          ap (λ o. ordering_then o (if falls s then int_cmp (high -ℤ pos l) (high -ℤ pos k)
          else int_cmp (high -ℤ pos k) (high -ℤ pos l))) (tied_itself int_cmp_total i)
          ∙ ap (λ b. if b then int_cmp (high -ℤ pos l) (high -ℤ pos k) else int_cmp (high -ℤ pos k) (high -ℤ pos l)) f
          ∙ sym (int_cmp_is (high -ℤ pos l) (high -ℤ pos k) Less (omega (arith, signed, h)))

-- ---- column after column

module _ (pr : Sizes) (some : 0 < pr.side) (s : Segment) (ordered : point_cmp s.p s.q ≡ Less) where
  between : AllByRecursion (IsBetween pr some s) (along pr s)
  between =
      all_members (IsBetween pr some s) (along pr s)
      (λ t c. met_between pr some s ordered t ((contains_along pr some s ordered t).0 c))

  -- none before the column of p
  pub none_before : before (tile_of pr s.p).i (along pr s) ≡ []
  none_before =
      none_kept (λ t. int_lt t.i (tile_of pr s.p).i) (along pr s) (each (along pr s) between)
    where
      each : (ts : List TileId) → AllByRecursion (IsBetween pr some s) ts
          → AllByRecursion (λ t. int_lt t.i (tile_of pr s.p).i ≡ false) ts
      each [] h = tt
      each (t ∷ ts) h = (lt_false t.i (tile_of pr s.p).i h.0.after, each ts h.1)

  -- all before the column after that of q
  pub all_before : before ((tile_of pr s.q).i +ℤ pos 1) (along pr s) ≡ along pr s
  all_before =
      every_kept (λ t. int_lt t.i ((tile_of pr s.q).i +ℤ pos 1)) (along pr s) (each (along pr s) between)
    where
      each : (ts : List TileId) → AllByRecursion (IsBetween pr some s) ts
          → AllByRecursion (λ t. int_lt t.i ((tile_of pr s.q).i +ℤ pos 1) ≡ true) ts
      each [] h = tt
      each (t ∷ ts) h =
          (lt_true t.i ((tile_of pr s.q).i +ℤ pos 1) (omega (arith, signed, h.0.before)), each ts h.1)

  module _ (i : ℤ) (column : List TileId) (sorted : IsStrictlySortedBy (along_tile_cmp s) column)
      (members : (t : TileId) → Contains column t ↔ (IsTrue (meets_tile pr t s) × (t.i ≡ i))) where
    earlier : (t u : TileId) → along_tile_cmp s t u ≡ Less → int_lt u.i i ≡ true → int_lt t.i i ≡ true
    earlier t u less h =
        let left = by (int_cmp t.i u.i) (int_ranked t.i u.i (int_cmp t.i u.i) refl) less in
        lt_true t.i i (omega (arith, signed, left, from_lt_true u.i i h))
      where
        by : (o : Ordering) → MatchOrdering o (t.i <ℤ u.i) (t.i ≡ u.i) (u.i <ℤ t.i)
            → ordering_then o (if falls s then int_cmp u.j t.j else int_cmp t.j u.j) ≡ Less → t.i ≤ℤ u.i
        by Less m e = omega (arith, signed, m)
        by Equal m e = omega (arith, signed, m)
        by Greater m e = absurd (cc e)

    rest_is_column : filter (λ t. not (int_lt t.i i)) (before (i +ℤ pos 1) (along pr s)) ≡ column
    rest_is_column =
        same_members (along_tile_total s) (along_tile_exact s)
        (filter (λ t. not (int_lt t.i i)) (before (i +ℤ pos 1) (along pr s))) column
        (IsStrictlySortedBy-filter (along_tile_cmp s) (λ t. not (int_lt t.i i)) (before (i +ℤ pos 1) (along pr s))
        (IsStrictlySortedBy-filter (along_tile_cmp s) (λ t. int_lt t.i (i +ℤ pos 1)) (along pr s) (sorted_along pr some s)))
        sorted (λ t. (from t, to t))
      where
        from : (t : TileId) → Contains (filter (λ t. not (int_lt t.i i)) (before (i +ℤ pos 1) (along pr s))) t
            → Contains column t
        from t c =
            let late = (contains_filter (λ t. not (int_lt t.i i)) (before (i +ℤ pos 1) (along pr s)) t).0 c in
            let soon = (contains_filter (λ t. int_lt t.i (i +ℤ pos 1)) (along pr s) t).0 late.0 in
            let least = from_lt_false t.i i (not-true (int_lt t.i i) late.1) in
            let most = from_lt_true t.i (i +ℤ pos 1) soon.1 in
            (members t).1 ((contains_along pr some s ordered t).0 soon.0, omega (arith, signed, least, most))

        to : (t : TileId) → Contains column t
            → Contains (filter (λ t. not (int_lt t.i i)) (before (i +ℤ pos 1) (along pr s))) t
        to t c =
            let met = (members t).0 c in
            let soon : int_lt t.i (i +ℤ pos 1) ≡ true = lt_true t.i (i +ℤ pos 1) (omega (arith, signed, met.1)) in
            let late : int_lt t.i i ≡ false = lt_false t.i i (omega (arith, signed, met.1)) in
            (contains_filter (λ t. not (int_lt t.i i)) (before (i +ℤ pos 1) (along pr s)) t).1 (
              (contains_filter (λ t. int_lt t.i (i +ℤ pos 1)) (along pr s) t).1
                  ((contains_along pr some s ordered t).1 met.0, soon),
              ap not late,
            )

    -- a list that has the tiles of column i, in order, comes next
    pub column_next : before (i +ℤ pos 1) (along pr s) ≡ before i (along pr s) ++ column
    column_next =
        split_sorted (along_tile_cmp s) (λ t. Unit {0}) (λ t. int_lt t.i i) (λ t u _ _ less h. earlier t u less h)
        (before (i +ℤ pos 1) (along pr s)) (all_of (λ t. Unit {0}) (λ t. tt) (before (i +ℤ pos 1) (along pr s)))
        (IsStrictlySortedBy-filter (along_tile_cmp s) (λ t. int_lt t.i (i +ℤ pos 1)) (along pr s) (sorted_along pr some s))
        ∙ (λ n.
        filter_within (λ t. int_lt t.i (i +ℤ pos 1)) (λ t. int_lt t.i i)
        (λ t h. lt_true t.i (i +ℤ pos 1) (omega (arith, signed, from_lt_true t.i i h))) (along pr s) n
        ++ rest_is_column n)
