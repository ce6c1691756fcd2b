-- Tables: maps that have a value by one rule at each member of a set.
use Rattle.std.proofs.Common.{◌≡◌, refl, ap, sym, ◌∙◌, Ordering, Less, Equal, Greater, List, [], ◌∷◌, map, false, cond, ◌||◌}
use Rattle.std.specs.Prelude.{Some, None, if◌then◌else◌}
use Rattle.std.specs.Cmp.{IsTotalOrder}
use Rattle.std.specs.Ordering.{match_ordering, is_eq}
use Rattle.std.specs.List.{AllByRecursion, list_any}
use Rattle.std.specs.List.Sorted.{IsStrictlySortedBy}
use Rattle.std.specs.Map.{lookup, keys_of, set_value}
use Rattle.std.specs.BTreeMap.{is_at, insert_entry}
use Rattle.std.specs.BTreeSet.{insert_key}
use Rattle.std.proofs.lemmas.Map.Keys.{sorted_head, sorted_tail}
use Rattle.grid_core.proofs.SortedLists.{below_all, equal_below}

-- each key with its value by f
abbrev pub table : {K X : Type 0} → (K → X) → List K → List (K × X)
table f ks = map (λ k. (k, f k)) ks

-- the keys of a table
pub keys_of-table : {K X : Type 0} (f : K → X) (ks : List K) → keys_of (table f ks) ≡ ks
keys_of-table f [] = refl
keys_of-table f (k ∷ ks) = ap (λ xs. k ∷ xs) (keys_of-table f ks)

module _ {K X : Type 0} {R : K → K → Ordering} (o : IsTotalOrder R) (exact : (a b : K)
    → R a b ≡ Equal → a ≡ b) where
  agree : (f g : K → X) (k : K) → ((q : K) → is_eq (R k q) ≡ false → f q ≡ g q) → (ks : List K)
      → AllByRecursion (λ q. R k q ≡ Less) ks → table f ks ≡ table g ks
  agree f g k same [] h = refl
  agree f g k same (x ∷ xs) h = λ i. (x, same x (ap is_eq h.0) i) ∷ agree f g k same xs h.1 i

  -- a table with k's value changed, or with k added
  pub insert_entry-table : (f g : K → X) (k : K) → ((q : K) → is_eq (R k q) ≡ false → f q ≡ g q)
      → (ks : List K) → IsStrictlySortedBy R ks
      → insert_entry R (table f ks) k (g k) ≡ table g (insert_key R ks k)
  insert_entry-table f g k same [] s = refl
  insert_entry-table f g k same (x ∷ xs) s = by
      (insert_entry-table f g k same xs (sorted_tail R x xs s)) (R k x) refl
    where
      by : insert_entry R (table f xs) k (g k) ≡ table g (insert_key R xs k) → (r : Ordering)
          → R k x ≡ r
          → match_ordering r ((k, g k) ∷ (x, f x) ∷ table f xs) ((x, g k) ∷ table f xs)
          ((x, f x) ∷ insert_entry R (table f xs) k (g k))
          ≡ table g (match_ordering r (k ∷ x ∷ xs) (x ∷ xs) (x ∷ insert_key R xs k))
      by h Less e = ap (λ es. (k, g k) ∷ es) (agree f g k same (x ∷ xs) (below_all o k x xs e s))
      by h Equal e = λ i. (x, g (exact k x e i)) ∷ agree f g k same xs
          (equal_below o k x xs e (sorted_head R x xs s)) i
      by h Greater e = λ i. (x, same x (ap is_eq e) i) ∷ h i

  -- what a table has at k
  pub lookup-table : (f : K → X) (k : K) (ks : List K)
      → lookup (is_at (R k)) (table f ks) ≡ (if list_any (is_at (R k)) ks then Some (f k) else None)
  lookup-table f k [] = refl
  lookup-table f k (x ∷ xs) = by (lookup-table f k xs) (R k x) refl
    where
      by : lookup (is_at (R k)) (table f xs)
          ≡ (if list_any (is_at (R k)) xs then Some (f k) else None) → (r : Ordering) → R k x ≡ r
          → cond (is_eq r) (Some (f x)) (lookup (is_at (R k)) (table f xs))
          ≡ cond (is_eq r || list_any (is_at (R k)) xs) (Some (f k)) None
      by h Less e = h
      by h Equal e = ap (λ (z : K). Some (f z)) (sym (exact k x e))
      by h Greater e = h

  absent : (k : K) (es : List (K × X)) → AllByRecursion (λ q. R k q ≡ Less) (keys_of es)
      → lookup (is_at (R k)) es ≡ None
  absent k [] h = refl
  absent k (e ∷ es) h = ap (λ c. cond (is_eq c) (Some e.1) (lookup (is_at (R k)) es)) h.0
      ∙ absent k es h.1

  -- where k has a value, to write another there is to insert it
  pub set_value-insert_entry : (k : K) (v w : X) (es : List (K × X))
      → IsStrictlySortedBy R (keys_of es) → lookup (is_at (R k)) es ≡ Some v
      → set_value (is_at (R k)) es w ≡ insert_entry R es k w
  set_value-insert_entry k v w [] s h = cc
  set_value-insert_entry k v w (e ∷ es) s h = by
      (set_value-insert_entry k v w es (sorted_tail R e.0 (keys_of es) s)) (R k e.0) refl h
    where
      by : (lookup (is_at (R k)) es ≡ Some v
          → set_value (is_at (R k)) es w ≡ insert_entry R es k w) → (r : Ordering) → R k e.0 ≡ r
          → cond (is_eq r) (Some e.1) (lookup (is_at (R k)) es) ≡ Some v
          → cond (is_eq r) ((e.0, w) ∷ es) (e ∷ set_value (is_at (R k)) es w)
          ≡ match_ordering r ((k, w) ∷ e ∷ es) ((e.0, w) ∷ es) (e ∷ insert_entry R es k w)
      by ih Less c f =
          let none = absent k es (below_all o k e.0 (keys_of es) c s).1 in
          cc
      by ih Equal c f = refl
      by ih Greater c f = ap (λ xs. e ∷ xs) (ih f)
