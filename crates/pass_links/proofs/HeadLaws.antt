-- Heads in order: what a search among them finds, and what they say after one is set, put in or
-- dropped. A list of heads is read in three parts: those of lesser keys, the one of q, and those of
-- greater keys; each law runs along the lesser ones.
use Rattle.std.proofs.Common.{◌≡◌, refl, ap, sym, ◌∙◌, subst, ℕ, zero, suc, ◌+◌, ◌<◌, ◌≤◌, arith, Bool, true, false, cond, List, [], ◌∷◌, ◌++◌, map, length, get_or, set, take, drop, Ordering, Less, Equal, Greater, is_lt, is_eq, true≢false, Some}
use Rattle.std.specs.Cmp.{IsTotalOrder}
use Rattle.std.specs.List.{insert, remove, AllByRecursion, AllWithin, HoldsAt}
use Rattle.std.specs.List.Sorted.{IsStrictlySortedBy, IsNonDecreasingBy, IsPartitionedBy, IsPartitionPoint}
use Rattle.std.specs.Ordering.{ordering_reverse, ordering_index, eq_by_cmp}
use Rattle.std.specs.Option.{unwrap_or}
use Rattle.std.specs.FinMap.{get, get-empty, get-insert}
use Rattle.std.proofs.lemmas.Cmp.{tied_back, alike_right}
use Rattle.std.proofs.lemmas.List.{get_or-map, length-map, take-append-drop}
use Rattle.std.proofs.lemmas.List.Sorted.{searchable_from_sorted}
use Rattle.std.proofs.lemmas.Map.Keys.{sorted_head, sorted_tail, Less-from_sorted}
use Rattle.pass_links.specs.declared.heads.Head.{Head}
use Rattle.pass_links.specs.Chain.{end}
use Rattle.pass_links.specs.Passes.{list_at}
use Rattle.pass_links.specs.Heads.{first_of, Rise, lists_of_heads}

-- ---- what holds of the keys of heads

module _ {K : Type 0} (P : K → Type 0) where
  all_mid : (low : List (Head K)) (h : Head K) (high : List (Head K)) → AllByRecursion P (map (λ (x : Head K). x.of) (low ++ h ∷ high)) → P h.of
  all_mid [] h high a = a.0
  all_mid (l ∷ low) h high a = all_mid low h high a.1

  all_less : (low : List (Head K)) (h : Head K) (high : List (Head K)) → AllByRecursion P (map (λ (x : Head K). x.of) (low ++ h ∷ high))
      → AllByRecursion P (map (λ (x : Head K). x.of) (low ++ high))
  all_less [] h high a = a.1
  all_less (l ∷ low) h high a = (a.0, all_less low h high a.1)

  all_more : (low : List (Head K)) (h : Head K) (high : List (Head K)) → P h.of → AllByRecursion P (map (λ (x : Head K). x.of) (low ++ high))
      → AllByRecursion P (map (λ (x : Head K). x.of) (low ++ h ∷ high))
  all_more [] h high p a = (p, a)
  all_more (l ∷ low) h high p a = (a.0, all_more low h high p a.1)

-- the same keys
keys_as : {K : Type 0} (low : List (Head K)) (h h' : Head K) (high : List (Head K)) → h'.of ≡ h.of
    → map (λ (x : Head K). x.of) (low ++ h' ∷ high) ≡ map (λ (x : Head K). x.of) (low ++ h ∷ high)
keys_as [] h h' high e = ap (λ k. k ∷ map (λ (x : Head _). x.of) high) e
keys_as (l ∷ low) h h' high e = ap (λ ks. l.of ∷ ks) (keys_as low h h' high e)

-- ---- the order of heads

-- one head less
rise_less : {K : Type 0} (R : K → K → Ordering) (low : List (Head K)) (h : Head K) (high : List (Head K)) → Rise R (low ++ h ∷ high) → Rise R (low ++ high)
unfolding IsStrictlySortedBy
rise_less R [] h high s = s.1
rise_less R (l ∷ low) h high s = (all_less (λ k. R l.of k ≡ Less) low h high s.0, rise_less R low h high s.1)

-- one head more, between the lesser and the greater
rise_more : {K : Type 0} (R : K → K → Ordering) (low : List (Head K)) (h : Head K) (high : List (Head K))
    → AllByRecursion (λ (l : Head K). R l.of h.of ≡ Less) low → AllByRecursion (λ k. R h.of k ≡ Less) (map (λ (x : Head K). x.of) high)
    → Rise R (low ++ high) → Rise R (low ++ h ∷ high)
unfolding IsStrictlySortedBy
rise_more R [] h high a b s = (b, s)
rise_more R (l ∷ low) h high a b s = (all_more (λ k. R l.of k ≡ Less) low h high a.0 s.0, rise_more R low h high a.1 b s.1)

module _ {K : Type 0} {R : K → K → Ordering} (o : IsTotalOrder R) where
  apart : (r : Ordering) → r ≡ Less → is_eq r ≡ false
  apart r e = ap is_eq e

  -- what is below q does not tie with it
  below_apart : (l q : K) → R l q ≡ Less → eq_by_cmp R q l ≡ false
  below_apart l q e = ap is_eq (o.antisymm q l ∙ ap ordering_reverse e)

  -- ---- what the heads say

  -- the head of q
  found : (q : K) (low : List (Head K)) (h : Head K) (high : List (Head K)) → Rise R (low ++ h ∷ high) → R h.of q ≡ Equal
      → first_of R (low ++ h ∷ high) q ≡ h.first
  found q [] h high s e = ap (λ r. cond (is_eq r) h.first (first_of R high q)) (tied_back o h.of q e)
  found q (l ∷ low) h high s e =
      let less : R l.of q ≡ Less =
      sym (alike_right o h.of q l.of e) ∙ all_mid (λ k. R l.of k ≡ Less) low h high (sorted_head R l.of (map (λ (x : Head K). x.of) (low ++ h ∷ high)) s) in
      ap (λ b. cond b l.first (first_of R (low ++ h ∷ high) q)) (below_apart l.of q less)
      ∙ found q low h high (sorted_tail R l.of (map (λ (x : Head K). x.of) (low ++ h ∷ high)) s) e

  -- no head of q
  missing : (q : K) (hs : List (Head K)) → AllByRecursion (λ k. eq_by_cmp R q k ≡ false) (map (λ (x : Head K). x.of) hs) → first_of R hs q ≡ end
  missing q [] a = refl
  missing q (h ∷ hs) a = ap (λ b. cond b h.first (first_of R hs q)) a.0 ∙ missing q hs a.1

  -- a head that is less than q says the same, whatever is said of q
  passed : (p q l : K) (a x rest rest' : ℕ) → R l q ≡ Less → rest' ≡ cond (eq_by_cmp R p q) x rest
      → cond (eq_by_cmp R p l) a rest' ≡ cond (eq_by_cmp R p q) x (cond (eq_by_cmp R p l) a rest)
  passed p q l a x rest rest' less e = by (R p l) refl
    where
      by : (r : Ordering) → R p l ≡ r → cond (is_eq r) a rest' ≡ cond (eq_by_cmp R p q) x (cond (is_eq r) a rest)
      by Less t = e
      by Equal t = sym (ap (λ b. cond b x a) (apart (R p q) (o.congr p l q t ∙ less)))
      by Greater t = e

  -- the head of q set
  first_set : (p q : K) (low : List (Head K)) (h h' : Head K) (high : List (Head K)) → Rise R (low ++ h ∷ high) → R h.of q ≡ Equal → h'.of ≡ h.of
      → first_of R (low ++ h' ∷ high) p ≡ cond (eq_by_cmp R p q) h'.first (first_of R (low ++ h ∷ high) p)
  first_set p q [] h h' high s e same =
      ap (λ k. cond (eq_by_cmp R p k) h'.first (first_of R high p)) same
      ∙ ap (λ r. cond (is_eq r) h'.first (first_of R high p)) (alike_right o h.of q p e)
      ∙ by (R p q) (alike_right o h.of q p e)
    where
      by : (r : Ordering) → R p h.of ≡ r → cond (is_eq r) h'.first (first_of R high p) ≡ cond (is_eq r) h'.first (cond (eq_by_cmp R p h.of) h.first (first_of R high p))
      by Less t = sym (ap (λ r. cond (is_eq r) h.first (first_of R high p)) t)
      by Equal t = refl
      by Greater t = sym (ap (λ r. cond (is_eq r) h.first (first_of R high p)) t)
  first_set p q (l ∷ low) h h' high s e same =
      let less : R l.of q ≡ Less =
      sym (alike_right o h.of q l.of e) ∙ all_mid (λ k. R l.of k ≡ Less) low h high (sorted_head R l.of (map (λ (x : Head K). x.of) (low ++ h ∷ high)) s) in
      passed p q l.of l.first h'.first (first_of R (low ++ h ∷ high) p) (first_of R (low ++ h' ∷ high) p) less
      (first_set p q low h h' high (sorted_tail R l.of (map (λ (x : Head K). x.of) (low ++ h ∷ high)) s) e same)

  -- the head of q dropped
  first_less : (p q : K) (low : List (Head K)) (h : Head K) (high : List (Head K)) → Rise R (low ++ h ∷ high) → R h.of q ≡ Equal
      → first_of R (low ++ high) p ≡ cond (eq_by_cmp R p q) end (first_of R (low ++ h ∷ high) p)
  first_less p q [] h high s e =
      by (R p q) (alike_right o h.of q p e)
    where
      after : R p h.of ≡ Equal → (hs : List (Head K)) → AllByRecursion (λ k. R h.of k ≡ Less) (map (λ (x : Head K). x.of) hs)
          → AllByRecursion (λ k. eq_by_cmp R p k ≡ false) (map (λ (x : Head K). x.of) hs)
      after t [] a = tt
      after t (g ∷ gs) a = (apart (R p g.of) (o.congr p h.of g.of t ∙ a.0), after t gs a.1)

      by : (r : Ordering) → R p h.of ≡ r → first_of R high p ≡ cond (is_eq r) end (cond (eq_by_cmp R p h.of) h.first (first_of R high p))
      by Less t = sym (ap (λ r. cond (is_eq r) h.first (first_of R high p)) t)
      by Equal t = missing p high (after t high (sorted_head R h.of (map (λ (x : Head K). x.of) high) s))
      by Greater t = sym (ap (λ r. cond (is_eq r) h.first (first_of R high p)) t)
  first_less p q (l ∷ low) h high s e =
      let less : R l.of q ≡ Less =
      sym (alike_right o h.of q l.of e) ∙ all_mid (λ k. R l.of k ≡ Less) low h high (sorted_head R l.of (map (λ (x : Head K). x.of) (low ++ h ∷ high)) s) in
      passed p q l.of l.first end (first_of R (low ++ h ∷ high) p) (first_of R (low ++ high) p) less
      (first_less p q low h high (sorted_tail R l.of (map (λ (x : Head K). x.of) (low ++ h ∷ high)) s) e)

  -- a head of q put in behind the lesser ones
  first_more : (p : K) (low : List (Head K)) (h : Head K) (high : List (Head K)) → AllByRecursion (λ (l : Head K). R l.of h.of ≡ Less) low
      → first_of R (low ++ h ∷ high) p ≡ cond (eq_by_cmp R p h.of) h.first (first_of R (low ++ high) p)
  first_more p [] h high a = refl
  first_more p (l ∷ low) h high a =
      passed p h.of l.of l.first h.first (first_of R (low ++ high) p) (first_of R (low ++ h ∷ high) p) a.0 (first_more p low h high a.1)

  -- the map of the lists, looked up
  pub list_at_head : {V : Type 0} (list : ℕ → List V) → list end ≡ [] → (hs : List (Head K)) (q : K) → list_at (lists_of_heads R list hs) q ≡ list (first_of R hs q)
  unfolding lists_of_heads
  list_at_head list none [] q = ap (λ s. unwrap_or s []) (get-empty R q) ∙ sym none
  list_at_head list none (h ∷ hs) q =
      ap (λ s. unwrap_or s []) (get-insert o (lists_of_heads R list hs) h.of (list h.first) q) ∙ by (list_at_head list none hs q) (eq_by_cmp R q h.of)
    where
      by : list_at (lists_of_heads R list hs) q ≡ list (first_of R hs q) → (b : Bool)
          → unwrap_or (cond b (Some (list h.first)) (get (lists_of_heads R list hs) q)) [] ≡ list (cond b h.first (first_of R hs q))
      by rest true = refl
      by rest false = rest

-- ---- by places

-- a list in three parts around a place
around : {X : Type 0} (xs : List X) (i : ℕ) → i < length xs → (x : X) × (xs ≡ take i xs ++ x ∷ drop (suc i) xs) × ((d : X) → get_or xs i d ≡ x)
around [] i l = absurd (omega (arith, l))
around (x ∷ xs) zero l = (x, refl, λ d. refl)
around (x ∷ xs) (suc i) l =
    let rest = around xs i (omega (arith, l)) in
    (rest.0, ap (λ ys. x ∷ ys) rest.1, rest.2)

-- a list with another element at a place
set_around : {X : Type 0} (xs : List X) (i : ℕ) (y : X) → i < length xs → set xs i y ≡ take i xs ++ y ∷ drop (suc i) xs
set_around [] i y l = absurd (omega (arith, l))
set_around (x ∷ xs) zero y l = refl
set_around (x ∷ xs) (suc i) y l = ap (λ ys. x ∷ ys) (set_around xs i y (omega (arith, l)))

all_from : {X : Type 0} (P : X → Type 0) (xs : List X) → AllWithin P xs 0 (length xs) → AllByRecursion P xs
all_from P [] a = tt
all_from P (x ∷ xs) a = (a 0 x (omega arith) (omega arith), all_from P xs (λ k d l u. a (suc k) d (omega arith) (omega (arith, u))))

-- what a search found below a place and from it on
parts_at : {X : Type 0} (P Q : X → Type 0) (xs : List X) (i : ℕ) → i ≤ length xs → IsPartitionPoint P Q xs i → AllByRecursion P (take i xs) × AllByRecursion Q (drop i xs)
parts_at P Q [] zero l h = (tt, tt)
parts_at P Q [] (suc i) l h = absurd (omega (arith, l))
parts_at P Q (x ∷ xs) zero l h = (tt, all_from Q (x ∷ xs) h.1)
parts_at P Q (x ∷ xs) (suc i) l h =
    let rest = parts_at P Q xs i (omega (arith, l)) (λ k d a b. h.0 (suc k) d (omega arith) (omega (arith, b)), λ k d a b. h.1 (suc k) d (omega (arith, a)) (omega (arith, b))) in
    ((h.0 0 x (omega arith) (omega arith), rest.0), rest.1)

module _ {K : Type 0} {R : K → K → Ordering} (o : IsTotalOrder R) where
  -- a binary search finds its way
  pub searchable : (q : K) (hs : List (Head K)) → Rise R hs → IsNonDecreasingBy (λ (h : Head K). ordering_index (R h.of q)) hs
  searchable q hs s =
      searchable_from_sorted o (λ (h : Head K). h.of) hs q
      (λ k d l u. let up : R (get_or hs k d).of (get_or hs (k + 1) d).of ≡ Less =
      subst (λ j. R j (get_or hs (k + 1) d).of ≡ Less) (get_or-map (λ (h : Head K). h.of) hs k d d.of (omega (arith, u)))
      (subst (λ j. R (get_or (map (λ (h : Head K). h.of) hs) k d.of) j ≡ Less) (get_or-map (λ (h : Head K). h.of) hs (k + 1) d d.of u)
      (Less-from_sorted R (map (λ (h : Head K). h.of) hs) k (k + 1) d.of s (omega arith) (omega (arith, u, length-map hs (λ (h : Head K). h.of))))) in
      ap is_lt (o.antisymm (get_or hs (k + 1) d).of (get_or hs k d).of ∙ ap ordering_reverse up))

  module _ (q : K) (hs : List (Head K)) (i : ℕ) (s : Rise R hs) where
    -- ---- where the search found a head

    module _ (within : i < length hs) (hit : HoldsAt (λ (h : Head K). R h.of q ≡ Equal) hs i) where
      parts : (h : Head K) × (hs ≡ take i hs ++ h ∷ drop (suc i) hs) × ((d : Head K) → get_or hs i d ≡ h)
      parts = around hs i within

      tied : R parts.0.of q ≡ Equal
      tied = subst (λ (h : Head K). R h.of q ≡ Equal) (parts.2 parts.0) (hit parts.0)

      rise_parts : Rise R (take i hs ++ parts.0 ∷ drop (suc i) hs)
      rise_parts = subst (Rise R) parts.1 s

      -- it says where the list of q begins
      pub first_found : (d : Head K) → (get_or hs i d).first ≡ first_of R hs q
      first_found d =
          ap (λ (h : Head K). h.first) (parts.2 d) ∙ sym (ap (λ xs. first_of R xs q) parts.1 ∙ found o q (take i hs) parts.0 (drop (suc i) hs) rise_parts tied)

      -- it is set
      pub rise_when_set : (d h' : Head K) → d ≡ get_or hs i d → h'.of ≡ d.of → Rise R (set hs i h')
      rise_when_set d h' read e =
          subst (Rise R) (sym (set_around hs i h' within))
          (subst (IsStrictlySortedBy R) (sym (keys_as (take i hs) parts.0 h' (drop (suc i) hs) (e ∙ ap (λ (h : Head K). h.of) (read ∙ parts.2 d)))) rise_parts)

      pub first_when_set : (d h' : Head K) → d ≡ get_or hs i d → h'.of ≡ d.of → (p : K)
          → first_of R (set hs i h') p ≡ cond (eq_by_cmp R p q) h'.first (first_of R hs p)
      first_when_set d h' read e p =
          ap (λ xs. first_of R xs p) (set_around hs i h' within)
          ∙ first_set o p q (take i hs) parts.0 h' (drop (suc i) hs) rise_parts tied (e ∙ ap (λ (h : Head K). h.of) (read ∙ parts.2 d))
          ∙ ap (λ xs. cond (eq_by_cmp R p q) h'.first (first_of R xs p)) (sym parts.1)

      -- it is dropped
      pub rise_when_removed : (gs : List (Head K)) → gs ≡ remove hs i → Rise R gs
      rise_when_removed gs e = subst (Rise R) (sym e) (rise_less R (take i hs) parts.0 (drop (suc i) hs) rise_parts)

      pub first_when_removed : (gs : List (Head K)) → gs ≡ remove hs i → (p : K) → first_of R gs p ≡ cond (eq_by_cmp R p q) end (first_of R hs p)
      first_when_removed gs e p =
          ap (λ xs. first_of R xs p) e ∙ first_less o p q (take i hs) parts.0 (drop (suc i) hs) rise_parts tied
          ∙ ap (λ xs. cond (eq_by_cmp R p q) end (first_of R xs p)) (sym parts.1)

    -- ---- where the search found none

    module _ (within : i ≤ length hs) (gap : IsPartitionPoint (λ (h : Head K). R h.of q ≡ Less) (λ (h : Head K). R h.of q ≡ Greater) hs i) where
      low_high : AllByRecursion (λ (h : Head K). R h.of q ≡ Less) (take i hs) × AllByRecursion (λ (h : Head K). R h.of q ≡ Greater) (drop i hs)
      low_high = parts_at (λ (h : Head K). R h.of q ≡ Less) (λ (h : Head K). R h.of q ≡ Greater) hs i within gap

      whole : hs ≡ take i hs ++ drop i hs
      whole = sym (take-append-drop i hs)

      above : (gs : List (Head K)) → AllByRecursion (λ (h : Head K). R h.of q ≡ Greater) gs → AllByRecursion (λ k. R q k ≡ Less) (map (λ (h : Head K). h.of) gs)
      above [] a = tt
      above (g ∷ gs) a = (o.antisymm q g.of ∙ ap ordering_reverse a.0, above gs a.1)

      no_head : (gs : List (Head K)) → AllByRecursion (λ (h : Head K). R h.of q ≡ Less) gs → AllByRecursion (λ k. eq_by_cmp R q k ≡ false) (map (λ (h : Head K). h.of) gs)
      no_head [] a = tt
      no_head (g ∷ gs) a = (below_apart o g.of q a.0, no_head gs a.1)

      no_head_above : (gs : List (Head K)) → AllByRecursion (λ (h : Head K). R h.of q ≡ Greater) gs → AllByRecursion (λ k. eq_by_cmp R q k ≡ false) (map (λ (h : Head K). h.of) gs)
      no_head_above [] a = tt
      no_head_above (g ∷ gs) a = (ap is_eq (o.antisymm q g.of ∙ ap ordering_reverse a.0), no_head_above gs a.1)

      -- there is no list of q
      pub first_missing : first_of R hs q ≡ end
      first_missing =
          ap (λ xs. first_of R xs q) whole ∙ missing_in_parts (take i hs) (no_head (take i hs) low_high.0)
        where
          missing_in_parts : (low : List (Head K)) → AllByRecursion (λ k. eq_by_cmp R q k ≡ false) (map (λ (h : Head K). h.of) low) → first_of R (low ++ drop i hs) q ≡ end
          missing_in_parts [] a = missing o q (drop i hs) (no_head_above (drop i hs) low_high.1)
          missing_in_parts (l ∷ low) a = ap (λ b. cond b l.first (first_of R (low ++ drop i hs) q)) a.0 ∙ missing_in_parts low a.1

      -- its head is put in
      pub rise_when_inserted : (x : ℕ) (gs : List (Head K)) → gs ≡ insert hs i (record { of = q; first = x }) → Rise R gs
      rise_when_inserted x gs e =
          subst (Rise R) (sym e) (rise_more R (take i hs) (record { of = q; first = x }) (drop i hs) low_high.0 (above (drop i hs) low_high.1) (subst (Rise R) whole s))

      pub first_when_inserted : (x : ℕ) (gs : List (Head K)) → gs ≡ insert hs i (record { of = q; first = x }) → (p : K)
          → first_of R gs p ≡ cond (eq_by_cmp R p q) x (first_of R hs p)
      first_when_inserted x gs e p =
          ap (λ xs. first_of R xs p) e ∙ first_more o p (take i hs) (record { of = q; first = x }) (drop i hs) low_high.0
          ∙ ap (λ xs. cond (eq_by_cmp R p q) x (first_of R xs p)) (sym whole)

-- ---- where a list is divided

below_is_less : (r s : Ordering) → ordering_index r ≤ ordering_index s → is_lt s ≡ true → is_lt r ≡ true
below_is_less Less s h e = refl
below_is_less Equal Less h e = absurd (omega (arith, h))
below_is_less Equal Equal h e = e
below_is_less Equal Greater h e = e
below_is_less Greater Less h e = absurd (omega (arith, h))
below_is_less Greater Equal h e = e
below_is_less Greater Greater h e = e

less_of : (r : Ordering) → is_lt r ≡ true → r ≡ Less
less_of Less e = refl
less_of Equal e = absurd (true≢false (sym e))
less_of Greater e = absurd (true≢false (sym e))

greater_of : (r : Ordering) → is_lt r ≡ false → is_eq r ≡ false → r ≡ Greater
greater_of Less e h = absurd (true≢false e)
greater_of Equal e h = absurd (true≢false h)
greater_of Greater e h = refl

greatest : (r s : Ordering) → ordering_index r ≤ ordering_index s → r ≡ Greater → s ≡ Greater
greatest r Less h e = absurd (omega (arith, h, ap ordering_index e))
greatest r Equal h e = absurd (omega (arith, h, ap ordering_index e))
greatest r Greater h e = refl

module _ {K : Type 0} {R : K → K → Ordering} (o : IsTotalOrder R) (q : K) (hs : List (Head K)) (s : Rise R hs) where
  -- the heads below q come first
  pub divided : IsPartitionedBy (λ (h : Head K). is_lt (R h.of q)) hs
  divided i j d below within less = below_is_less _ (R (get_or hs j d).of q) (searchable o q hs s i j d below within) less

  -- all other heads are above q, unless the first of them is that of q
  pub gap_after : (i : ℕ) → IsPartitionPoint (λ (h : Head K). is_lt (R h.of q) ≡ true) (λ (h : Head K). is_lt (R h.of q) ≡ false) hs i
      → ((d : Head K) → i < length hs → is_eq (R (get_or hs i d).of q) ≡ false)
      → IsPartitionPoint (λ (h : Head K). R h.of q ≡ Less) (λ (h : Head K). R h.of q ≡ Greater) hs i
  gap_after i h other = (
    λ k d low high. less_of _ (h.0 k d low high),
    λ k d low high.
        let within : i < length hs = omega (arith, low, high) in
        let same : i ≤ i = omega arith in
        greatest _ _ (searchable o q hs s i k d low high) (greater_of _ (h.1 i d same within) (other d within)),
  )
