-- Lists that rise: of images, of whole numbers, and of lists that are joined one after another.

use Rattle.std.proofs.Common.{◌≡◌, refl, sym, subst, ◌∙◌, ℕ, zero, suc, ◌+◌, ◌-◌, ◌<◌, arith}
use Rattle.std.proofs.Common.{List, [], ◌∷◌, ◌++◌, map, flat_map, Contains, Ordering, Less}
use Rattle.std.specs.Prelude.{ℤ, pos, negsuc, ◌+ℤ◌, ◌-ℤ◌, ◌≤ℤ◌}
use Rattle.std.specs.Cmp.{int_cmp_is}
use Rattle.std.specs.Int.{int_gap}
use Rattle.std.specs.List.{AllByRecursion, range_with_len}
use Rattle.std.specs.List.Sorted.{IsStrictlySortedBy}
use Rattle.std.specs.Ordering.{int_cmp}
use Rattle.std.proofs.lemmas.List.FromFn.{length-range_with_len, get_or-range_with_len}
use Rattle.grid_core.specs.Tiles.{whole_numbers}
use Rattle.grid_core.proofs.ListMembers.{contains_map}
use Rattle.grid_core.proofs.Signed.{signed}
use borrow.Author.Differences.{up, down}

-- ---- images

-- what holds of every x holds of each element
pub all_of : {X : Type 0} (P : X → Type 0) → ((x : X) → P x) → (xs : List X) → AllByRecursion P xs
all_of P h [] = tt
all_of P h (x ∷ xs) = (h x, all_of P h xs)

module _ {X Y : Type 0} (f : X → Y) where
  pub all_mapped : (P : Y → Type 0) (xs : List X) → AllByRecursion (λ x. P (f x)) xs → AllByRecursion P (map f xs)
  all_mapped P [] h = tt
  all_mapped P (x ∷ xs) h = (h.0, all_mapped P xs h.1)

  all_below : (S : X → X → Ordering) (R : Y → Y → Ordering) → ((a b : X) → S a b ≡ Less → R (f a) (f b) ≡ Less)
      → (x : X) (xs : List X) → AllByRecursion (λ y. S x y ≡ Less) xs → AllByRecursion (λ y. R (f x) (f y) ≡ Less) xs
  all_below S R h x [] k = tt
  all_below S R h x (y ∷ ys) k = (h x y k.0, all_below S R h x ys k.1)

  -- images in the order of what they are of
  pub sorted_mapped : (S : X → X → Ordering) (R : Y → Y → Ordering)
      → ((a b : X) → S a b ≡ Less → R (f a) (f b) ≡ Less) → (xs : List X) → IsStrictlySortedBy S xs
      → IsStrictlySortedBy R (map f xs)
  unfolding IsStrictlySortedBy
  sorted_mapped S R h [] s = tt
  sorted_mapped S R h (x ∷ xs) s = (
    all_mapped (λ y. R (f x) y ≡ Less) xs (all_below S R h x xs s.0),
    sorted_mapped S R h xs s.1,
  )

-- ---- lists joined

module _ {X : Type 0} (R : X → X → Ordering) where
  all_joined : (P : X → Type 0) (xs ys : List X) → AllByRecursion P xs → AllByRecursion P ys → AllByRecursion P (xs ++ ys)
  all_joined P [] ys h k = k
  all_joined P (x ∷ xs) ys h k = (h.0, all_joined P xs ys h.1 k)

  -- a list and then one of greater elements
  pub sorted_joined : (xs ys : List X) → IsStrictlySortedBy R xs → IsStrictlySortedBy R ys
      → AllByRecursion (λ x. AllByRecursion (λ y. R x y ≡ Less) ys) xs → IsStrictlySortedBy R (xs ++ ys)
  unfolding IsStrictlySortedBy
  sorted_joined [] ys s t h = t
  sorted_joined (x ∷ xs) ys s t h = (
    all_joined (λ y. R x y ≡ Less) xs ys s.0 h.0,
    sorted_joined xs ys s.1 t h.1,
  )

  module _ {A : Type 0} (S : A → A → Ordering) (f : A → List X) (each : (a : A) → IsStrictlySortedBy R (f a))
      (across : (a b : A) → S a b ≡ Less → AllByRecursion (λ x. AllByRecursion (λ y. R x y ≡ Less) (f b)) (f a)) where
    both : (P Q : X → Type 0) (xs : List X) → AllByRecursion P xs → AllByRecursion Q xs → AllByRecursion (λ x. P x × Q x) xs
    both P Q [] h k = tt
    both P Q (x ∷ xs) h k = ((h.0, k.0), both P Q xs h.1 k.1)

    joined : (ys zs xs : List X)
        → AllByRecursion (λ x. AllByRecursion (λ y. R x y ≡ Less) ys) xs
        → AllByRecursion (λ x. AllByRecursion (λ y. R x y ≡ Less) zs) xs
        → AllByRecursion (λ x. AllByRecursion (λ y. R x y ≡ Less) (ys ++ zs)) xs
    joined ys zs [] h k = tt
    joined ys zs (x ∷ xs) h k = (all_joined (λ y. R x y ≡ Less) ys zs h.0 k.0, joined ys zs xs h.1 k.1)

    before_rest : (a : A) (bs : List A) → AllByRecursion (λ b. S a b ≡ Less) bs
        → AllByRecursion (λ x. AllByRecursion (λ y. R x y ≡ Less) (flat_map f bs)) (f a)
    before_rest a [] h = all_of (λ x. AllByRecursion (λ y. R x y ≡ Less) []) (λ x. tt) (f a)
    before_rest a (b ∷ bs) h = joined (f b) (flat_map f bs) (f a) (across a b h.0) (before_rest a bs h.1)

    -- lists that rise, one after another, each greater than the one before
    pub sorted_flat_map : (ks : List A) → IsStrictlySortedBy S ks → IsStrictlySortedBy R (flat_map f ks)
    unfolding IsStrictlySortedBy
    sorted_flat_map [] s = tt
    sorted_flat_map (a ∷ ks) s =
        sorted_joined (f a) (flat_map f ks) (each a) (sorted_flat_map ks s.1) (before_rest a ks s.0)

-- ---- whole numbers

module _ (first : ℤ) where
  all_later : (k : ℕ) (a n : ℕ) → k < a
      → AllByRecursion (λ l. int_cmp (first +ℤ pos k) l ≡ Less) (map (λ l. first +ℤ pos l) (range_with_len a n))
  all_later k a zero h = tt
  all_later k a (suc n) h = (
    sym (int_cmp_is (first +ℤ pos k) (first +ℤ pos a) Less (omega (arith, signed, h))),
    all_later k (a + 1) n (omega (arith, h)),
  )

  sorted_from : (a n : ℕ) → IsStrictlySortedBy int_cmp (map (λ k. first +ℤ pos k) (range_with_len a n))
  unfolding IsStrictlySortedBy
  sorted_from a zero = tt
  sorted_from a (suc n) = (all_later a (a + 1) n (omega arith), sorted_from (a + 1) n)

-- the whole numbers from one to another rise
pub sorted_whole : (first last : ℤ) → IsStrictlySortedBy int_cmp (whole_numbers first last)
sorted_whole first last = sorted_from first 0 (int_gap first (last +ℤ pos 1))

pub int_gap_is : (a b : ℤ) → int_gap a b ≡ (up b + down a) - (up a + down b)
int_gap_is (pos a) (pos b) = omega arith
int_gap_is (pos a) (negsuc b) = omega arith
int_gap_is (negsuc a) (pos b) = omega arith
int_gap_is (negsuc a) (negsuc b) = omega arith

in_range : (n k : ℕ) → k < n → Contains (range_with_len 0 n) k
in_range n k h =
    (k, subst (λ m. k < m) (sym (length-range_with_len 0 n)) h, get_or-range_with_len 0 n k k h ∙ omega arith)

-- a number is one of them where it is neither below the first nor above the last
pub contains_whole : (first last n : ℤ) → first ≤ℤ n → n ≤ℤ last → Contains (whole_numbers first last) n
contains_whole first last n low high =
    by (n -ℤ first) refl
  where
    by : (d : ℤ) → n -ℤ first ≡ d → Contains (whole_numbers first last) n
    by (negsuc k) e = absurd (omega (arith, signed, low, e))
    by (pos k) e =
        let within : k < int_gap first (last +ℤ pos 1) =
        omega (arith, signed, int_gap_is first (last +ℤ pos 1), e, high) in
        let here = in_range (int_gap first (last +ℤ pos 1)) k within in
        (contains_map (λ l. first +ℤ pos l) (range_with_len 0 (int_gap first (last +ℤ pos 1))) n).1
        (here.0, k, here.1, here.2, omega (arith, signed, e))
