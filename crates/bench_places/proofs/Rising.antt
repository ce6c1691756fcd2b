-- Names that are given one after the other rise.
use Rattle.std.proofs.Common.{◌≡◌, ℕ, ◌+◌, ◌<◌, ◌≤◌, ap, ◌∙◌, arith, List, [], ◌∷◌, ◌++◌, length, length-append}
use Rattle.std.specs.List.{AllByRecursion}
use Rattle.std.specs.List.Sorted.{IsStrictlySortedBy}
use Rattle.std.specs.declared.cmp.Ordering.TheVariants.{Less}
use Rattle.std.proofs.lemmas.Bool.Decides.{nat_tests}
use Rattle.std.specs.Ordering.{nat_cmp}
use Rattle.grid_core.specs.LiveList.{names}
use Rattle.grid_core.specs.Name.{Label, label_cmp}
use Rattle.grid_core.specs.Segment.{Segment}
use Rattle.grid_core.proofs.Order.{label_total}

-- the name of a serial
abbrev pub named : ℕ → Label
named n = record { editor = 1; serial = n }

-- the segments' names are below that of a serial
abbrev pub AreBelow : ℕ → List Segment → Type 0
AreBelow n ss = AllByRecursion (λ s. label_cmp s.name (named n) ≡ Less) ss

less : (m n : ℕ) → m < n → nat_cmp m n ≡ Less
less m n h = grind (arith, nat_tests)

next : (n : ℕ) → label_cmp (named n) (named (n + 1)) ≡ Less
next n = less n (n + 1) (omega arith)

-- they are below that of the next
pub below_next : (n : ℕ) (ss : List Segment) → AreBelow n ss → AreBelow (n + 1) ss
below_next n [] h = tt
below_next n (s ∷ ss) h = (label_total.trans s.name (named n) (named (n + 1)) h.0 (next n), below_next n ss h.1)

-- and so are they with one of that serial
pub below_more : (n : ℕ) (ss : List Segment) (s : Segment) → AreBelow n ss → s.name ≡ named n
    → AreBelow (n + 1) (ss ++ s ∷ [])
below_more n [] s h e = (ap (λ m. label_cmp m (named (n + 1))) e ∙ next n, tt)
below_more n (t ∷ ss) s h e =
    (label_total.trans t.name (named n) (named (n + 1)) h.0 (next n), below_more n ss s h.1 e)

above_more : (m : Label) (ss : List Segment) (s : Segment) → AllByRecursion (λ k. label_cmp m k ≡ Less) (names ss)
    → label_cmp m s.name ≡ Less → AllByRecursion (λ k. label_cmp m k ≡ Less) (names (ss ++ s ∷ []))
above_more m [] s h k = (k, tt)
above_more m (t ∷ ss) s h k = (h.0, above_more m ss s h.1 k)

-- one of a later name more
pub rising_more : (n : ℕ) (ss : List Segment) (s : Segment) → IsStrictlySortedBy label_cmp (names ss) → AreBelow n ss
    → s.name ≡ named n → IsStrictlySortedBy label_cmp (names (ss ++ s ∷ []))
unfolding IsStrictlySortedBy
rising_more n [] s h b e = (tt, tt)
rising_more n (t ∷ ss) s h b e =
    (above_more t.name ss s h.0 (ap (label_cmp t.name) e ∙ b.0), rising_more n ss s h.1 b.1 e)

pub rising_nil : IsStrictlySortedBy label_cmp (names [])
unfolding IsStrictlySortedBy
rising_nil = tt

pub longer : (m n : ℕ) → m ≤ n → m ≤ n + 1
longer m n h = omega (arith, h)

pub one_more : (ss : List Segment) (s : Segment) (n : ℕ) → length ss ≤ n → length (ss ++ s ∷ []) ≤ n + 1
one_more ss s n h = rw (length-append ss (s ∷ [])) (omega (arith, h))
