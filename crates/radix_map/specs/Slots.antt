-- The sixteen slots of a node, some of them taken. A node stores a digit for each slot, the lowest for slot 0, and the items of the taken slots in order.
use Rattle.std.specs.Prelude.{◌≡◌, ℕ, zero, suc, Bool, cond, ◌<◌, ◌≤◌, ◌+◌, ◌/◌, ◌%◌, Option, Some, None, List, [], ◌∷◌}
use Rattle.std.specs.Int.{bit_at}

-- what a slot has, where the digit d says whether the first item is its own
abbrev pub first_if : {T : Type 0} → ℕ → List T → Option T
first_if zero xs = None
first_if (suc d) [] = None
first_if (suc d) (x ∷ xs) = Some x

-- the items that are left for the later slots
abbrev pub rest_if : {T : Type 0} → ℕ → List T → List T
rest_if zero xs = xs
rest_if (suc d) [] = []
rest_if (suc d) (x ∷ xs) = xs

-- the n slots whose digits are those of b, with the items xs in the taken ones
unfoldable pub slots_of : {T : Type 0} → ℕ → ℕ → List T → List (Option T)
slots_of zero b xs = []
slots_of (suc n) b xs = first_if (b % 2) xs ∷ slots_of n (b / 2) (rest_if (b % 2) xs)

-- how many of the n lowest digits of b are 1
unfoldable pub taken : ℕ → ℕ → ℕ
taken zero b = 0
taken (suc n) b = b % 2 + taken n (b / 2)

-- the item at slot i, if there is one
abbrev pub item_at : {T : Type 0} → List (Option T) → ℕ → Option T
item_at [] i = None
item_at (x ∷ xs) zero = x
item_at (x ∷ xs) (suc i) = item_at xs i

-- the digit of a slot that is taken, or free
abbrev pub digit_of : Bool → ℕ
digit_of b = cond b 1 0

-- c is b with digit i, which is p, replaced by q
abbrev pub Replaces : ℕ → ℕ → ℕ → ℕ → ℕ → Type 0
Replaces zero p q b c = (b % 2 ≡ p) × (c % 2 ≡ q) × (b / 2 ≡ c / 2)
Replaces (suc i) p q b c = (b % 2 ≡ c % 2) × Replaces i p q (b / 2) (c / 2)

-- x is the first item at or behind slot i, and stands in slot n
pub record IsNext {T : Type 0} (xs : List (Option T)) (i n : ℕ) (x : T) : Type 0 where
  pub behind : i ≤ n
  pub below : n < 16
  pub free : (k : ℕ) → i ≤ k → k < n → item_at xs k ≡ None
  pub here : item_at xs n ≡ Some x

-- the first digit of d at or behind i that is 1 is digit n
pub record IsNextDigit (d i n : ℕ) : Type 0 where
  pub behind : i ≤ n
  pub below : n < 16
  pub free : (k : ℕ) → i ≤ k → k < n → bit_at d k ≡ 0
  pub here : bit_at d n ≡ 1
