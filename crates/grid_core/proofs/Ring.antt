-- The laws of sums and products of signed numbers, and of their signs.
-- A number z is `up z - down z`, so that each law is linear once the equation of the sum is multiplied by a part;
-- the orders of products come from the products of numbers that are positive or not negative.

use Rattle.std.proofs.Common.{◌≡◌, ℕ, ◌*◌, ◌<◌, arith, ap, ◌∙◌, mul-pos, ⊎_elim}
use Rattle.std.specs.Prelude.{ℤ, pos, negsuc, neg_ℤ, ◌+ℤ◌, ◌-ℤ◌, ◌*ℤ◌, ◌≤ℤ◌, ◌<ℤ◌, ◌⊎◌, int_lt}
use Rattle.std.proofs.lemmas.Int.{ints}
use borrow.Author.Differences.{up, down, sum_is_lem, product_is, neg_is}
use Rattle.grid_core.proofs.Signed.{same_lt}

-- ---- sums

-- a sum may be bracketed either way
pub int_add_assoc : (a b c : ℤ) → (a +ℤ b) +ℤ c ≡ a +ℤ (b +ℤ c)
int_add_assoc a b c = omega (arith, ints)

-- a sum in either order
pub int_add_comm : (a b : ℤ) → a +ℤ b ≡ b +ℤ a
int_add_comm a b = omega (arith, ints)

-- a difference of equals is 0, and the other way
pub int_sub_zero : (a b : ℤ) → a -ℤ b ≡ pos 0 → a ≡ b
int_sub_zero a b h = omega (arith, ints)

-- ---- products

-- m and n are one, and so are their products by k
times : (k m n : ℕ) → m ≡ n → m * k ≡ n * k
times k m n e = ap (λ x. x * k) e

-- a product in either order
pub int_mul_comm : (a b : ℤ) → a *ℤ b ≡ b *ℤ a
int_mul_comm a b = omega (arith, ints)

-- a product may be bracketed either way
pub int_mul_assoc : (a b c : ℤ) → (a *ℤ b) *ℤ c ≡ a *ℤ (b *ℤ c)
int_mul_assoc a b c =
    let ab = product_is a b in
    let bc = product_is b c in
    omega (
      arith,
      ints,
      times (up c) _ _ ab.0,
      times (down c) _ _ ab.0,
      times (up c) _ _ ab.1,
      times (down c) _ _ ab.1,
      times (up a) _ _ bc.0,
      times (down a) _ _ bc.0,
      times (up a) _ _ bc.1,
      times (down a) _ _ bc.1,
    )

-- a product by a sum
pub int_mul-add : (a b c : ℤ) → a *ℤ (b +ℤ c) ≡ a *ℤ b +ℤ a *ℤ c
int_mul-add a b c = omega (arith, ints, times (up a) _ _ (sum_is_lem b c), times (down a) _ _ (sum_is_lem b c))

-- a sum times a number
pub int_add-mul : (a b c : ℤ) → (a +ℤ b) *ℤ c ≡ a *ℤ c +ℤ b *ℤ c
int_add-mul a b c = omega (arith, ints, times (up c) _ _ (sum_is_lem a b), times (down c) _ _ (sum_is_lem a b))

-- a product by a negation
pub int_mul-neg : (a b : ℤ) → a *ℤ neg_ℤ b ≡ neg_ℤ (a *ℤ b)
int_mul-neg a b =
    let n = neg_is b in
    omega (arith, ints, times (up a) _ _ n.0, times (down a) _ _ n.0, times (up a) _ _ n.1, times (down a) _ _ n.1)

-- a negation times a number
pub int_neg-mul : (a b : ℤ) → neg_ℤ a *ℤ b ≡ neg_ℤ (a *ℤ b)
int_neg-mul a b = int_mul_comm (neg_ℤ a) b ∙ int_mul-neg b a ∙ ap neg_ℤ (int_mul_comm b a)

-- a product by a difference
pub int_mul-sub : (a b c : ℤ) → a *ℤ (b -ℤ c) ≡ a *ℤ b -ℤ a *ℤ c
int_mul-sub a b c = omega (arith, ints, int_mul-add a b (neg_ℤ c), int_mul-neg a c)

-- a difference times a number
pub int_sub-mul : (a b c : ℤ) → (a -ℤ b) *ℤ c ≡ a *ℤ c -ℤ b *ℤ c
int_sub-mul a b c = omega (arith, ints, int_add-mul a (neg_ℤ b) c, int_neg-mul b c)

-- a product by 0 less x
pub int_mul-zero_sub : (a x : ℤ) → a *ℤ (pos 0 -ℤ x) ≡ pos 0 -ℤ a *ℤ x
int_mul-zero_sub a x = omega (arith, ints, int_mul-sub a (pos 0) x)

-- a product by twice x
pub int_mul-double : (a x : ℤ) → a *ℤ (pos 2 *ℤ x) ≡ pos 2 *ℤ (x *ℤ a)
int_mul-double a x = int_mul_comm a (pos 2 *ℤ x) ∙ int_mul_assoc (pos 2) x a

-- a product by 1
pub int_one-mul : (a : ℤ) → pos 1 *ℤ a ≡ a
int_one-mul a = omega (arith, ints)

-- a product by 0
pub int_zero-mul : (a : ℤ) → pos 0 *ℤ a ≡ pos 0
int_zero-mul a = omega (arith, ints)

-- ---- signs

-- a product of positive numbers is positive
pub int_mul_pos : (a b : ℤ) → pos 0 <ℤ a → pos 0 <ℤ b → pos 0 <ℤ (a *ℤ b)
int_mul_pos (pos a) (pos b) h k =
    let p : 0 < a * b = mul-pos (omega (arith, ints)) (omega (arith, ints)) in
    omega (arith, ints)
int_mul_pos (pos a) (negsuc b) h k = absurd (omega (arith, ints))
int_mul_pos (negsuc a) b h k = absurd (omega (arith, ints))

-- a product of numbers that are not negative is not negative
pub int_mul_nonneg : (a b : ℤ) → pos 0 ≤ℤ a → pos 0 ≤ℤ b → pos 0 ≤ℤ (a *ℤ b)
int_mul_nonneg (pos a) (pos b) h k = omega (arith, ints)
int_mul_nonneg (pos a) (negsuc b) h k = absurd (omega (arith, ints))
int_mul_nonneg (negsuc a) b h k = absurd (omega (arith, ints))

-- a square is not negative
pub int_square_nonneg : (a : ℤ) → pos 0 ≤ℤ (a *ℤ a)
int_square_nonneg (pos a) = omega (arith, ints)
int_square_nonneg (negsuc a) = omega (arith, ints)

-- a negative number times a positive one is negative
pub int_mul_neg_pos : (a b : ℤ) → a <ℤ pos 0 → pos 0 <ℤ b → (a *ℤ b) <ℤ pos 0
int_mul_neg_pos a b h k =
    let p = int_mul_pos (neg_ℤ a) b (omega (arith, ints)) k in
    omega (arith, ints, p, int_neg-mul a b)

-- a number that is not positive times one that is not negative is not positive
pub int_mul_nonpos_nonneg : (a b : ℤ) → a ≤ℤ pos 0 → pos 0 ≤ℤ b → (a *ℤ b) ≤ℤ pos 0
int_mul_nonpos_nonneg a b h k =
    let p = int_mul_nonneg (neg_ℤ a) b (omega (arith, ints)) k in
    omega (arith, ints, p, int_neg-mul a b)

-- a product of negative numbers is positive
pub int_mul_neg_neg : (a b : ℤ) → a <ℤ pos 0 → b <ℤ pos 0 → pos 0 <ℤ (a *ℤ b)
int_mul_neg_neg a b h k =
    let p = int_mul_neg_pos b (neg_ℤ a) k (omega (arith, ints)) in
    omega (arith, ints, p, int_mul-neg b a, int_mul_comm a b)

-- ---- orders of products

-- `a <= b` times a factor that is not negative
pub int_mul-le_left : (c a b : ℤ) → pos 0 ≤ℤ c → a ≤ℤ b → (c *ℤ a) ≤ℤ (c *ℤ b)
int_mul-le_left c a b h k =
    let p = int_mul_nonneg c (b -ℤ a) h (omega (arith, ints)) in
    omega (arith, ints, p, int_mul-sub c b a)

-- the same with the factor on the right
pub int_mul-le_right : (a b c : ℤ) → pos 0 ≤ℤ c → a ≤ℤ b → (a *ℤ c) ≤ℤ (b *ℤ c)
int_mul-le_right a b c h k = omega (arith, ints, int_mul-le_left c a b h k, int_mul_comm a c, int_mul_comm b c)

-- `a < b` times a positive factor
pub int_mul-lt_left : (c a b : ℤ) → pos 0 <ℤ c → a <ℤ b → (c *ℤ a) <ℤ (c *ℤ b)
int_mul-lt_left c a b h k =
    let p = int_mul_pos c (b -ℤ a) h (omega (arith, ints)) in
    omega (arith, ints, p, int_mul-sub c b a)

-- the same with the factor on the right
pub int_mul-lt_right : (a b c : ℤ) → pos 0 <ℤ c → a <ℤ b → (a *ℤ c) <ℤ (b *ℤ c)
int_mul-lt_right a b c h k = omega (arith, ints, int_mul-lt_left c a b h k, int_mul_comm a c, int_mul_comm b c)

-- either a is below b, or b is at most a
pub int_lt_or_le : (a b : ℤ) → (a <ℤ b) ⊎ (b ≤ℤ a)
int_lt_or_le a b = grind (arith, ints)

-- a positive factor leaves `<`
pub int_lt_of_mul : (c a b : ℤ) → pos 0 <ℤ c → (c *ℤ a) <ℤ (c *ℤ b) → a <ℤ b
int_lt_of_mul c a b h k =
    ⊎_elim (λ l. l)
    (λ (l : b ≤ℤ a).
    absurd (omega (arith, ints, int_mul-le_left c b a (omega (arith, ints)) l)))
    (int_lt_or_le a b)

-- a positive factor leaves `<=`
pub int_le_of_mul : (c a b : ℤ) → pos 0 <ℤ c → (c *ℤ a) ≤ℤ (c *ℤ b) → a ≤ℤ b
int_le_of_mul c a b h k =
    ⊎_elim (λ (l : b <ℤ a). absurd (omega (arith, ints, int_mul-lt_left c b a h l))) (λ l. l) (int_lt_or_le b a)

-- a positive factor leaves equality
pub int_same_of_mul : (c a b : ℤ) → pos 0 <ℤ c → c *ℤ a ≡ c *ℤ b → a ≡ b
int_same_of_mul c a b h e =
    let p = int_le_of_mul c a b h (omega (arith, ints)) in
    let q = int_le_of_mul c b a h (omega (arith, ints)) in
    omega (arith, ints)

-- a positive factor leaves the test `<`
pub int_lt-mul : (c a b : ℤ) → pos 0 <ℤ c → int_lt (c *ℤ a) (c *ℤ b) ≡ int_lt a b
int_lt-mul c a b h = same_lt (c *ℤ a) (c *ℤ b) a b (int_lt_of_mul c a b h) (int_mul-lt_left c a b h)
