-- A solver for equations of polynomials over the signed numbers.
-- An expression is turned into its normal form, a sorted sum of terms with no zero factor; both have one value,
-- by induction on the expression. So two expressions with one normal form are equal at all values of their variables.

use Rattle.std.proofs.Common.{◌≡◌, ℕ, zero, suc, Bool, true, false, cond, ◌&&◌, List, [], ◌∷◌, refl}
use Rattle.std.proofs.Common.{sym, ap, ◌∙◌, arith, nat_eq, nat_le, nat_lt}
use Rattle.std.specs.Prelude.{ℤ, pos, negsuc, neg_ℤ, ◌+ℤ◌, ◌-ℤ◌, ◌*ℤ◌}
use Rattle.std.proofs.lemmas.Int.{ints}
use Rattle.std.proofs.lemmas.Bool.Decides.{nat_tests}
use Rattle.grid_core.proofs.Ring.{int_mul_comm, int_mul_assoc, int_mul-add, int_add-mul, int_neg-mul}

-- ---- expressions

infixl 6 ◌⊕◌ ◌⊖◌
infixl 7 ◌⊗◌
-- an expression over the variables V 0, V 1 and so on, and the constants K c
pub data Expr : Type 0 where
  V : ℕ → Expr
  K : ℤ → Expr
  ◌⊕◌ : Expr → Expr → Expr
  ◌⊖◌ : Expr → Expr → Expr
  ◌⊗◌ : Expr → Expr → Expr

-- the value of a variable: its place in the list, 0 past the end
abbrev pub value_at : List ℤ → ℕ → ℤ
value_at [] n = pos 0
value_at (x ∷ xs) zero = x
value_at (x ∷ xs) (suc n) = value_at xs n

-- the value of an expression where variable n is place n of the list
abbrev pub value : List ℤ → Expr → ℤ
value r (V n) = value_at r n
value r (K c) = c
value r (e ⊕ f) = value r e +ℤ value r f
value r (e ⊖ f) = value r e -ℤ value r f
value r (e ⊗ f) = value r e *ℤ value r f

-- ---- sums of terms

-- a factor times variables, the variables in order
pub record Term : Type 0 where
  pub factor : ℤ
  pub vars : List ℕ

-- the product of the variables
abbrev pub product_of : List ℤ → List ℕ → ℤ
product_of r [] = pos 1
product_of r (v ∷ vs) = value_at r v *ℤ product_of r vs

-- the value of a term
abbrev pub term_value : List ℤ → Term → ℤ
term_value r t = t.factor *ℤ product_of r t.vars

-- the value of a sum of terms
abbrev pub total : List ℤ → List Term → ℤ
total r [] = pos 0
total r (t ∷ ts) = term_value r t +ℤ total r ts

-- one more variable, at its place
abbrev pub insert_var : ℕ → List ℕ → List ℕ
insert_var v [] = v ∷ []
insert_var v (w ∷ ws) = cond (nat_le v w) (v ∷ w ∷ ws) (w ∷ insert_var v ws)

-- the variables of a product of terms
abbrev pub merge_vars : List ℕ → List ℕ → List ℕ
merge_vars [] ws = ws
merge_vars (v ∷ vs) ws = insert_var v (merge_vars vs ws)

-- the same variables
abbrev pub vars_eq : List ℕ → List ℕ → Bool
vars_eq [] [] = true
vars_eq [] (w ∷ ws) = false
vars_eq (v ∷ vs) [] = false
vars_eq (v ∷ vs) (w ∷ ws) = nat_eq v w && vars_eq vs ws

-- the order of terms: by the first variable that differs
abbrev pub vars_lt : List ℕ → List ℕ → Bool
vars_lt [] [] = false
vars_lt [] (w ∷ ws) = true
vars_lt (v ∷ vs) [] = false
vars_lt (v ∷ vs) (w ∷ ws) = cond (nat_eq v w) (vars_lt vs ws) (nat_lt v w)

-- whether a factor is 0
abbrev pub is_zero : ℤ → Bool
is_zero (pos zero) = true
is_zero (pos (suc n)) = false
is_zero (negsuc n) = false

-- a term in front of a sum, or nothing where its factor is 0
abbrev pub keep : ℤ → List ℕ → List Term → List Term
keep c vs ts = cond (is_zero c) ts (record { factor = c; vars = vs } ∷ ts)

-- one more term, at its place
abbrev pub add_term : Term → List Term → List Term
add_term t [] = t ∷ []
add_term t (u ∷ us) =
    cond (vars_eq t.vars u.vars) (keep (t.factor +ℤ u.factor) t.vars us)
    (cond (vars_lt t.vars u.vars) (t ∷ u ∷ us) (u ∷ add_term t us))

-- the sum of two sums
abbrev pub add_all : List Term → List Term → List Term
add_all [] us = us
add_all (t ∷ ts) us = add_term t (add_all ts us)

-- a sum with each sign turned
abbrev pub negate : List Term → List Term
negate [] = []
negate (t ∷ ts) = record { factor = neg_ℤ t.factor; vars = t.vars } ∷ negate ts

-- a term times a sum
abbrev pub times_all : Term → List Term → List Term
times_all t [] = []
times_all t (u ∷ us) =
    add_term (record { factor = t.factor *ℤ u.factor; vars = merge_vars t.vars u.vars }) (times_all t us)

-- the product of two sums
abbrev pub multiply : List Term → List Term → List Term
multiply [] us = []
multiply (t ∷ ts) us = add_all (times_all t us) (multiply ts us)

-- the normal form of an expression: a sorted sum of terms with no zero factor
abbrev pub normal : Expr → List Term
normal (V n) = record { factor = pos 1; vars = n ∷ [] } ∷ []
normal (K c) = keep c [] []
normal (e ⊕ f) = add_all (normal e) (normal f)
normal (e ⊖ f) = add_all (negate (normal f)) (normal e)
normal (e ⊗ f) = multiply (normal e) (normal f)

-- ---- the normal form has the value of the expression

-- x (y z) is y (x z)
turned : (x y z : ℤ) → x *ℤ (y *ℤ z) ≡ y *ℤ (x *ℤ z)
turned x y z = sym (int_mul_assoc x y z) ∙ ap (λ w. w *ℤ z) (int_mul_comm x y) ∙ int_mul_assoc y x z

insert_branch : (b : Bool) (r : List ℤ) (v w : ℕ) (ws xs : List ℕ) → product_of r xs ≡ value_at r v *ℤ product_of r ws
    → product_of r (cond b (v ∷ w ∷ ws) (w ∷ xs)) ≡ value_at r v *ℤ (value_at r w *ℤ product_of r ws)
insert_branch true r v w ws xs h = refl
insert_branch false r v w ws xs h =
    ap (λ k. value_at r w *ℤ k) h ∙ turned (value_at r w) (value_at r v) (product_of r ws)

product_of-insert_var : (r : List ℤ) (v : ℕ) (ws : List ℕ)
    → product_of r (insert_var v ws) ≡ value_at r v *ℤ product_of r ws
product_of-insert_var r v [] = refl
product_of-insert_var r v (w ∷ ws) =
    insert_branch (nat_le v w) r v w ws (insert_var v ws) (product_of-insert_var r v ws)

product_of-merge_vars : (r : List ℤ) (vs ws : List ℕ)
    → product_of r (merge_vars vs ws) ≡ product_of r vs *ℤ product_of r ws
product_of-merge_vars r [] ws = omega (arith, ints)
product_of-merge_vars r (v ∷ vs) ws =
    product_of-insert_var r v (merge_vars vs ws)
    ∙ ap (λ k. value_at r v *ℤ k) (product_of-merge_vars r vs ws)
    ∙ sym (int_mul_assoc (value_at r v) (product_of r vs) (product_of r ws))

same_head : (r : List ℤ) (v w : ℕ) (x y : ℤ) (b : Bool) → (nat_eq v w && b) ≡ true
    → (b ≡ true → x ≡ y) → value_at r v *ℤ x ≡ value_at r w *ℤ y
same_head r v w x y b e h =
    let p : v ≡ w = grind (arith, nat_tests) in
    let q : b ≡ true = grind (arith, nat_tests) in
    ap (λ (n : ℕ). value_at r n *ℤ x) p ∙ ap (λ k. value_at r w *ℤ k) (h q)

product_of-same : (r : List ℤ) (vs ws : List ℕ) → vars_eq vs ws ≡ true → product_of r vs ≡ product_of r ws
product_of-same r [] [] e = refl
product_of-same r [] (w ∷ ws) e = cc
product_of-same r (v ∷ vs) [] e = cc
product_of-same r (v ∷ vs) (w ∷ ws) e =
    same_head r v w (product_of r vs) (product_of r ws) (vars_eq vs ws) e (product_of-same r vs ws)

total-keep : (r : List ℤ) (c : ℤ) (vs : List ℕ) (ts : List Term)
    → total r (keep c vs ts) ≡ c *ℤ product_of r vs +ℤ total r ts
total-keep r (pos zero) vs ts = omega (arith, ints)
total-keep r (pos (suc n)) vs ts = refl
total-keep r (negsuc n) vs ts = refl

joined : (r : List ℤ) (t u : Term) (us : List Term) → product_of r t.vars ≡ product_of r u.vars
    → total r (keep (t.factor +ℤ u.factor) t.vars us) ≡ term_value r t +ℤ (term_value r u +ℤ total r us)
joined r t u us h =
    let p = total-keep r (t.factor +ℤ u.factor) t.vars us in
    let q = int_add-mul t.factor u.factor (product_of r t.vars) in
    let s = ap (λ k. u.factor *ℤ k) h in
    omega (arith, ints, p, q, s)

add_branch : (same less : Bool) (r : List ℤ) (t u : Term) (us xs : List Term)
    → (same ≡ true → product_of r t.vars ≡ product_of r u.vars) → total r xs ≡ term_value r t +ℤ total r us
    → total r (cond same (keep (t.factor +ℤ u.factor) t.vars us) (cond less (t ∷ u ∷ us) (u ∷ xs)))
    ≡ term_value r t +ℤ (term_value r u +ℤ total r us)
add_branch true less r t u us xs h k = joined r t u us (h refl)
add_branch false true r t u us xs h k = refl
add_branch false false r t u us xs h k = omega (arith, ints)

total-add_term : (r : List ℤ) (t : Term) (us : List Term) → total r (add_term t us) ≡ term_value r t +ℤ total r us
total-add_term r t [] = refl
total-add_term r t (u ∷ us) =
    add_branch (vars_eq t.vars u.vars) (vars_lt t.vars u.vars) r t u us (add_term t us)
    (product_of-same r t.vars u.vars) (total-add_term r t us)

total-add_all : (r : List ℤ) (ts us : List Term) → total r (add_all ts us) ≡ total r ts +ℤ total r us
total-add_all r [] us = omega (arith, ints)
total-add_all r (t ∷ ts) us =
    let p = total-add_term r t (add_all ts us) in
    let q = total-add_all r ts us in
    omega (arith, ints, p, q)

total-negate : (r : List ℤ) (ts : List Term) → total r (negate ts) ≡ neg_ℤ (total r ts)
total-negate r [] = refl
total-negate r (t ∷ ts) =
    let p = int_neg-mul t.factor (product_of r t.vars) in
    let q = total-negate r ts in
    omega (arith, ints, p, q)

-- (a b) (x y) is (a x) (b y)
crossed : (a b x y : ℤ) → (a *ℤ b) *ℤ (x *ℤ y) ≡ (a *ℤ x) *ℤ (b *ℤ y)
crossed a b x y =
    int_mul_assoc a b (x *ℤ y) ∙ ap (λ k. a *ℤ k) (turned b x y) ∙ sym (int_mul_assoc a x (b *ℤ y))

total-times_all : (r : List ℤ) (t : Term) (us : List Term) → total r (times_all t us) ≡ term_value r t *ℤ total r us
total-times_all r t [] = omega (arith, ints)
total-times_all r t (u ∷ us) =
    let both : Term = record { factor = t.factor *ℤ u.factor; vars = merge_vars t.vars u.vars } in
    let first : term_value r both ≡ term_value r t *ℤ term_value r u =
    ap (λ k. (t.factor *ℤ u.factor) *ℤ k) (product_of-merge_vars r t.vars u.vars)
    ∙ crossed t.factor u.factor (product_of r t.vars) (product_of r u.vars) in
    total-add_term r both (times_all t us)
    ∙ ap (λ k. k +ℤ total r (times_all t us)) first
    ∙ ap (λ k. term_value r t *ℤ term_value r u +ℤ k) (total-times_all r t us)
    ∙ sym (int_mul-add (term_value r t) (term_value r u) (total r us))

total-multiply : (r : List ℤ) (ts us : List Term) → total r (multiply ts us) ≡ total r ts *ℤ total r us
total-multiply r [] us = omega (arith, ints)
total-multiply r (t ∷ ts) us =
    total-add_all r (times_all t us) (multiply ts us)
    ∙ ap (λ k. k +ℤ total r (multiply ts us)) (total-times_all r t us)
    ∙ ap (λ k. term_value r t *ℤ total r us +ℤ k) (total-multiply r ts us)
    ∙ sym (int_add-mul (term_value r t) (total r ts) (total r us))

-- the normal form of an expression has its value
pub total-normal : (r : List ℤ) (e : Expr) → total r (normal e) ≡ value r e
total-normal r (V n) = omega (arith, ints)
total-normal r (K c) = total-keep r c [] [] ∙ omega (arith, ints)
total-normal r (e ⊕ f) =
    let p = total-normal r e in
    let q = total-normal r f in
    let s = total-add_all r (normal e) (normal f) in
    omega (arith, ints, p, q, s)
total-normal r (e ⊖ f) =
    let p = total-normal r e in
    let q = total-normal r f in
    let s = total-add_all r (negate (normal f)) (normal e) in
    let n = total-negate r (normal f) in
    omega (arith, ints, p, q, s, n)
total-normal r (e ⊗ f) =
    total-multiply r (normal e) (normal f)
    ∙ ap (λ k. k *ℤ total r (normal f)) (total-normal r e)
    ∙ ap (λ k. value r e *ℤ k) (total-normal r f)

-- two expressions with one normal form have one value: `same_polynomial (x ∷ y ∷ []) e f refl` proves their equation
pub same_polynomial : (r : List ℤ) (e f : Expr) → normal e ≡ normal f → value r e ≡ value r f
same_polynomial r e f h = sym (total-normal r e) ∙ ap (total r) h ∙ total-normal r f
