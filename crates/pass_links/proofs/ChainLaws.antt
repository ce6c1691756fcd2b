-- The way along links. Whoever starts at one key comes by the same keys, so a way that ends has each
-- key once, and no more keys than there are.
use Rattle.std.proofs.Common.{◌≡◌, ◌≢◌, refl, ap, sym, ◌∙◌, subst, ℕ, zero, suc, ◌<◌, ◌≤◌, arith, Bool, true, false, cond, not, ◌||◌, true≢false, List, [], ◌∷◌, ◌++◌, length, length-append, ◌⊎◌, ⊎_elim, inl, inr}
use Rattle.std.specs.Prelude.{◌==◌, filter, count_by}
use Rattle.std.proofs.lemmas.Bool.{or_left, or_right, or_cases, or_parts, and_parts, not-true}
use Rattle.std.proofs.lemmas.Bool.Decides.{Decides-eqb, not_from_Decides}
use Rattle.std.proofs.lemmas.List.Sums.{length-filter, sum_by-cons}
use Rattle.std.proofs.lemmas.List.Filters.{length-filter_both}
use Rattle.pass_links.specs.Chain.{end, way, IsWay, key_behind, has_key}
use Rattle.grid_core.proofs.Filters.{counted, count_none, count_filter, any_left, none_left}
use Rattle.grid_core.proofs.SortedLists.{or_swapped}
use Rattle.pass_links.proofs.KeyLaws.{key_itself, keys_differ, keys_swapped}

-- ---- the way

-- nothing comes behind the end
pub way_end : (f : ℕ → ℕ) (n : ℕ) → way f n end ≡ []
unfolding way
way_end f zero = refl
way_end f (suc n) = refl

-- a key that is not the end comes first
pub way_step : (f : ℕ → ℕ) (n s : ℕ) → s ≢ end → way f (suc n) s ≡ s ∷ way f n (f s)
unfolding way
way_step f n s h = ap (λ b. cond b [] (s ∷ way f n (f s))) (keys_differ s end h)

-- no more keys than it is let go
pub way_length : (f : ℕ → ℕ) (n s : ℕ) → length (way f n s) ≤ n
unfolding way
way_length f zero s = omega arith
way_length f (suc n) s = by (way_length f n (f s)) (s == end)
  where
    by : length (way f n (f s)) ≤ n → (b : Bool) → length (cond b [] (s ∷ way f n (f s))) ≤ suc n
    by rest true = omega arith
    by rest false = omega arith

-- a whole way is what `way` finds, if it is let go far enough
pub way_of_IsWay : (f : ℕ → ℕ) (n s : ℕ) (ks : List ℕ) → IsWay f s ks → length ks ≤ n → way f n s ≡ ks
way_of_IsWay f n s [] h l = ap (way f n) h ∙ way_end f n
way_of_IsWay f zero s (k ∷ ks) h l = absurd (omega arith)
way_of_IsWay f (suc n) s (k ∷ ks) h l =
    ap (way f (suc n)) h.0 ∙ way_step f n k (λ e. omega (arith, e, h.1)) ∙ ap (λ js. k ∷ js) (way_of_IsWay f n (f k) ks h.2 (omega arith))

-- whole ways from one key are one way
pub one_way : (f : ℕ → ℕ) (s : ℕ) (ks js : List ℕ) → IsWay f s ks → IsWay f s js → ks ≡ js
one_way f s [] [] h g = refl
one_way f s [] (j ∷ js) h g = absurd (omega (arith, h, g.0, g.1))
one_way f s (k ∷ ks) [] h g = absurd (omega (arith, g, h.0, h.1))
one_way f s (k ∷ ks) (j ∷ js) h g =
    let at : j ≡ k = sym g.0 ∙ h.0 in
    let rest : ks ≡ js = one_way f (f k) ks js h.2 (subst (λ z. IsWay f (f z) js) at g.2) in
    λ i. sym at i ∷ rest i

-- one step on a whole way: what is left is whole, and shorter by the key that was passed
pub way_next : (f : ℕ → ℕ) (n s : ℕ) → IsWay f s (way f n s) → s ≢ end
    → (way f n s ≡ s ∷ way f n (f s)) × (s < end) × IsWay f (f s) (way f n (f s))
unfolding way
way_next f zero s h e = absurd (e h)
way_next f (suc n) s h e =
    let step : way f (suc n) s ≡ s ∷ way f n (f s) = way_step f n s e in
    let parts : IsWay f s (s ∷ way f n (f s)) = subst (IsWay f s) step h in
    let more : way f (suc n) (f s) ≡ way f n (f s) = way_of_IsWay f (suc n) (f s) (way f n (f s)) parts.2 (omega (arith, way_length f n (f s))) in
    (step ∙ ap (λ ks. s ∷ ks) (sym more), parts.1, subst (IsWay f (f s)) (sym more) parts.2)

-- links that differ at no key of the way make the same way
pub way_as : (f g : ℕ → ℕ) (s : ℕ) (ks : List ℕ) → ((k : ℕ) → has_key ks k ≡ true → g k ≡ f k) → IsWay f s ks → IsWay g s ks
way_as f g s [] e h = h
way_as f g s (k ∷ ks) e h = (
  h.0,
  h.1,
  subst (λ z. IsWay g z ks) (sym (e k (or_left (k == k) (has_key ks k) (key_itself k))))
      (way_as f g (f k) ks (λ j t. e j (or_right (j == k) (has_key ks j) t)) h.2),
)

-- a key on the way, and the rest of the way from it
pub way_at : (f : ℕ → ℕ) (s k : ℕ) (ks : List ℕ) → IsWay f s ks → has_key ks k ≡ true
    → (js : List ℕ) × (ms : List ℕ) × (ks ≡ js ++ k ∷ ms) × (k < end) × IsWay f (f k) ms
way_at f s k [] h e = absurd (true≢false (sym e))
way_at f s k (j ∷ js) h e =
    ⊎_elim (λ t. let at : k ≡ j = (Decides-eqb k j).0 t in
    ([], js, ap (λ z. z ∷ js) (sym at), subst (λ z. z < end) (sym at) h.1, subst (λ z. IsWay f (f z) js) (sym at) h.2))
    (λ t. let rest = way_at f (f j) k js h.2 t in
    (j ∷ rest.0, rest.1, ap (λ ks. j ∷ ks) rest.2, rest.3, rest.4))
    (or_cases (k == j) (has_key js k) e)

-- a key does not come again behind itself
pub way_ahead : (f : ℕ → ℕ) (k : ℕ) (ks : List ℕ) → IsWay f (f k) ks → has_key ks k ≡ false
way_ahead f k ks h = by (has_key ks k) refl
  where
    by : (b : Bool) → has_key ks k ≡ b → b ≡ false
    by false e = refl
    by true e =
        let rest = way_at f (f k) k ks h e in
        absurd (omega (arith, ap length (one_way f (f k) ks rest.1 h rest.4), ap length rest.2, length-append rest.0 (k ∷ rest.1)))

-- a whole way has each key at most once
pub way_once : (f : ℕ → ℕ) (s k : ℕ) (ks : List ℕ) → IsWay f s ks → count_by (λ j. k == j) ks ≤ 1
way_once f s k [] h = omega arith
way_once f s k (j ∷ js) h = by (way_once f (f j) k js h.2) (k == j) refl
  where
    by : count_by (λ i. k == i) js ≤ 1 → (b : Bool) → (k == j) ≡ b → count_by (λ i. k == i) (j ∷ js) ≤ 1
    by rest true e =
        let gone : has_key js k ≡ false = ap (has_key js) ((Decides-eqb k j).0 e) ∙ way_ahead f j js h.2 in
        omega (arith, sum_by-cons (λ i. cond (k == i) 1 0) j js, ap counted e, count_none (λ i. k == i) js gone)
    by rest false e = omega (arith, sum_by-cons (λ i. cond (k == i) 1 0) j js, ap counted e, rest)

-- as many keys as there are, each at most once
pub pigeonhole : (n : ℕ) (ks : List ℕ) → ((k : ℕ) → has_key ks k ≡ true → k < n) → ((k : ℕ) → count_by (λ j. k == j) ks ≤ 1) → length ks ≤ n
pigeonhole n [] b o = omega arith
pigeonhole zero (k ∷ ks) b o = absurd (omega (arith, b k (or_left (k == k) (has_key ks k) (key_itself k))))
pigeonhole (suc n) (k ∷ ks) b o =
    let rest : List ℕ = filter (λ j. not (j == n)) (k ∷ ks) in
    let less : length rest ≤ n =
    pigeonhole n rest
    (λ j t. let parts = and_parts (has_key (k ∷ ks) j) (not (j == n)) (sym (any_left (λ i m. i == m) Decides-eqb j n (k ∷ ks)) ∙ t) in
    let other : j ≢ n = not_from_Decides (j == n) (Decides-eqb j n) (not-true (j == n) parts.1) in
    omega (arith, b j parts.0, other))
    (λ j. omega (arith, count_filter (λ i. j == i) (λ i. not (i == n)) (k ∷ ks), o j)) in
    omega (arith, less, length-filter_both (λ j. n == j) (λ j. not (j == n)) (λ j. ap not (keys_swapped j n)) (k ∷ ks), length-filter (λ j. n == j) (k ∷ ks), o n)

-- behind a key of a whole way comes the end, or another key of it
pub way_follows : (f : ℕ → ℕ) (s k : ℕ) (ks : List ℕ) → IsWay f s ks → has_key ks k ≡ true → (f k ≡ end) ⊎ (has_key ks (f k) ≡ true)
way_follows f s k [] h e = absurd (true≢false (sym e))
way_follows f s k (j ∷ js) h e =
    ⊎_elim (λ t. behind js h.2 (ap f ((Decides-eqb k j).0 t)))
    (λ t. ⊎_elim inl (λ u. inr (or_right (f k == j) (has_key js (f k)) u)) (way_follows f (f j) k js h.2 t))
    (or_cases (k == j) (has_key js k) e)
  where
    behind : (is : List ℕ) → IsWay f (f j) is → f k ≡ f j → (f k ≡ end) ⊎ (has_key (j ∷ is) (f k) ≡ true)
    behind [] g at = inl (at ∙ g)
    behind (i ∷ is) g at =
        inr (or_right (f k == j) (has_key (i ∷ is) (f k)) (or_left (f k == i) (has_key is (f k)) ((Decides-eqb (f k) i).1 (at ∙ g.0))))

-- ---- one key more or less

-- a key put behind another stands in the list, beside those that did
pub has_behind : (j p x : ℕ) (ks : List ℕ) → has_key (key_behind p x ks) j ≡ ((j == x) || has_key ks j)
has_behind j p x [] = refl
has_behind j p x (k ∷ ks) = by (has_behind j p x ks) (p == k)
  where
    by : has_key (key_behind p x ks) j ≡ ((j == x) || has_key ks j)
        → (b : Bool) → has_key (cond b (k ∷ x ∷ ks) (k ∷ key_behind p x ks)) j ≡ ((j == x) || ((j == k) || has_key ks j))
    by rest true = or_swapped (j == k) (j == x) (has_key ks j)
    by rest false = ap (λ b. (j == k) || b) rest ∙ or_swapped (j == k) (j == x) (has_key ks j)

-- a key that isn't there, taken out
pub filter_absent : (y : ℕ) (ks : List ℕ) → has_key ks y ≡ false → filter (λ k. not (k == y)) ks ≡ ks
filter_absent y ks h = none_left (λ j k. j == k) Decides-eqb y ks h

-- a key that is in one list and not in another is not one that the other has
pub in_one : (ks : List ℕ) (j k : ℕ) → has_key ks j ≡ true → has_key ks k ≡ false → j ≢ k
in_one ks j k t u e = true≢false (sym t ∙ ap (has_key ks) e ∙ u)

-- the way when the new key x is linked right behind p
pub way_put : (f g : ℕ → ℕ) (s p x : ℕ) (ks : List ℕ) → x < end → g x ≡ f p → g p ≡ x → ((k : ℕ) → k ≢ x → k ≢ p → g k ≡ f k)
    → IsWay f s ks → has_key ks p ≡ true → has_key ks x ≡ false → IsWay g s (key_behind p x ks)
way_put f g s p x [] low at_x at_p alike h here fresh = absurd (true≢false (sym here))
way_put f g s p x (k ∷ ks) low at_x at_p alike h here fresh = by (λ t. way_put f g (f k) p x ks low at_x at_p alike h.2 t new_rest) (p == k) refl
  where
    new : (x == k) ≡ false
    new = (or_parts (x == k) (has_key ks x) fresh).0

    new_rest : has_key ks x ≡ false
    new_rest = (or_parts (x == k) (has_key ks x) fresh).1

    k_no_x : k ≢ x
    k_no_x e = not_from_Decides (x == k) (Decides-eqb x k) new (sym e)

    by : (has_key ks p ≡ true → IsWay g (f k) (key_behind p x ks)) → (b : Bool) → (p == k) ≡ b
        → IsWay g s (cond b (k ∷ x ∷ ks) (k ∷ key_behind p x ks))
    by later true e =
        let at : p ≡ k = (Decides-eqb p k).0 e in
        let gone : has_key ks p ≡ false = ap (has_key ks) at ∙ way_ahead f k ks h.2 in
        let rest : IsWay g (f k) ks = way_as f g (f k) ks (λ j t. alike j (in_one ks j x t new_rest) (in_one ks j p t gone)) h.2 in
        (h.0, h.1, (ap g (sym at) ∙ at_p, low, subst (λ z. IsWay g z ks) (ap f (sym at) ∙ sym at_x) rest))
    by later false e =
        let other : p ≢ k = not_from_Decides (p == k) (Decides-eqb p k) e in
        (h.0, h.1, subst (λ z. IsWay g z (key_behind p x ks)) (sym (alike k k_no_x (λ u. other (sym u)))) (later (ap (λ b. b || has_key ks p) (sym e) ∙ here)))

-- the way when the key y is taken out that was right behind p
pub way_taken : (f g : ℕ → ℕ) (s p y : ℕ) (ks : List ℕ) → y < end → f p ≡ y → g p ≡ f y → ((k : ℕ) → k ≢ y → k ≢ p → g k ≡ f k)
    → IsWay f s ks → has_key ks p ≡ true → IsWay g s (filter (λ k. not (k == y)) ks)
way_taken f g s p y [] low at_y at_p alike h here = absurd (true≢false (sym here))
way_taken f g s p y (k ∷ ks) low at_y at_p alike h here = by (way_taken f g (f k) p y ks low at_y at_p alike h.2) (p == k) refl
  where
    rests : List ℕ → List ℕ
    rests js = filter (λ j. not (j == y)) js

    -- the key k, which is not y, stays, and so does what comes behind it
    kept : k ≢ y → IsWay g (g k) (rests ks) → IsWay g s (rests (k ∷ ks))
    kept differs rest =
        subst (λ b. IsWay g s (cond (not b) (k ∷ rests ks) (rests ks))) (sym (keys_differ k y differs)) (h.0, h.1, rest)

    -- y comes right behind k, and goes
    behind : (js : List ℕ) → IsWay f (f k) js → has_key js k ≡ false → p ≡ k → IsWay g (g k) (rests js)
    behind [] t gone at = absurd (omega (arith, t, at_y, ap f at, low))
    behind (j ∷ js) t gone at =
        let at_j : y ≡ j = sym at_y ∙ ap f at ∙ t.0 in
        let gone_y : has_key js y ≡ false = ap (has_key js) at_j ∙ way_ahead f j js t.2 in
        let gone_p : has_key js p ≡ false = ap (has_key js) at ∙ (or_parts (k == j) (has_key js k) gone).1 in
        let rest : IsWay g (f j) js = way_as f g (f j) js (λ i u. alike i (in_one js i y u gone_y) (in_one js i p u gone_p)) t.2 in
        let out : rests (j ∷ js) ≡ js =
        ap (λ b. cond (not b) (j ∷ rests js) (rests js)) ((Decides-eqb j y).1 (sym at_j)) ∙ filter_absent y js gone_y in
        subst (IsWay g (g k)) (sym out) (subst (λ z. IsWay g z js) (ap f (sym at_j) ∙ sym at_p ∙ ap g at) rest)

    -- y is not the key before which nothing of this stands
    not_first : has_key ks p ≡ true → k ≢ y
    not_first later e =
        ⊎_elim (λ t. omega (arith, t, at_y, low))
        (λ t. true≢false (sym t ∙ ap (has_key ks) (at_y ∙ sym e) ∙ way_ahead f k ks h.2))
        (way_follows f (f k) p ks h.2 later)

    by : (has_key ks p ≡ true → IsWay g (f k) (rests ks)) → (b : Bool) → (p == k) ≡ b → IsWay g s (rests (k ∷ ks))
    by later true e =
        let at : p ≡ k = (Decides-eqb p k).0 e in
        let gone : has_key ks k ≡ false = way_ahead f k ks h.2 in
        kept (λ u. first_behind ks h.2 gone (ap f (sym at) ∙ at_y ∙ sym u)) (behind ks h.2 gone at)
      where
        first_behind : (js : List ℕ) → IsWay f (f k) js → has_key js k ≡ false → f k ≡ k → ⊥
        first_behind [] t gone e = omega (arith, t, e, h.1)
        first_behind (j ∷ js) t gone e = true≢false (sym (or_left (k == j) (has_key js k) ((Decides-eqb k j).1 (sym e ∙ t.0))) ∙ gone)
    by later false e =
        let other : p ≢ k = not_from_Decides (p == k) (Decides-eqb p k) e in
        let there : has_key ks p ≡ true = ap (λ b. b || has_key ks p) (sym e) ∙ here in
        kept (not_first there)
        (subst (λ z. IsWay g z (rests ks)) (sym (alike k (not_first there) (λ u. other (sym u)))) (later there))
