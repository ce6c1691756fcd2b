-- A family of lists by links stays one when a key is put into a list and when one is taken out of it,
-- and the list is then what it was with the key or without it. Each law tells the new ways; that they
-- are found in as many steps as there are keys follows by counting.
use Rattle.std.proofs.Common.{◌≡◌, ◌≢◌, refl, ap, sym, ◌∙◌, subst, ℕ, ◌<◌, ◌≤◌, arith, Bool, true, false, cond, not, ◌&&◌, ◌||◌, true≢false, List, [], ◌∷◌, length, length-append, Option, None, Some, ◌⊎◌, ⊎_elim, inl, inr}
use Rattle.std.specs.Prelude.{◌==◌, filter}
use Rattle.std.specs.Bool.{Decides}
use Rattle.std.proofs.lemmas.Bool.{cases_eq, or_left}
use Rattle.std.proofs.lemmas.Bool.Decides.{Decides-eqb}
use Rattle.pass_links.specs.Chain.{end, way, IsWay, key_behind, has_key, is_of, IsFamily}
use Rattle.grid_core.proofs.Filters.{any_left}
use Rattle.pass_links.proofs.KeyLaws.{key_itself, keys_differ}
use Rattle.pass_links.proofs.ChainLaws.{has_behind, filter_absent, in_one, way_length, way_of_IsWay, way_next, way_as, way_at, way_ahead, way_follows, way_once, pigeonhole, way_put, way_taken}

-- A family after a change in the list of q: that list is ks, and all others are as before.
pub record IsChanged {K : Type 0} (same : K → K → Bool) (f : ℕ → ℕ) (first : K → ℕ) (n : ℕ) (f' : ℕ → ℕ) (first' : K → ℕ) (label' : ℕ → Option K) (n' : ℕ) (q : K) (ks : List ℕ) : Type 0 where
  pub family : IsFamily same f' first' label' n'
  pub here : way f' n' (first' q) ≡ ks
  pub others : (r : K) → same r q ≡ false → way f' n' (first' r) ≡ way f n (first r)

none_and_some : {K : Type 0} {q : K} {o : Option K} → o ≡ None → o ≡ Some q → ⊥
none_and_some h g = absurd (cc)

and_kept : (b c : Bool) → c ≡ false → (b && not c) ≡ b
and_kept true c e = ap not e
and_kept false c e = refl

module _ {K : Type 0} (same : K → K → Bool) (decides : (a b : K) → Decides (same a b) (a ≡ b)) where
  -- ---- labels

  own : (q : K) → is_of same q (Some q) ≡ true
  own q = (decides q q).1 refl

  labelled : (q : K) (o : Option K) → is_of same q o ≡ true → o ≡ Some q
  labelled q None e = absurd (true≢false (sym e))
  labelled q (Some r) e = ap Some (sym ((decides q r).0 e))

  -- a key of one list is none of another
  apart : (q r : K) (o : Option K) → same r q ≡ false → o ≡ Some q → is_of same r o ≡ false
  apart q r o e h = ap (is_of same r) h ∙ e

  -- a key in the list of q has the label of q
  pub key_label : {f : ℕ → ℕ} {first : K → ℕ} {label : ℕ → Option K} {n : ℕ} (q : K) (k : ℕ) → IsFamily same f first label n
      → has_key (way f n (first q)) k ≡ true → label k ≡ Some q
  key_label {label = label} q k h e = labelled q (label k) (sym (h.exact q k) ∙ e)

  -- a key with the label of q is in the list of q
  pub label_key : {f : ℕ → ℕ} {first : K → ℕ} {label : ℕ → Option K} {n : ℕ} (q : K) (k : ℕ) → IsFamily same f first label n
      → label k ≡ Some q → has_key (way f n (first q)) k ≡ true
  label_key q k h e = h.exact q k ∙ ap (is_of same q) e ∙ own q

  -- ---- along a list

  -- the list of q begins at its end, or at a key of its own
  pub first_stored : {f : ℕ → ℕ} {first : K → ℕ} {label : ℕ → Option K} {n : ℕ} (q : K) → IsFamily same f first label n
      → (first q ≡ end) ⊎ (label (first q) ≡ Some q)
  first_stored {f} {first} {label} {n} q h =
      ⊎_elim inl
      (λ e. let step = way_next f n (first q) (h.whole q) e in
      inr (key_label q (first q) h
      (ap (λ ks. has_key ks (first q)) step.0 ∙ or_left (first q == first q) (has_key (way f n (f (first q))) (first q)) (key_itself (first q)))))
      (cases_eq (first q) end)

  -- behind a key of q is the end, or another key of q
  pub next_stored : {f : ℕ → ℕ} {first : K → ℕ} {label : ℕ → Option K} {n : ℕ} (q : K) (k : ℕ) → IsFamily same f first label n
      → label k ≡ Some q → (f k ≡ end) ⊎ (label (f k) ≡ Some q)
  next_stored {f} {first} {label} {n} q k h e =
      ⊎_elim inl (λ t. inr (key_label q (f k) h t)) (way_follows f (first q) k (way f n (first q)) (h.whole q) (label_key q k h e))

  -- the way from a key of q is whole, and the key is not the end
  pub way_from : {f : ℕ → ℕ} {first : K → ℕ} {label : ℕ → Option K} {n : ℕ} (q : K) (k : ℕ) → IsFamily same f first label n
      → label k ≡ Some q → (k < end) × IsWay f k (way f n k) × (way f n k ≡ k ∷ way f n (f k))
  way_from {f} {first} {label} {n} q k h e =
      let rest = way_at f (first q) k (way f n (first q)) (h.whole q) (label_key q k h e) in
      let enough : length (k ∷ rest.1) ≤ n =
      omega (arith, way_length f n (first q), ap length rest.2, length-append rest.0 (k ∷ rest.1)) in
      let here : IsWay f k (k ∷ rest.1) = (refl, rest.3, rest.4) in
      let found : way f n k ≡ k ∷ rest.1 = way_of_IsWay f n k (k ∷ rest.1) here enough in
      let behind : way f n (f k) ≡ rest.1 = way_of_IsWay f n (f k) rest.1 rest.4 (omega (arith, enough)) in
      (rest.3, subst (IsWay f k) (sym found) here, found ∙ ap (λ ks. k ∷ ks) (sym behind))

  -- ---- what makes a family

  -- the lists that these ways are
  pub family_of : (f : ℕ → ℕ) (first : K → ℕ) (label : ℕ → Option K) (n : ℕ) (ways : K → List ℕ) → ((q : K) → IsWay f (first q) (ways q))
      → ((q : K) (k : ℕ) → has_key (ways q) k ≡ is_of same q (label k)) → ((k : ℕ) (q : K) → label k ≡ Some q → k < n)
      → IsFamily same f first label n × ((q : K) → way f n (first q) ≡ ways q)
  family_of f first label n ways whole exact below =
      let found : (q : K) → way f n (first q) ≡ ways q =
      λ q. way_of_IsWay f n (first q) (ways q) (whole q)
      (pigeonhole n (ways q) (λ k t. below k q (labelled q (label k) (sym (exact q k) ∙ t))) (λ k. way_once f (first q) k (ways q) (whole q))) in (
        record {
          whole = λ q. subst (IsWay f (first q)) (sym (found q)) (whole q);
          exact = λ q k. ap (λ ks. has_key ks k) (found q) ∙ exact q k;
          below = below;
        },
        found,
      )

  -- nothing is stored
  pub family_empty : (f : ℕ → ℕ) (first : K → ℕ) (label : ℕ → Option K) (n : ℕ) → ((q : K) → first q ≡ end) → ((k : ℕ) → label k ≡ None)
      → IsFamily same f first label n
  family_empty f first label n e l =
      (family_of f first label n (λ q. []) e (λ q k. ap (is_of same q) (sym (l k))) (λ k q t. absurd (none_and_some (l k) t))).0

  -- the list of q is ks now, and all others are as they were
  changed : {f f' : ℕ → ℕ} {first first' : K → ℕ} {label label' : ℕ → Option K} {n n' : ℕ} (q : K) (ks : List ℕ) → IsFamily same f first label n
      → IsWay f' (first' q) ks → ((k : ℕ) → has_key ks k ≡ is_of same q (label' k))
      → ((r : K) → same r q ≡ false → IsWay f' (first' r) (way f n (first r)))
      → ((r : K) (k : ℕ) → same r q ≡ false → is_of same r (label k) ≡ is_of same r (label' k))
      → ((k : ℕ) (r : K) → label' k ≡ Some r → k < n')
      → IsChanged same f first n f' first' label' n' q ks
  changed {f} {f'} {first} {first'} {label} {label'} {n} {n'} q ks h whole exact wholes exacts below =
      record {
        family = made.0;
        here = made.1 q ∙ ap (λ b. cond b ks (way f n (first q))) (own q);
        others = λ r e. made.1 r ∙ ap (λ b. cond b ks (way f n (first r))) e;
      }
    where
      ways : K → List ℕ
      ways r = cond (same r q) ks (way f n (first r))

      whole_at : (r : K) (b : Bool) → same r q ≡ b → IsWay f' (first' r) (cond b ks (way f n (first r)))
      whole_at r true e = subst (λ z. IsWay f' (first' z) ks) (sym ((decides r q).0 e)) whole
      whole_at r false e = wholes r e

      exact_at : (r : K) (k : ℕ) (b : Bool) → same r q ≡ b → has_key (cond b ks (way f n (first r))) k ≡ is_of same r (label' k)
      exact_at r k true e = exact k ∙ ap (λ z. is_of same z (label' k)) (sym ((decides r q).0 e))
      exact_at r k false e = h.exact r k ∙ exacts r k e

      made : IsFamily same f' first' label' n' × ((r : K) → way f' n' (first' r) ≡ ways r)
      made = family_of f' first' label' n' ways (λ r. whole_at r (same r q) refl) (λ r k. exact_at r k (same r q) refl) below

  -- ---- one key more

  module _ {f : ℕ → ℕ} {first : K → ℕ} {label label' : ℕ → Option K} {n n' : ℕ} (q : K) (x : ℕ) (h : IsFamily same f first label n)
      (more : n ≤ n') (within : x < n') (fresh : label x ≡ None) (label_at : label' x ≡ Some q) (label_as : (k : ℕ) → k ≢ x → label' k ≡ label k) where
    -- a key that was in a list is not the new one
    old_key : (r : K) (k : ℕ) → label k ≡ Some r → k ≢ x
    old_key r k t e = none_and_some (ap label e ∙ fresh) t

    labels_below : (k : ℕ) (r : K) → label' k ≡ Some r → k < n'
    labels_below k r t =
        ⊎_elim (λ e. omega (arith, e, within)) (λ e. omega (arith, h.below k r (sym (label_as k e) ∙ t), more)) (cases_eq k x)

    labels_beside : (r : K) (k : ℕ) → same r q ≡ false → is_of same r (label k) ≡ is_of same r (label' k)
    labels_beside r k e =
        ⊎_elim (λ t. ap (λ z. is_of same r (label z)) t ∙ ap (is_of same r) fresh ∙ sym (ap (λ z. is_of same r (label' z)) t ∙ apart q r (label' x) e label_at))
        (λ t. ap (is_of same r) (sym (label_as k t))) (cases_eq k x)

    labels_here : (k : ℕ) → ((k == x) || has_key (way f n (first q)) k) ≡ is_of same q (label' k)
    labels_here k =
        ⊎_elim (λ t. or_left (k == x) (has_key (way f n (first q)) k) ((Decides-eqb k x).1 t) ∙ sym (ap (λ z. is_of same q (label' z)) t ∙ ap (is_of same q) label_at ∙ own q))
        (λ t. ap (λ b. b || has_key (way f n (first q)) k) (keys_differ k x t) ∙ h.exact q k ∙ ap (is_of same q) (sym (label_as k t))) (cases_eq k x)

  -- a new key x becomes the first of q
  pub put_first : {f f' : ℕ → ℕ} {first first' : K → ℕ} {label label' : ℕ → Option K} {n n' : ℕ} (q : K) (x : ℕ) → IsFamily same f first label n
      → n ≤ n' → x < n' → x < end → label x ≡ None
      → f' x ≡ first q → ((k : ℕ) → k ≢ x → f' k ≡ f k)
      → first' q ≡ x → ((r : K) → same r q ≡ false → first' r ≡ first r)
      → label' x ≡ Some q → ((k : ℕ) → k ≢ x → label' k ≡ label k)
      → IsChanged same f first n f' first' label' n' q (x ∷ way f n (first q))
  put_first {f} {f'} {first} {first'} {label} {label'} {n} {n'} q x h more within low fresh f_at f_as first_at first_as label_at label_as =
      let stays : (r : K) → IsWay f' (first r) (way f n (first r)) =
      λ r. way_as f f' (first r) (way f n (first r)) (λ k t. f_as k (old_key q x h more within fresh label_at label_as r k (key_label r k h t))) (h.whole r) in
      changed q (x ∷ way f n (first q)) h
      (first_at, low, subst (λ z. IsWay f' z (way f n (first q))) (sym f_at) (stays q))
      (labels_here q x h more within fresh label_at label_as)
      (λ r e. subst (λ z. IsWay f' z (way f n (first r))) (sym (first_as r e)) (stays r))
      (labels_beside q x h more within fresh label_at label_as)
      (labels_below q x h more within fresh label_at label_as)

  -- a new key x is linked right behind p, a key of q
  pub put_behind_key : {f f' : ℕ → ℕ} {first first' : K → ℕ} {label label' : ℕ → Option K} {n n' : ℕ} (q : K) (x p : ℕ) → IsFamily same f first label n
      → n ≤ n' → x < n' → x < end → label x ≡ None → label p ≡ Some q
      → f' x ≡ f p → f' p ≡ x → ((k : ℕ) → k ≢ x → k ≢ p → f' k ≡ f k)
      → ((r : K) → first' r ≡ first r)
      → label' x ≡ Some q → ((k : ℕ) → k ≢ x → label' k ≡ label k)
      → IsChanged same f first n f' first' label' n' q (key_behind p x (way f n (first q)))
  put_behind_key {f} {f'} {first} {first'} {label} {label'} {n} {n'} q x p h more within low fresh of_p f_at f_p f_as first_as label_at label_as =
      changed q (key_behind p x (way f n (first q))) h
      (subst (λ z. IsWay f' z (key_behind p x (way f n (first q)))) (sym (first_as q))
      (way_put f f' (first q) p x (way f n (first q)) low f_at f_p f_as (h.whole q) (label_key q p h of_p) (h.exact q x ∙ ap (is_of same q) fresh)))
      (λ k. has_behind k p x (way f n (first q)) ∙ labels_here q x h more within fresh label_at label_as k)
      (λ r e. subst (λ z. IsWay f' z (way f n (first r))) (sym (first_as r))
      (way_as f f' (first r) (way f n (first r))
      (λ k t. let of_r : label k ≡ Some r = key_label r k h t in
      f_as k (old_key q x h more within fresh label_at label_as r k of_r) (beside r k e of_r)) (h.whole r)))
      (labels_beside q x h more within fresh label_at label_as)
      (labels_below q x h more within fresh label_at label_as)
    where
      -- a key of another list is not p
      beside : (r : K) (k : ℕ) → same r q ≡ false → label k ≡ Some r → k ≢ p
      beside r k e t u = true≢false (sym (own r) ∙ sym (ap (is_of same r) t) ∙ apart q r (label k) e (ap label u ∙ of_p))

  -- ---- one key less

  module _ {f : ℕ → ℕ} {first : K → ℕ} {label label' : ℕ → Option K} {n : ℕ} (q : K) (y : ℕ) (h : IsFamily same f first label n)
      (of_y : label y ≡ Some q) (label_at : label' y ≡ None) (label_as : (k : ℕ) → k ≢ y → label' k ≡ label k) where
    -- a key of another list is not a key of q
    other_key : (p r : K) (j k : ℕ) → same r p ≡ false → label j ≡ Some p → label k ≡ Some r → k ≢ j
    other_key p r j k e t u g = true≢false (sym (own r) ∙ sym (ap (is_of same r) u) ∙ apart p r (label k) e (ap label g ∙ t))

    left_below : (k : ℕ) (r : K) → label' k ≡ Some r → k < n
    left_below k r t =
        ⊎_elim (λ e. absurd (none_and_some (ap label' e ∙ label_at) t)) (λ e. h.below k r (sym (label_as k e) ∙ t)) (cases_eq k y)

    left_beside : (r : K) (k : ℕ) → same r q ≡ false → is_of same r (label k) ≡ is_of same r (label' k)
    left_beside r k e =
        ⊎_elim (λ t. ap (λ z. is_of same r (label z)) t ∙ apart q r (label y) e of_y ∙ sym (ap (λ z. is_of same r (label' z)) t ∙ ap (is_of same r) label_at))
        (λ t. ap (is_of same r) (sym (label_as k t))) (cases_eq k y)

    left_here : (k : ℕ) → has_key (filter (λ j. not (j == y)) (way f n (first q))) k ≡ is_of same q (label' k)
    left_here k =
        any_left (λ i j. i == j) Decides-eqb k y (way f n (first q))
        ∙ ⊎_elim (λ t. out (has_key (way f n (first q)) k) (k == y) ((Decides-eqb k y).1 t) ∙ sym (ap (λ z. is_of same q (label' z)) t ∙ ap (is_of same q) label_at))
        (λ t. and_kept (has_key (way f n (first q)) k) (k == y) (keys_differ k y t) ∙ h.exact q k ∙ ap (is_of same q) (sym (label_as k t))) (cases_eq k y)
      where
        out : (b c : Bool) → c ≡ true → (b && not c) ≡ false
        out true c e = ap not e
        out false c e = refl

  -- the first key y of q is taken out
  pub take_first : {f f' : ℕ → ℕ} {first first' : K → ℕ} {label label' : ℕ → Option K} {n : ℕ} (q : K) (y : ℕ) → IsFamily same f first label n
      → label y ≡ Some q → first q ≡ y
      → ((k : ℕ) → k ≢ y → f' k ≡ f k)
      → first' q ≡ f y → ((r : K) → same r q ≡ false → first' r ≡ first r)
      → label' y ≡ None → ((k : ℕ) → k ≢ y → label' k ≡ label k)
      → IsChanged same f first n f' first' label' n q (filter (λ k. not (k == y)) (way f n (first q)))
  take_first {f} {f'} {first} {first'} {label} {label'} {n} q y h of_y first_y f_as first_at first_as label_at label_as =
      let from_y = way_from q y h of_y in
      let rest : List ℕ = way f n (f y) in
      let parts : IsWay f y (y ∷ rest) = subst (IsWay f y) from_y.2 from_y.1 in
      let gone : has_key rest y ≡ false = way_ahead f y rest parts.2 in
      let left : filter (λ k. not (k == y)) (way f n (first q)) ≡ rest =
      ap (λ z. filter (λ k. not (k == y)) (way f n z)) first_y ∙ ap (filter (λ k. not (k == y))) from_y.2
      ∙ ap (λ b. cond (not b) (y ∷ filter (λ k. not (k == y)) rest) (filter (λ k. not (k == y)) rest)) (key_itself y) ∙ filter_absent y rest gone in
      changed q (filter (λ k. not (k == y)) (way f n (first q))) h
      (subst (IsWay f' (first' q)) (sym left)
      (subst (λ z. IsWay f' z rest) (sym first_at) (way_as f f' (f y) rest (λ k t. f_as k (in_one rest k y t gone)) parts.2)))
      (left_here q y h of_y label_at label_as)
      (λ r e. subst (λ z. IsWay f' z (way f n (first r))) (sym (first_as r e))
      (way_as f f' (first r) (way f n (first r)) (λ k t. f_as k (other_key q y h of_y label_at label_as q r y k e of_y (key_label r k h t))) (h.whole r)))
      (left_beside q y h of_y label_at label_as)
      (left_below q y h of_y label_at label_as)

  -- the key y, which is right behind p, is taken out of the list of q
  pub take_behind : {f f' : ℕ → ℕ} {first first' : K → ℕ} {label label' : ℕ → Option K} {n : ℕ} (q : K) (y p : ℕ) → IsFamily same f first label n
      → label y ≡ Some q → label p ≡ Some q → f p ≡ y
      → f' p ≡ f y → ((k : ℕ) → k ≢ y → k ≢ p → f' k ≡ f k)
      → ((r : K) → first' r ≡ first r)
      → label' y ≡ None → ((k : ℕ) → k ≢ y → label' k ≡ label k)
      → IsChanged same f first n f' first' label' n q (filter (λ k. not (k == y)) (way f n (first q)))
  take_behind {f} {f'} {first} {first'} {label} {label'} {n} q y p h of_y of_p f_p f_at f_as first_as label_at label_as =
      let from_y = way_from q y h of_y in
      changed q (filter (λ k. not (k == y)) (way f n (first q))) h
      (subst (λ z. IsWay f' z (filter (λ k. not (k == y)) (way f n (first q)))) (sym (first_as q))
      (way_taken f f' (first q) p y (way f n (first q)) from_y.0 f_p f_at f_as (h.whole q) (label_key q p h of_p)))
      (left_here q y h of_y label_at label_as)
      (λ r e. subst (λ z. IsWay f' z (way f n (first r))) (sym (first_as r))
      (way_as f f' (first r) (way f n (first r))
      (λ k t. let of_r : label k ≡ Some r = key_label r k h t in
      f_as k (other_key q y h of_y label_at label_as q r y k e of_y of_r) (other_key q y h of_y label_at label_as q r p k e of_p of_r)) (h.whole r)))
      (left_beside q y h of_y label_at label_as)
      (left_below q y h of_y label_at label_as)
