-- The links back stay those of the links forward when a key is put into a list and when one is taken out:
-- a place whose two sides were not set is as it was, and the sides that were set are the new places.
use Rattle.std.proofs.Common.{◌≡◌, ◌≢◌, refl, ap, sym, ◌∙◌, subst, ℕ, ◌<◌, arith, Bool, true, false, true≢false, cond, Option, None, Some, ⊎_elim}
use Rattle.std.specs.Prelude.{◌==◌, IfSome}
use Rattle.std.specs.Bool.{Decides}
use Rattle.std.proofs.lemmas.Bool.{cases_eq, false_from_ne_true}
use Rattle.std.proofs.lemmas.Bool.Decides.{Decides-eqb}
use Rattle.std.proofs.lemmas.Option.{none-some, same_Some}
use Rattle.pass_links.specs.Chain.{end, way, has_key, is_of, IsFamily, IsPlace, key_of, link_to, LinksBack}
use Rattle.pass_links.proofs.ChainLaws.{way_end}
use Rattle.pass_links.proofs.FamilyLaws.{next_stored}
use Rattle.pass_links.proofs.PlaceLaws.{IsPointed, labelled, before_other}
use Rattle.pass_links.proofs.WalkLaws.{place_stored, ended}
use Rattle.grid_core.proofs.Comparisons.{itself}
use Rattle.pass_links.proofs.KeyLaws.{key_itself, keys_differ}

-- ---- links and keys

-- a key that is not the end is the key of its link
key_of_key : (k : ℕ) → k ≢ end → key_of k ≡ Some k
key_of_key k apart = ap (λ b. cond b None (Some k)) (keys_differ k end apart)

-- a link leads to the end, or to a key
pub at_stored : (P : ℕ → Type 0) (at : ℕ) → (at ≢ end → P at) → IfSome (key_of at) P
at_stored P at h =
    ⊎_elim (λ e. subst (λ k. IfSome (key_of k) P) (sym e) tt) (λ apart. subst (λ o. IfSome o P) (sym (key_of_key at apart)) (h apart)) (cases_eq at end)

-- the key k has `previous` before it now, and other keys have before them what they had; but for x
abbrev pub IsPointedBack : (ℕ → ℕ) → (ℕ → ℕ) → ℕ → ℕ → ℕ → Type 0
IsPointedBack back back' x at previous = (k : ℕ) → k ≢ x → k ≢ end → back' k ≡ cond (k == at) previous (back k)

-- the links back in all lists but that of q
abbrev pub LinksBackBut : {K : Type 0} → (K → K → Bool) → K → (ℕ → ℕ) → (K → ℕ) → (ℕ → Option K) → (ℕ → ℕ) → Type 0
LinksBackBut {K} same q f first label back = (k : ℕ) (r : K) → same r q ≡ false → label k ≡ Some r → IsPlace f first label r (key_of (back k)) k

module _ {K : Type 0} (same : K → K → Bool) (decides : (a b : K) → Decides (same a b) (a ≡ b)) where
  -- the link to what is before a place leads there
  pub place_link : {f : ℕ → ℕ} {first : K → ℕ} {label : ℕ → Option K} (q : K) (before : Option ℕ) (at : ℕ) → IsFamily same f first label end
      → IsPlace f first label q before at → key_of (link_to before) ≡ before
  place_link q None at h place = refl
  place_link q (Some p) at h place = key_of_key p (λ e. omega (arith, e, h.below p q place.0))

  module _ {f f' : ℕ → ℕ} {first first' : K → ℕ} {label label' : ℕ → Option K} (q : K) (before : Option ℕ) (x next t : ℕ)
      (place : IsPlace f first label q before t) (set : IsPointed same f first f' first' x before q next)
      (kept : (k : ℕ) → k ≢ x → label' k ≡ label k) where
    -- what has come behind `before`, or first, has its place there
    place_set : ((p : ℕ) → before ≡ Some p → p ≢ x) → IsPlace f' first' label' q before next
    place_set = by before place set
      where
        by : (o : Option ℕ) → IsPlace f first label q o t → IsPointed same f first f' first' x o q next → ((p : ℕ) → o ≡ Some p → p ≢ x)
            → IsPlace f' first' label' q o next
        by None place set other = set.starts q ∙ ap (λ b. cond b next (first q)) (itself same decides q)
        by (Some p) place set other =
            (kept p (other p refl) ∙ place.0, set.links p (other p refl) ∙ ap (λ b. cond b next (f p)) (key_itself p))

    -- any other place is as it was
    place_kept : (r : K) (o : Option ℕ) (k : ℕ) → k ≢ t → IsPlace f first label r o k → ((p : ℕ) → o ≡ Some p → p ≢ x) → IsPlace f' first' label' r o k
    place_kept r o k apart = by before place set o
      where
        -- the place is in another list
        elsewhere : IsPlace f first label q None t → IsPlace f first label r None k → same r q ≡ false
        elsewhere place there = false_from_ne_true (same r q) (λ e. apart (sym there ∙ ap first ((decides r q).0 e) ∙ place))

        by : (b : Option ℕ) → IsPlace f first label q b t → IsPointed same f first f' first' x b q next → (o : Option ℕ) → IsPlace f first label r o k
            → ((p : ℕ) → o ≡ Some p → p ≢ x) → IsPlace f' first' label' r o k
        by None place set None there other = set.starts r ∙ ap (λ b. cond b next (first r)) (elsewhere place there) ∙ there
        by (Some p) place set None there other = set.starts r ∙ there
        by None place set (Some o) there other = (kept o (other o refl) ∙ there.0, set.links o (other o refl) ∙ there.1)
        by (Some p) place set (Some o) there other = (
          kept o (other o refl) ∙ there.0,
          set.links o (other o refl)
              ∙ ap (λ b. cond b next (f o)) (keys_differ o p (λ e. apart (sym there.1 ∙ ap f e ∙ place.1)))
              ∙ there.1,
        )

  -- a key has one label
  one_label : (label : ℕ → Option K) (q r : K) (j k : ℕ) → label j ≡ Some q → label k ≡ Some r → j ≡ k → q ≡ r
  one_label label q r j k of_q of_r e = same_Some q r (sym of_q ∙ ap label e ∙ of_r)

  -- one place, told by other words
  place_as : (f : ℕ → ℕ) (first : K → ℕ) (label : ℕ → Option K) {q r : K} {before o : Option ℕ} {at k : ℕ}
      → q ≡ r → before ≡ o → at ≡ k → IsPlace f first label q before at → IsPlace f first label r o k
  place_as f first label e b a place = subst (λ z. z) (λ i. IsPlace f first label (e i) (b i) (a i)) place

  -- the new key x is put at a place
  pub back_put : {f f' : ℕ → ℕ} {first first' : K → ℕ} {label label' : ℕ → Option K} (back back' : ℕ → ℕ) (q : K) (before : Option ℕ) (at x previous : ℕ)
      → IsFamily same f first label end → LinksBack f first label back → IsPlace f first label q before at → x < end → label x ≡ None
      → f' x ≡ at → key_of previous ≡ before → back' x ≡ previous → IsPointed same f first f' first' x before q x → IsPointedBack back back' x at x
      → label' x ≡ Some q → ((k : ℕ) → k ≢ x → label' k ≡ label k) → LinksBack f' first' label' back'
  back_put {f} {f'} {first} {first'} {label} {label'} back back' q before at x previous h backs place low fresh f_at at_before back_at set set_back label_at label_as k r of_r =
      ⊎_elim new old (cases_eq k x)
    where
      -- what stands before a place is not x
      other : (s : K) (o : Option ℕ) (j : ℕ) → IsPlace f first label s o j → (p : ℕ) → o ≡ Some p → p ≢ x
      other s o j there p e = labelled same decides label s p x (subst (λ b. IsPlace f first label s b j) e there).0 fresh

      new : k ≡ x → IsPlace f' first' label' r (key_of (back' k)) k
      new e =
          place_as f' first' label' (one_label label' q r x k label_at of_r (sym e)) (sym (ap (λ j. key_of (back' j)) e ∙ ap key_of back_at ∙ at_before)) (sym e)
          (place_set q before x x at place set label_as (other q before at place))

      old : k ≢ x → IsPlace f' first' label' r (key_of (back' k)) k
      old apart = ⊎_elim behind kept (cases_eq k at)
        where
          of_k : label k ≡ Some r
          of_k = sym (label_as k apart) ∙ of_r

          no_end : k ≢ end
          no_end e = omega (arith, e, h.below k r of_k)

          behind : k ≡ at → IsPlace f' first' label' r (key_of (back' k)) k
          behind e =
              let of_at : label at ≡ Some q = place_stored same decides q before at h place (λ t. no_end (e ∙ t)) in
              let is_x : back' k ≡ x = set_back k apart no_end ∙ ap (λ b. cond b x (back k)) ((Decides-eqb k at).1 e) in
              subst (λ b. IsPlace f' first' label' r b k) (sym (ap key_of is_x ∙ key_of_key x (λ t. omega (arith, t, low))))
              (label_at ∙ ap Some (one_label label q r at k of_at of_k (sym e)), f_at ∙ sym e)

          kept : k ≢ at → IsPlace f' first' label' r (key_of (back' k)) k
          kept e =
              let is_old : back' k ≡ back k = set_back k apart no_end ∙ ap (λ b. cond b x (back k)) (keys_differ k at e) in
              subst (λ j. IsPlace f' first' label' r (key_of j) k) (sym is_old)
              (place_kept q before x x at place set label_as r (key_of (back k)) k e (backs k r of_k) (other r (key_of (back k)) k (backs k r of_k)))

  -- the key y is taken out of its place
  pub back_taken : {f f' : ℕ → ℕ} {first first' : K → ℕ} {label label' : ℕ → Option K} (back back' : ℕ → ℕ) (q : K) (before : Option ℕ) (y previous : ℕ)
      → IsFamily same f first label end → LinksBack f first label back → IsPlace f first label q before y → label y ≡ Some q
      → key_of previous ≡ before → IsPointed same f first f' first' y before q (f y) → IsPointedBack back back' y (f y) previous
      → label' y ≡ None → ((k : ℕ) → k ≢ y → label' k ≡ label k) → LinksBack f' first' label' back'
  back_taken {f} {f'} {first} {first'} {label} {label'} back back' q before y previous h backs place of_y at_before set set_back label_at label_as k r of_r =
      ⊎_elim behind kept (cases_eq k (f y))
    where
      apart : k ≢ y
      apart e = none-some r (sym label_at ∙ ap label' (sym e) ∙ of_r)

      of_k : label k ≡ Some r
      of_k = sym (label_as k apart) ∙ of_r

      no_end : k ≢ end
      no_end e = omega (arith, e, h.below k r of_k)

      behind : k ≡ f y → IsPlace f' first' label' r (key_of (back' k)) k
      behind e =
          let of_next : label (f y) ≡ Some q = ended same decides (f y) (f y) refl (λ t. no_end (e ∙ t)) (next_stored same decides q y h of_y) in
          let is_previous : back' k ≡ previous = set_back k apart no_end ∙ ap (λ b. cond b previous (back k)) ((Decides-eqb k (f y)).1 e) in
          place_as f' first' label' (one_label label q r (f y) k of_next of_k (sym e)) (sym (ap key_of is_previous ∙ at_before)) (sym e)
          (place_set q before y (f y) y place set label_as (before_other same decides f first label q before y h place))

      kept : k ≢ f y → IsPlace f' first' label' r (key_of (back' k)) k
      kept e =
          let is_old : back' k ≡ back k = set_back k apart no_end ∙ ap (λ b. cond b previous (back k)) (keys_differ k (f y) e) in
          subst (λ j. IsPlace f' first' label' r (key_of j) k) (sym is_old)
          (place_kept q before y (f y) y place set label_as r (key_of (back k)) k apart (backs k r of_k)
          (λ p t same_y. e (sym (subst (λ b. IsPlace f first label r b k) t (backs k r of_k)).1 ∙ ap f same_y)))

  -- the key y of q is gone, and in the other lists nothing was set
  pub back_beside : {f f' : ℕ → ℕ} (first : K → ℕ) {label label' : ℕ → Option K} (back back' : ℕ → ℕ) (q : K) (y : ℕ) → LinksBackBut same q f first label back
      → label y ≡ Some q → label' y ≡ None → ((k : ℕ) → k ≢ y → f' k ≡ f k) → ((k : ℕ) → k ≢ y → back' k ≡ back k) → ((k : ℕ) → k ≢ y → label' k ≡ label k)
      → LinksBackBut same q f' first label' back'
  back_beside {f} {f'} first {label} {label'} back back' q y backs of_y label_at f_as back_as label_as k r apart of_r =
      by (key_of (back' k)) (subst (λ j. IsPlace f first label r (key_of j) k) (sym (back_as k gone)) (backs k r apart (sym (label_as k gone) ∙ of_r)))
    where
      gone : k ≢ y
      gone e = none-some r (sym label_at ∙ ap label' (sym e) ∙ of_r)

      -- a key of another list is not y
      other : (p : ℕ) → label p ≡ Some r → p ≢ y
      other p of_p e = true≢false (sym ((decides r q).1 (one_label label r q p y of_p of_y e)) ∙ apart)

      by : (o : Option ℕ) → IsPlace f first label r o k → IsPlace f' first label' r o k
      by None there = there
      by (Some p) there = (label_as p (other p there.0) ∙ there.0, f_as p (other p there.0) ∙ there.1)

  -- the list of q is empty
  pub back_all : {f : ℕ → ℕ} {first first' : K → ℕ} {label : ℕ → Option K} (back : ℕ → ℕ) (q : K) → LinksBackBut same q f first label back
      → IsFamily same f first' label end → first' q ≡ end → ((r : K) → same r q ≡ false → first' r ≡ first r) → LinksBack f first' label back
  back_all {f} {first} {first'} {label} back q backs h none starts k r of_r = by (same r q) refl
    where
      there : (o : Option ℕ) → first' r ≡ first r → IsPlace f first label r o k → IsPlace f first' label r o k
      there None e place = e ∙ place
      there (Some p) e place = place

      by : (b : Bool) → same r q ≡ b → IsPlace f first' label r (key_of (back k)) k
      by true e =
          absurd (true≢false
          (sym (itself same decides q) ∙ ap (same q) (sym ((decides r q).0 e)) ∙ ap (is_of same q) (sym of_r) ∙ sym (h.exact q k)
          ∙ ap (λ j. has_key (way f end j) k) none ∙ ap (λ ks. has_key ks k) (way_end f end)))
      by false e = there (key_of (back k)) (starts r e) (backs k r e of_r)
