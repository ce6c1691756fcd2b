-- A key put at a place of a family's list, or the key at a place taken out, by the links that were set:
-- behind `before` comes another key, or the list begins with it. The cases of the place are those of
-- the laws of a family.
use Rattle.std.proofs.Common.{◌≡◌, ◌≢◌, ap, sym, ◌∙◌, subst, ℕ, suc, ◌<◌, ◌≤◌, arith, Bool, true, false, not, cond, ◌&&◌, true≢false, List, ◌∷◌, length, Option, None, Some}
use Rattle.std.specs.Prelude.{◌==◌, filter, is_some}
use Rattle.std.specs.Bool.{Decides}
use Rattle.pass_links.specs.Chain.{end, way, key_behind, has_key, is_of, IsFamily, listed, IsPlace}
use Rattle.pass_links.specs.Links.{is_key, HasHeadRoom, KeepsHeadRoom}
use Rattle.pass_links.proofs.FamilyLaws.{IsChanged, way_from, put_first, put_behind_key, take_first, take_behind}
use Rattle.pass_links.proofs.ListedLaws.{listed_as}
use Rattle.grid_core.proofs.Comparisons.{itself}
use Rattle.pass_links.proofs.KeyLaws.{key_itself, keys_differ}

-- the key x at a place of a list: behind that key, or first
abbrev pub put_key : Option ℕ → ℕ → List ℕ → List ℕ
put_key None x ks = x ∷ ks
put_key (Some p) x ks = key_behind p x ks

-- `next` has come behind `before`, or first, in the list of q
pub record IsPointed {K : Type 0} (same : K → K → Bool) (f : ℕ → ℕ) (first : K → ℕ) (f' : ℕ → ℕ) (first' : K → ℕ) (x : ℕ) (before : Option ℕ) (q : K) (next : ℕ) : Type 0 where
  pub links : (k : ℕ) → k ≢ x → f' k ≡ cond (is_key before k) next (f k)
  pub starts : (r : K) → first' r ≡ cond (not (is_some before) && same r q) next (first r)

module _ {K : Type 0} (same : K → K → Bool) (decides : (a b : K) → Decides (same a b) (a ≡ b)) where
  -- a key with a label isn't one without
  pub labelled : (label : ℕ → Option K) (q : K) (p x : ℕ) → label p ≡ Some q → label x ≡ None → p ≢ x
  labelled label q p x e n h = cc (ap label h)

  pub place_put : {f f' : ℕ → ℕ} {first first' : K → ℕ} {label label' : ℕ → Option K} (q : K) (before : Option ℕ) (at x : ℕ) → IsFamily same f first label end
      → IsPlace f first label q before at → x < end → label x ≡ None → f' x ≡ at → IsPointed same f first f' first' x before q x
      → label' x ≡ Some q → ((k : ℕ) → k ≢ x → label' k ≡ label k)
      → IsChanged same f first end f' first' label' end q (put_key before x (way f end (first q)))
  place_put {f} {f'} {first} {first'} q None at x h place low fresh f_at set label_at label_as =
      put_first same decides q x h (omega arith) low low fresh (f_at ∙ sym place) (λ k apart. set.links k apart)
      (set.starts q ∙ ap (λ b. cond b x (first q)) (itself same decides q)) (λ r e. set.starts r ∙ ap (λ b. cond b x (first r)) e) label_at label_as
  place_put {f} {f'} {first} {first'} {label} q (Some p) at x h place low fresh f_at set label_at label_as =
      put_behind_key same decides q x p h (omega arith) low low fresh place.0 (f_at ∙ sym place.1)
      (set.links p (labelled label q p x place.0 fresh) ∙ ap (λ b. cond b x (f p)) (key_itself p))
      (λ k apart other. set.links k apart ∙ ap (λ b. cond b x (f k)) (keys_differ k p other))
      set.starts label_at label_as

  -- no key comes behind itself
  pub behind_other : {f : ℕ → ℕ} {first : K → ℕ} {label : ℕ → Option K} (q : K) (p y : ℕ) → IsFamily same f first label end
      → label p ≡ Some q → f p ≡ y → p ≢ y
  behind_other {f} q p y h of_p f_p e =
      let w = way_from same decides q p h of_p in
      let longer : length (way f end p) ≡ suc (length (way f end (f p))) = ap length w.2 in
      let back : length (way f end (f p)) ≡ length (way f end p) = ap (λ k. length (way f end k)) (f_p ∙ sym e) in
      omega arith

  pub place_taken : {f f' : ℕ → ℕ} {first first' : K → ℕ} {label label' : ℕ → Option K} (q : K) (before : Option ℕ) (y : ℕ) → IsFamily same f first label end
      → IsPlace f first label q before y → label y ≡ Some q → IsPointed same f first f' first' y before q (f y)
      → label' y ≡ None → ((k : ℕ) → k ≢ y → label' k ≡ label k)
      → IsChanged same f first end f' first' label' end q (filter (λ k. not (k == y)) (way f end (first q)))
  place_taken {f} {f'} {first} {first'} q None y h place of_y set label_at label_as =
      take_first same decides q y h of_y place (λ k apart. set.links k apart)
      (set.starts q ∙ ap (λ b. cond b (f y) (first q)) (itself same decides q)) (λ r e. set.starts r ∙ ap (λ b. cond b (f y) (first r)) e) label_at label_as
  place_taken {f} {f'} {first} {first'} q (Some p) y h place of_y set label_at label_as =
      take_behind same decides q y p h of_y place.0 place.1
      (set.links p (behind_other q p y h place.0 place.1) ∙ ap (λ b. cond b (f y) (f p)) (key_itself p))
      (λ k apart other. set.links k apart ∙ ap (λ b. cond b (f y) (f k)) (keys_differ k p other))
      set.starts label_at label_as

  -- a key that isn't of the label isn't in its list
  not_in : (f : ℕ → ℕ) (first : K → ℕ) (label : ℕ → Option K) (r : K) (x : ℕ) → IsFamily same f first label end → is_of same r (label x) ≡ false
      → (k : ℕ) → has_key (way f end (first r)) k ≡ true → k ≢ x
  not_in f first label r x h apart k has e =
      true≢false (sym has ∙ ap (has_key (way f end (first r))) e ∙ h.exact r x ∙ apart)

  -- a list without the key x has the values that it had
  pub values_kept : {V : Type 0} (f : ℕ → ℕ) (first : K → ℕ) (label : ℕ → Option K) (v v' : ℕ → Option V) (r : K) (x : ℕ) → IsFamily same f first label end
      → is_of same r (label x) ≡ false → ((k : ℕ) → k ≢ x → v' k ≡ v k) → listed v' (way f end (first r)) ≡ listed v (way f end (first r))
  values_kept f first label v v' r x h apart kept = listed_as v v' (way f end (first r)) (λ k has. kept k (not_in f first label r x h apart k has))

  -- the key before a place is in the list
  pub before_in : (f : ℕ → ℕ) (first : K → ℕ) (label : ℕ → Option K) (q : K) (p : ℕ) → IsFamily same f first label end → label p ≡ Some q
      → has_key (way f end (first q)) p ≡ true
  before_in f first label q p h e = h.exact q p ∙ ap (is_of same q) e ∙ itself same decides q

  -- the key before the place of y is another
  pub before_other : (f : ℕ → ℕ) (first : K → ℕ) (label : ℕ → Option K) (q : K) (before : Option ℕ) (y : ℕ) → IsFamily same f first label end
      → IsPlace f first label q before y → (p : ℕ) → before ≡ Some p → p ≢ y
  before_other f first label q before y h place p e =
      let there = subst (λ b. IsPlace f first label q b y) e place in
      behind_other q p y h there.0 there.1

-- ---- room for heads

-- the list of a stored key has a head already
pub head_stored : {K : Type 0} (f : ℕ → ℕ) (first : K → ℕ) (label : ℕ → Option K) (q : K) (before : Option ℕ) (y : ℕ) → IsPlace f first label q before y → y < end
    → (len capacity : ℕ) → HasHeadRoom before (first q) len capacity
head_stored f first label q None y place low len capacity = λ e. absurd (omega (arith, place, e, low))
head_stored f first label q (Some p) y place low len capacity = tt

-- and so no head comes to it
pub head_kept : {K : Type 0} (f : ℕ → ℕ) (first : K → ℕ) (label : ℕ → Option K) (q : K) (before : Option ℕ) (y : ℕ) → IsPlace f first label q before y → y < end
    → (old new : ℕ) → KeepsHeadRoom before (first q) old new → new ≤ old
head_kept f first label q None y place low old new kept = kept.1 (λ e. omega (arith, place, e, low))
head_kept f first label q (Some p) y place low old new kept = kept
