-- Histories: prefixes of one list, and the entries that name a number.
use Rattle.std.proofs.Common.{◌≡◌, ◌≢◌, ℕ, suc, ◌+◌, ◌<◌, ◌≤◌, eqb, ltb, Bool, true, false, cond}
use Rattle.std.proofs.Common.{◌⊎◌, inl, inr, ⊎_elim, List, [], ◌∷◌, ◌++◌, length, drop, sym, refl}
use Rattle.std.proofs.Common.{ap, ◌∙◌, subst, arith, append_assoc, append-nil, length-append}
use Rattle.std.proofs.Common.{eq-eqb, ne_eqb, ltb-true, ltb-false}
use Rattle.std.proofs.lemmas.List.{nil_from_length}
use Rattle.std.proofs.lemmas.List.Elements.{filter-append}
use mathlib.Core.Option.{some}
use Rattle.atomic_table.proofs.Lists.{at_snoc}
use lib.ListN.{get_elem?}
use lib.Seq.{drop-append_seam, drop-length}
use Rattle.turn_lock.specs.History.{IsPrefix, calls, longer, GrowsBy}

module _ {A : Type 0} where
  pub prefix_nil : (xs : List A) → IsPrefix [] xs
  prefix_nil xs = (xs, refl)

  pub prefix_self : (xs : List A) → IsPrefix xs xs
  prefix_self xs = ([], sym (append-nil xs))

  pub prefix_more : (xs ys zs : List A) → IsPrefix xs ys → IsPrefix xs (ys ++ zs)
  prefix_more xs ys zs h = (h.0 ++ zs, ap (λ (l : List A). l ++ zs) h.1 ∙ append_assoc xs h.0 zs)

  pub prefix_trans : (xs ys zs : List A) → IsPrefix xs ys → IsPrefix ys zs → IsPrefix xs zs
  prefix_trans xs ys zs h k = subst (IsPrefix xs) (sym k.1) (prefix_more xs ys k.0 h)

  overlap : (xs r ys r' : List A) → xs ++ r ≡ ys ++ r' → length xs ≤ length ys → IsPrefix xs ys
  overlap [] r ys r' e h = (ys, refl)
  overlap (x ∷ xs) r [] r' e h = absurd (omega arith)
  overlap (x ∷ xs) r (y ∷ ys) r' e h =
      let heads : x ≡ y = cc in
      let tails : xs ++ r ≡ ys ++ r' = cc in
      let t : IsPrefix xs ys = overlap xs r ys r' tails (omega arith) in
      (t.0, λ i. sym heads i ∷ t.1 i)

  -- of two prefixes of one list, the longer one begins with the other
  pub prefix_between : (xs ys zs : List A) → IsPrefix xs zs → IsPrefix ys zs → length xs ≤ length ys → IsPrefix xs ys
  prefix_between xs ys zs h k l = overlap xs h.0 ys k.0 (sym h.1 ∙ k.1) l

  pub longer_within : (xs ys zs : List A) → IsPrefix xs zs → IsPrefix ys zs → IsPrefix (longer xs ys) zs
  longer_within xs ys zs h k =
      elim (ltb (length xs) (length ys)) as (λ b. IsPrefix (cond b ys xs) zs)
      [ true ↦ k | false ↦ h ]

  -- the longer of two prefixes of one list begins with both
  pub longer_begins : (xs ys zs : List A) → IsPrefix xs zs → IsPrefix ys zs
      → IsPrefix xs (longer xs ys) × IsPrefix ys (longer xs ys)
  longer_begins xs ys zs h k = go (ltb (length xs) (length ys)) refl
    where
      go : (b : Bool) → ltb (length xs) (length ys) ≡ b → IsPrefix xs (cond b ys xs) × IsPrefix ys (cond b ys xs)
      go true e = let less : length xs < length ys = ltb-true (length xs) (length ys) e in
          (prefix_between xs ys zs h k (omega arith), prefix_self ys)
      go false e = (prefix_self xs, prefix_between ys xs zs k h (ltb-false (length xs) (length ys) e))

module _ {E : Type 0} (author : E → ℕ) where
  pub calls-append : (n : ℕ) (xs ys : List E) → calls author n (xs ++ ys) ≡ calls author n xs ++ calls author n ys
  calls-append n xs ys = filter-append (λ (e : E). eqb (author e) n) xs ys

  pub calls_own : (n : ℕ) (e : E) → author e ≡ n → calls author n (e ∷ []) ≡ e ∷ []
  calls_own n e h = ap (λ (b : Bool). cond b (e ∷ []) []) (eq-eqb (author e) n h)

  pub calls_else : (n : ℕ) (e : E) → author e ≢ n → calls author n (e ∷ []) ≡ []
  calls_else n e h = ap (λ (b : Bool). cond b (e ∷ []) []) (ne_eqb (author e) n h)

  -- a number that no entry names has no calls
  pub calls_none : (n : ℕ) (es : List E)
      → ((k : ℕ) (e : E) → get_elem? es k ≡ some e → author e ≢ n) → calls author n es ≡ []
  calls_none n [] h = refl
  calls_none n (e ∷ es) h =
      ap (λ (b : Bool). cond b (e ∷ calls author n es) (calls author n es)) (ne_eqb (author e) n (h 0 e refl))
      ∙ calls_none n es (λ k. h (suc k))

  -- a list between two with the same calls has these calls
  pub calls_between : (n : ℕ) (xs ys zs : List E) → IsPrefix xs ys → IsPrefix ys zs
      → calls author n xs ≡ calls author n zs → calls author n ys ≡ calls author n xs
  calls_between n xs ys zs h k same =
      let split : calls author n ys ≡ calls author n xs ++ calls author n h.0 =
      ap (calls author n) h.1 ∙ calls-append n xs h.0 in
      let split' : calls author n zs ≡ calls author n ys ++ calls author n k.0 =
      ap (calls author n) k.1 ∙ calls-append n ys k.0 in
      let size = ap (length {A = E}) split ∙ length-append (calls author n xs) (calls author n h.0) in
      let size' = ap (length {A = E}) split' ∙ length-append (calls author n ys) (calls author n k.0) in
      let size'' = ap (length {A = E}) same in
      let none : calls author n h.0 ≡ [] = nil_from_length (calls author n h.0) (omega arith) in
      split ∙ (ap (λ (l : List E). calls author n xs ++ l) none ∙ append-nil (calls author n xs))

-- what a mark does to a history: so many entries more, each of them of the number n
pub record Grown {E : Type 0} (author : E → ℕ) (n : ℕ) (up : Bool) (old new : List E) : Type 0 where
  pub longer_by : length new ≡ length old + cond up 1 0
  pub begins : IsPrefix old new
  pub own : calls author n new ≡ calls author n old ++ drop (length old) new
  pub others : (i : ℕ) → i ≢ n → calls author i new ≡ calls author i old
  pub names : (k : ℕ) (e : E) → get_elem? new k ≡ some e → (get_elem? old k ≡ some e) ⊎ (author e ≡ n)

pub grown : {E : Type 0} (author : E → ℕ) (n : ℕ) (up : Bool) (old new : List E)
    → GrowsBy author n up old new → Grown author n up old new
grown {E} author n true old new g =
    let e : E = g.0 in
    let last : drop (length old) new ≡ e ∷ [] = ap (drop (length old)) g.1 ∙ drop-append_seam old (e ∷ []) in
    record {
      longer_by = ap (length {A = E}) g.1 ∙ length-append old (e ∷ []);
      begins = (e ∷ [], g.1);
      own = ap (calls author n) g.1 ∙ (calls-append author n old (e ∷ [])
          ∙ ap (λ (l : List E). calls author n old ++ l) (calls_own author n e g.2 ∙ sym last));
      others = λ i other. ap (calls author i) g.1 ∙ (calls-append author i old (e ∷ [])
          ∙ (ap (λ (l : List E). calls author i old ++ l) (calls_else author i e
          (λ q. other (sym q ∙ g.2))) ∙ append-nil (calls author i old)));
      names = λ k e' h. ⊎_elim (λ q. inl q) (λ q. inr (ap author (sym q) ∙ g.2))
          (at_snoc old e e' k (ap (λ (l : List E). get_elem? l k) (sym g.1) ∙ h));
    }
grown {E} author n false old new g =
    let none : drop (length old) new ≡ [] = ap (drop (length old)) g ∙ drop-length old in
    record {
      longer_by = let same = ap (length {A = E}) g in omega arith;
      begins = ([], g ∙ sym (append-nil old));
      own = ap (calls author n) g ∙ (sym (append-nil (calls author n old))
          ∙ ap (λ (l : List E). calls author n old ++ l) (sym none));
      others = λ i _. ap (calls author i) g;
      names = λ k e h. inl (ap (λ (l : List E). get_elem? l k) (sym g) ∙ h);
    }
