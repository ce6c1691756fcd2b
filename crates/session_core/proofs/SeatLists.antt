-- Lists of seats: a seat put in place of another, and seats that hold what they held.
use Rattle.std.proofs.Common.{◌≡◌, ◌≢◌, refl, sym, ap, subst, ◌∙◌, arith, ℕ, zero, suc, ◌<◌, ◌≤◌, ◌⊎◌, inl, inr, true≢false, is_some, false, is_err, OnOk, OnErr, Result, Ok, Err, List, [], ◌∷◌, length, set, get_or, get_or-set_same, get_or-set_other, Some}
use Rattle.std.specs.Prelude.{unwrap_or}
use Rattle.std.proofs.lemmas.List.{length-set}
use Rattle.book_core.specs.Book.{BookState}
use Rattle.session_core.specs.declared.seat.Held.{Held}
use Rattle.session_core.specs.declared.seat.Held.TheVariants.{Newest, Older}
use Rattle.session_core.specs.declared.seat.Seat.{Seat}
use Rattle.session_core.specs.World.{held_version, shared_version, new_seat, IsShare, IsAlike, AreShares, AreAlike, AreKept}

pub same_or_not : (i j : ℕ) → (i ≡ j) ⊎ (i ≢ j)
same_or_not zero zero = inl refl
same_or_not zero (suc j) = inr (λ e. omega (arith, e))
same_or_not (suc i) zero = inr (λ e. omega (arith, e))
same_or_not (suc i) (suc j) = elim (same_or_not i j) [ inl e ↦ inl (ap suc e) | inr ne ↦ inr (λ e. ne (omega (arith, e))) ]

-- what a seat with a share holds is what it held
pub share_alike : (b : BookState) (s t : Seat) → IsShare b s t → IsAlike b s t
share_alike b s t share =
    record { held = by t.held share.held; prepared = share.prepared; serial = share.serial }
  where
    by : (h : Held) → shared_version h ≡ Some (held_version b s.held) → held_version b h ≡ held_version b s.held
    by Newest e = absurd (true≢false (sym (ap is_some e)))
    by (Older v) e = ap (λ o. unwrap_or o b.version) e

pub alike_same : (b : BookState) (s t : Seat) → t ≡ s → IsAlike b s t
alike_same b s t e =
    record { held = ap (λ (u : Seat). held_version b u.held) e; prepared = ap (λ (u : Seat). u.prepared) e; serial = ap (λ (u : Seat). u.serial) e }

-- the first n seats have shares, and the others are as before
pub record FirstShare (b : BookState) (n : ℕ) (old new : List Seat) : Type 0 where
  pub all : length new ≡ length old
  pub done : (i : ℕ) → i < n → IsShare b (get_or old i new_seat) (get_or new i new_seat)
  pub rest : (i : ℕ) → n ≤ i → get_or new i new_seat ≡ get_or old i new_seat

-- ---- an editor's own seat

-- the editor's own seat goes back to the newest version
pub own_newest : (b : BookState) (own : ℕ) (old mid : List Seat) (t : Seat) → own < length old → AreShares b old mid
    → t ≡ get_or old own new_seat → AreKept b own old (set mid own t)
own_newest b own old mid t fits shares e =
    let all = shares.all in
    record {
      all = length-set mid own t ∙ all;
      others = λ i h ne. subst (λ u. IsShare b (get_or old i new_seat) u) (sym (get_or-set_other mid own i t new_seat ne)) (shares.each i h);
      same = get_or-set_same mid own t new_seat (omega (arith, all, fits)) ∙ e;
    }

-- and so each still holds what it held
pub kept_alike : (b : BookState) (own : ℕ) (old new : List Seat) → AreKept b own old new → AreAlike b old new
kept_alike b own old new kept = record { all = kept.all; each = λ i h. by i h (same_or_not i own) }
  where
    by : (i : ℕ) → i < length old → (i ≡ own) ⊎ (i ≢ own) → IsAlike b (get_or old i new_seat) (get_or new i new_seat)
    by i h (inl e) = alike_same b _ _ (subst (λ k. get_or new k new_seat ≡ get_or old k new_seat) (sym e) kept.same)
    by i h (inr ne) = share_alike b _ _ (kept.others i h ne)

-- what a list has at a place that it has is the same whatever is had elsewhere
pub any_default : (seats : List Seat) (i : ℕ) (d e : Seat) → i < length seats → get_or seats i d ≡ get_or seats i e
any_default [] i d e fits = absurd (omega (arith, fits))
any_default (s ∷ seats) zero d e fits = refl
any_default (s ∷ seats) (suc i) d e fits = any_default seats i d e (omega (arith, fits))

-- the seat of an editor who held the newest version does so again
pub own_alike : (b : BookState) (own : ℕ) (old mid : List Seat) (d : Seat) → own < length old → (get_or old own new_seat).held ≡ Newest
    → AreShares b old mid → AreAlike b old (set mid own (record (get_or mid own d) { held = Newest }))
own_alike b own old mid d fits newest shares =
    kept_alike b own old _ (own_newest b own old mid _ fits shares
    (λ i. record { held = sym newest i; prepared = prepared i; serial = serial i }))
  where
    within : own < length mid
    within = let all = shares.all in omega (arith, fits, all)

    prepared : (get_or mid own d).prepared ≡ (get_or old own new_seat).prepared
    prepared = ap (λ (s : Seat). s.prepared) (any_default mid own d new_seat within) ∙ (shares.each own fits).prepared

    serial : (get_or mid own d).serial ≡ (get_or old own new_seat).serial
    serial = ap (λ (s : Seat). s.serial) (any_default mid own d new_seat within) ∙ (shares.each own fits).serial

-- ---- results

pub ok_there : {T E : Type 0} (r : Result T E) {P : Type 0} → false ≡ is_err r → OnOk r P → P
ok_there (Ok x) e h = h
ok_there (Err x) e h = absurd (true≢false (sym e))

pub on_err : {T E : Type 0} (r : Result T E) {P : Type 0} → P → OnErr r P
on_err (Ok x) h = tt
on_err (Err x) h = h
