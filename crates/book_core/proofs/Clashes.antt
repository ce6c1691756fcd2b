-- The last change that shares a tile with x, told by the stamps of x's tiles: it is the greatest
-- stamp above the base, and the least tile that the two share is the first with that stamp.
use Rattle.std.proofs.Common.{◌≡◌, refl, sym, ap, subst, ◌∙◌, ℕ, zero, suc, ◌+◌, ◌<◌, ◌≤◌, ◌⊎◌, inl, inr, arith, Bool, true, false, List, [], ◌∷◌, ◌++◌, drop, take, filter, length, get_or, Option, Some, None}
use Rattle.std.specs.Prelude.{filter_map, option_map, slice_get, if◌then◌else◌}
use Rattle.std.specs.List.{AllByRecursion, enumerate_from, last_or, cons_option}
use Rattle.std.proofs.lemmas.List.{take_more}
use Rattle.grid_core.specs.declared.tile.TileId.{TileId}
use Rattle.grid_core.specs.Profile.{Sizes}
use Rattle.version_core.specs.Edits.{Changes, tiles_of_edits}
use Rattle.version_core.specs.History.{touches, last_touch, clash}
use Rattle.book_core.specs.Stamps.{AreUpTo, IsFirstOf, IsLastTouched}
use Rattle.book_core.proofs.Touches.{or_else, number_if, last_from, or_else_more, from_low, last_touch_from, last_kept, last_gone}

-- ---- lists of tiles

up_to_more : (f : TileId → ℕ) (n m : ℕ) → n ≤ m → (ts : List TileId) → AreUpTo f n ts → AreUpTo f m ts
up_to_more f n m more [] h = tt
up_to_more f n m more (u ∷ ts) h = (omega (arith, more, h.0), up_to_more f n m more ts h.1)

pub up_to_push : (f : TileId → ℕ) (n : ℕ) (ts : List TileId) (t : TileId) → AreUpTo f n ts → f t ≤ n → AreUpTo f n (ts ++ t ∷ [])
up_to_push f n [] t h own = (own, tt)
up_to_push f n (u ∷ ts) t h own = (h.0, up_to_push f n ts t h.1 own)

-- the greatest stamp is that of its tile, and above no other
first_value : (f : TileId → ℕ) (n : ℕ) (t : TileId) (ts : List TileId) → IsFirstOf f n t ts → f t ≡ n
first_value f n t [] h = absurd h
first_value f n t (u ∷ ts) h =
    elim h [ inl own ↦ ap f (sym own.0) ∙ own.1 | inr later ↦ first_value f n t ts later.1 ]

pub first_up_to : (f : TileId → ℕ) (n : ℕ) (t : TileId) (ts : List TileId) → IsFirstOf f n t ts → AreUpTo f n ts
first_up_to f n t [] h = absurd h
first_up_to f n t (u ∷ ts) h =
    elim h [
      | inl own ↦ (omega (arith, own.1), own.2)
      | inr later ↦ (omega (arith, later.0), first_up_to f n t ts later.1)
    ]

-- a tile behind the others: with a greater stamp it is the first one, else it is not
pub first_greater : (f : TileId → ℕ) (m : ℕ) (ts : List TileId) (t : TileId) → AreUpTo f m ts → m < f t
    → IsFirstOf f (f t) t (ts ++ t ∷ [])
first_greater f m [] t h more = inl (refl, refl, tt)
first_greater f m (u ∷ ts) t h more = inr (omega (arith, h.0, more), first_greater f m ts t h.1 more)

pub first_stays : (f : TileId → ℕ) (n : ℕ) (t : TileId) (ts : List TileId) (u : TileId) → IsFirstOf f n t ts → f u ≤ n
    → IsFirstOf f n t (ts ++ u ∷ [])
first_stays f n t [] u h less = absurd h
first_stays f n t (v ∷ ts) u h less =
    elim h [
      | inl own ↦ inl (own.0, own.1, up_to_push f n ts u own.2 less)
      | inr later ↦ inr (later.0, first_stays f n t ts u later.1 less)
    ]

-- the same tile is the first one where stamps are lower, but not its own
first_lower : (f g : TileId → ℕ) (n : ℕ) (t : TileId) → ((u : TileId) → f u ≤ n → g u ≤ f u) → g t ≡ n → (ts : List TileId)
    → IsFirstOf f n t ts → IsFirstOf g n t ts
first_lower f g n t lower same [] h = absurd h
first_lower f g n t lower same (u ∷ ts) h =
    elim h [
      | inl own ↦ inl (own.0, ap g own.0 ∙ same, up_to_lower ts own.2)
      | inr later ↦ inr (below (g u) (f u) later.0 (lower u (omega (arith, later.0))), first_lower f g n t lower same ts later.1)
    ]
  where
    below : (a b : ℕ) → b < n → a ≤ b → a < n
    below a b less low = omega (arith, less, low)

    up_to_lower : (us : List TileId) → AreUpTo f n us → AreUpTo g n us
    up_to_lower [] k = tt
    up_to_lower (v ∷ us) k = (under (g v) (f v) k.0 (lower v k.0), up_to_lower us k.1)
      where
        under : (a b : ℕ) → b ≤ n → a ≤ b → a ≤ n
        under a b most low = omega (arith, most, low)

-- ---- one change

-- a tile's number is 0 where the change doesn't touch it
first_passes : (p : TileId → Bool) (k : ℕ) (t : TileId) → 0 < k → (ts : List TileId)
    → IsFirstOf (λ u. number_if (p u) k) k t ts → slice_get (filter p ts) 0 ≡ Some t
first_passes p k t some [] h = absurd h
first_passes p k t some (u ∷ ts) h = by (λ l. first_passes p k t some ts l) (p u) h
  where
    by : (IsFirstOf (λ u. number_if (p u) k) k t ts → slice_get (filter p ts) 0 ≡ Some t)
        → (b : Bool)
        → ((u ≡ t) × (number_if b k ≡ k) × AreUpTo (λ u. number_if (p u) k) k ts)
        ⊎ ((number_if b k < k) × IsFirstOf (λ u. number_if (p u) k) k t ts)
        → slice_get (if b then u ∷ filter p ts else filter p ts) 0 ≡ Some t
    by ih true (inl own) = ap Some own.0
    by ih true (inr later) = absurd (omega (arith, later.0))
    by ih false (inl own) = absurd (omega (arith, own.1, some))
    by ih false (inr later) = ih later.1

none_passes : (p : TileId → Bool) (k : ℕ) → 0 < k → (ts : List TileId) → AllByRecursion (λ u. number_if (p u) k ≡ 0) ts
    → filter p ts ≡ []
none_passes p k some [] h = refl
none_passes p k some (u ∷ ts) h = by (none_passes p k some ts h.1) (p u) h.0
  where
    by : filter p ts ≡ [] → (b : Bool) → number_if b k ≡ 0 → (if b then u ∷ filter p ts else filter p ts) ≡ []
    by ih true own = absurd (omega (arith, own, some))
    by ih false own = ih

-- ---- changes from number k on

-- the number of a change and the first of these tiles that it touches
abbrev shared_with : Sizes → List TileId → ℕ × Changes → Option (ℕ × TileId)
shared_with pr ts y = option_map (λ t. (y.0, t)) (slice_get (filter (λ t. touches pr t y.1) ts) 0)

parts_none : (r c : ℕ) → or_else r c ≡ 0 → (r ≡ 0) × (c ≡ 0)
parts_none zero c h = (refl, h)
parts_none (suc r) c h = absurd (omega (arith, h))

none_later : (pr : Sizes) (ts : List TileId) (k : ℕ) → 0 < k → (g : List Changes)
    → AllByRecursion (λ u. last_from pr k g u ≡ 0) ts → filter_map (shared_with pr ts) (enumerate_from k g) ≡ []
none_later pr ts k some [] h = refl
none_later pr ts k some (y ∷ g) h =
    ap (λ us. cons_option (option_map (λ t. (k, t)) (slice_get us 0)) (filter_map (shared_with pr ts) (enumerate_from (k + 1) g)))
    (none_passes (λ t. touches pr t y) k some ts (own ts h))
    ∙ none_later pr ts (k + 1) (omega (arith, some)) g (rest ts h)
  where
    own : (us : List TileId) → AllByRecursion (λ u. last_from pr k (y ∷ g) u ≡ 0) us
        → AllByRecursion (λ u. number_if (touches pr u y) k ≡ 0) us
    own [] l = tt
    own (u ∷ us) l = ((parts_none (last_from pr (k + 1) g u) (number_if (touches pr u y) k) l.0).1, own us l.1)

    rest : (us : List TileId) → AllByRecursion (λ u. last_from pr k (y ∷ g) u ≡ 0) us
        → AllByRecursion (λ u. last_from pr (k + 1) g u ≡ 0) us
    rest [] l = tt
    rest (u ∷ us) l = ((parts_none (last_from pr (k + 1) g u) (number_if (touches pr u y) k) l.0).0, rest us l.1)

some_later : {A : Type 0} (xs : List A) (a : A) → ((o : Option A) → last_or o xs ≡ Some a)
    → (o c : Option A) → last_or o (cons_option c xs) ≡ Some a
some_later xs a h o None = h o
some_later xs a h o (Some c) = h (Some c)

-- the greatest number is that of the last change that shares a tile, and its first tile is the least
last_shared : (pr : Sizes) (ts : List TileId) (n : ℕ) (t : TileId) → 0 < n → (k : ℕ) → 0 < k → (g : List Changes)
    → IsFirstOf (last_from pr k g) n t ts
    → (o : Option (ℕ × TileId)) → last_or o (filter_map (shared_with pr ts) (enumerate_from k g)) ≡ Some (n, t)
last_shared pr ts n t some k first [] h o = absurd (let v = first_value (λ u. 0) n t ts h in omega (arith, v, some))
last_shared pr ts n t some k first (y ∷ g) h o =
    by (λ l p. last_shared pr ts n t some (k + 1) (omega (arith, first)) g l p) (last_from pr (k + 1) g t) refl (from_low pr (k + 1) g t)
    (first_value (last_from pr k (y ∷ g)) n t ts h)
  where
    rest : List (ℕ × TileId)
    rest = filter_map (shared_with pr ts) (enumerate_from (k + 1) g)

    own_low : (r c : ℕ) → (r ≡ 0) ⊎ (k + 1 ≤ r) → c ≤ k → c ≤ or_else r c
    own_low zero c low most = omega arith
    own_low (suc r) c low most =
        elim low [ inl none ↦ absurd (omega (arith, none)) | inr more ↦ omega (arith, more, most) ]

    small : (b : Bool) → number_if b k ≤ k
    small true = omega arith
    small false = omega arith

    no_later : (r c : ℕ) → (r ≡ 0) ⊎ (k + 1 ≤ r) → or_else r c ≤ k → r ≡ 0
    no_later zero c low most = refl
    no_later (suc r) c low most =
        elim low [ inl none ↦ absurd (omega (arith, none)) | inr more ↦ absurd (omega (arith, more, most)) ]

    nothing_later : (us : List TileId) → AreUpTo (last_from pr k (y ∷ g)) k us → AllByRecursion (λ u. last_from pr (k + 1) g u ≡ 0) us
    nothing_later [] l = tt
    nothing_later (u ∷ us) l = (
      no_later (last_from pr (k + 1) g u) (number_if (touches pr u y) k) (from_low pr (k + 1) g u) l.0,
      nothing_later us l.1,
    )

    number_is : (b : Bool) → number_if b k ≡ n → n ≡ k
    number_is true e = sym e
    number_is false e = absurd (omega (arith, e, some))

    by : (IsFirstOf (last_from pr (k + 1) g) n t ts → (p : Option (ℕ × TileId)) → last_or p rest ≡ Some (n, t))
        → (r : ℕ) → last_from pr (k + 1) g t ≡ r → (r ≡ 0) ⊎ (k + 1 ≤ r) → or_else (last_from pr (k + 1) g t) (number_if (touches pr t y) k) ≡ n
        → last_or o (cons_option (shared_with pr ts (k, y)) rest) ≡ Some (n, t)
    by ih (suc r) is low value =
        some_later rest (n, t)
        (ih (first_lower (last_from pr k (y ∷ g)) (last_from pr (k + 1) g) n t
        (λ u l. or_else_more (last_from pr (k + 1) g u) (number_if (touches pr u y) k))
        (is ∙ sym (ap (λ a. or_else a (number_if (touches pr t y) k)) is) ∙ value) ts h))
        o (shared_with pr ts (k, y))
    by ih zero is low value =
        let own : number_if (touches pr t y) k ≡ n = sym (ap (λ a. or_else a (number_if (touches pr t y) k)) is) ∙ value in
        let at : n ≡ k = number_is (touches pr t y) own in
        let here : IsFirstOf (last_from pr k (y ∷ g)) k t ts = subst (λ m. IsFirstOf (last_from pr k (y ∷ g)) m t ts) at h in
        let none = none_later pr ts (k + 1) (omega (arith, first)) g (nothing_later ts (first_up_to (last_from pr k (y ∷ g)) k t ts here)) in
        let found = first_passes (λ u. touches pr u y) k t first ts
        (first_lower (last_from pr k (y ∷ g)) (λ u. number_if (touches pr u y) k) k t
        (λ u l. own_low (last_from pr (k + 1) g u) (number_if (touches pr u y) k) (from_low pr (k + 1) g u) (small (touches pr u y)))
        (own ∙ at) ts here) in
        ap (λ us. last_or o (cons_option (shared_with pr ts (k, y)) us)) none
        ∙ ap (λ s. last_or o (cons_option (option_map (λ u. (k, u)) s) [])) found
        ∙ ap (λ m. Some (m, t)) (sym at)

-- ---- a history

-- no stamp above the base, no clash
pub no_clash : (pr : Sizes) (h : List Changes) (b : ℕ) (x : Changes)
    → AreUpTo (last_touch pr h) b (tiles_of_edits pr x.edits) → clash pr h b x ≡ None
no_clash pr h b x up =
    ap (last_or None)
    (none_later pr (tiles_of_edits pr x.edits) (b + 1) (omega arith) (drop b h) (gone (tiles_of_edits pr x.edits) up))
  where
    gone : (us : List TileId) → AreUpTo (last_touch pr h) b us → AllByRecursion (λ u. last_from pr (b + 1) (drop b h) u ≡ 0) us
    gone [] l = tt
    gone (u ∷ us) l = (
      last_gone pr u b 1 (b + 1) h (omega arith) (omega arith) (let e = last_touch_from pr h u in omega (arith, e, l.0)),
      gone us l.1,
    )

-- the greatest stamp, if it is above the base, and the first tile with it are the clash
pub clashes : (pr : Sizes) (h : List Changes) (b : ℕ) (x : Changes) (n : ℕ) (t : TileId) → b < n
    → IsFirstOf (last_touch pr h) n t (tiles_of_edits pr x.edits) → clash pr h b x ≡ Some (n, t)
clashes pr h b x n t above is =
    last_shared pr (tiles_of_edits pr x.edits) n t (omega (arith, above)) (b + 1) (omega arith) (drop b h)
    (first_lower (last_touch pr h) (last_from pr (b + 1) (drop b h)) n t (λ u most. lower u (nat_cases b (last_from pr 1 h u)))
    (last_kept pr t b 1 (b + 1) h (omega arith) (omega (arith, value, above)) ∙ value) (tiles_of_edits pr x.edits) is)
    None
  where
    value : last_from pr 1 h t ≡ n
    value = sym (last_touch_from pr h t) ∙ first_value (last_touch pr h) n t (tiles_of_edits pr x.edits) is

    nat_cases : (a c : ℕ) → (c < a + 1) ⊎ (a + 1 ≤ c)
    nat_cases zero zero = inl (omega arith)
    nat_cases zero (suc c) = inr (omega arith)
    nat_cases (suc a) zero = inl (omega arith)
    nat_cases (suc a) (suc c) = elim (nat_cases a c) [ inl h ↦ inl (omega (arith, h)) | inr h ↦ inr (omega (arith, h)) ]

    lower : (u : TileId) → (last_from pr 1 h u < b + 1) ⊎ (b + 1 ≤ last_from pr 1 h u) → last_from pr (b + 1) (drop b h) u ≤ last_touch pr h u
    lower u (inl less) = let e = last_gone pr u b 1 (b + 1) h (omega arith) (omega arith) less in omega (arith, e)
    lower u (inr more) =
        let e = last_kept pr u b 1 (b + 1) h (omega arith) more in
        let f = last_touch_from pr h u in omega (arith, e, f)

-- ---- a book's stamps

-- how far the stamps of some tiles were read: none is above the base, or the greatest is known
abbrev pub AreRead : (TileId → ℕ) → ℕ → List TileId → ℕ → Option (ℕ × TileId) → Type 0
AreRead f b ts last None = (last ≡ b) × AreUpTo f b ts
AreRead f b ts last (Some c) = (c.0 ≡ last) × (b < last) × IsFirstOf f last c.1 ts

-- a greater stamp is the greatest one
pub read_greater : (f : TileId → ℕ) (b : ℕ) (ts : List TileId) (last : ℕ) (found : Option (ℕ × TileId)) (t : TileId)
    → AreRead f b ts last found → last < f t → AreRead f b (ts ++ t ∷ []) (f t) (Some (f t, t))
read_greater f b ts last None t h more =
    (refl, omega (arith, h.0, more), first_greater f b ts t h.1 (omega (arith, h.0, more)))
read_greater f b ts last (Some c) t h more =
    (refl, omega (arith, h.1, more), first_greater f last ts t (first_up_to f last c.1 ts h.2) more)

-- another one isn't
pub read_lower : (f : TileId → ℕ) (b : ℕ) (ts : List TileId) (last : ℕ) (found : Option (ℕ × TileId)) (t : TileId)
    → AreRead f b ts last found → f t ≤ last → AreRead f b (ts ++ t ∷ []) last found
read_lower f b ts last None t h less = (h.0, up_to_push f b ts t h.1 (omega (arith, h.0, less)))
read_lower f b ts last (Some c) t h less = (h.0, h.1, first_stays f last c.1 ts t h.2 less)

-- one tile more of a list, read as number i
pub next_greater : (f : TileId → ℕ) (b : ℕ) (ts : List TileId) (i last : ℕ) (found : Option (ℕ × TileId)) (d : TileId)
    → i < length ts → AreRead f b (take i ts) last found → (stamp : ℕ) → stamp ≡ f (get_or ts i d) → last < stamp
    → (new : ℕ) → new ≡ stamp → (now : Option (ℕ × TileId)) → now ≡ Some (stamp, get_or ts i d)
    → AreRead f b (take (i + 1) ts) new now
next_greater f b ts i last found d fits h stamp is more new same now told =
    subst (λ us. AreRead f b us new now) (sym (take_more ts i d fits))
    (subst (λ n. AreRead f b (take i ts ++ get_or ts i d ∷ []) n now) (sym (same ∙ is))
    (subst (AreRead f b (take i ts ++ get_or ts i d ∷ []) (f (get_or ts i d))) (sym (told ∙ ap (λ n. Some (n, get_or ts i d)) is))
    (read_greater f b (take i ts) last found (get_or ts i d) h (omega (arith, is, more)))))

pub next_lower : (f : TileId → ℕ) (b : ℕ) (ts : List TileId) (i last : ℕ) (found : Option (ℕ × TileId)) (d : TileId)
    → i < length ts → AreRead f b (take i ts) last found → (stamp : ℕ) → stamp ≡ f (get_or ts i d) → stamp ≤ last
    → (new : ℕ) → new ≡ last → (now : Option (ℕ × TileId)) → now ≡ found
    → AreRead f b (take (i + 1) ts) new now
next_lower f b ts i last found d fits h stamp is less new same now told =
    subst (λ us. AreRead f b us new now) (sym (take_more ts i d fits))
    (subst (λ n. AreRead f b (take i ts ++ get_or ts i d ∷ []) n now) (sym same)
    (subst (AreRead f b (take i ts ++ get_or ts i d ∷ []) last) (sym told)
    (read_lower f b (take i ts) last found (get_or ts i d) h (omega (arith, is, less)))))

-- what the stamps of a history's last changes tell is the clash
pub clash_found : (pr : Sizes) (h : List Changes) (b : ℕ) (x : Changes) (f : TileId → ℕ) → ((t : TileId) → f t ≡ last_touch pr h t)
    → (found : Option (ℕ × TileId)) → IsLastTouched f b (tiles_of_edits pr x.edits) found → clash pr h b x ≡ found
clash_found pr h b x f same None up = no_clash pr h b x (moved (tiles_of_edits pr x.edits) up)
  where
    moved : (us : List TileId) → AreUpTo f b us → AreUpTo (last_touch pr h) b us
    moved [] l = tt
    moved (u ∷ us) l = (let e = same u in omega (arith, e, l.0), moved us l.1)
clash_found pr h b x f same (Some c) is =
    clashes pr h b x c.0 c.1 is.0
    (first_lower f (last_touch pr h) c.0 c.1 (λ u most. let e = same u in omega (arith, e))
    (sym (same c.1) ∙ first_value f c.0 c.1 (tiles_of_edits pr x.edits) is.1) (tiles_of_edits pr x.edits) is.1)
