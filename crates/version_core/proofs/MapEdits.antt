-- Map edits of a change: what they put under tiles' keys is told apart from stamps and from edits of
-- names, and with the number of the change as their stamps they are the edits that it makes.
use Rattle.std.proofs.Common.{◌≡◌, refl, ap, sym, ◌∙◌, subst, arith, add-one, ℕ, zero, suc, ◌+◌, List, [], ◌∷◌, ◌++◌}
use Rattle.std.proofs.Common.{map, length, take, drop, slice_index_or, slice_set, ℤ, Result, Ok, Err}
use Rattle.std.specs.Prelude.{Option, Some, None, option_map}
use Rattle.std.specs.List.{AllByRecursion, cons_option}
use Rattle.std.specs.Arc.{arc_value}
use Rattle.std.specs.Result.{OnOk}
use Rattle.std.specs.declared.sync.Arc.{Arc}
use Rattle.std.proofs.lemmas.List.{map-append, drop-map}
use Rattle.std.proofs.lemmas.List.Elements.{filter_map-append}
use Rattle.radix_map.specs.Entries.{edited, edited_all}
use Rattle.version_core.specs.declared.entry.Entry.{Entry}
use Rattle.version_core.specs.declared.entry.Entry.TheVariants.{Live, Touched}
use Rattle.version_core.specs.declared.entry.TouchedTile.{TouchedTile}
use Rattle.version_core.specs.declared.change.Edit.{Edit}
use Rattle.version_core.specs.declared.change.Edit.TheVariants.{Insert, Delete}
use Rattle.version_core.specs.Edits.{Changes}
use Rattle.version_core.specs.Entries.{put_tile, put_name, map_edits, after_map_edits}
use Rattle.version_core.specs.Renewal.{plain_edit, content_put, contents_put, PutsTile, AreMapEdits, Renewed}
use Rattle.version_core.specs.Stamps.{stamped, stamped_edit}

-- ---- contents

-- edits of names put none
names_put_none : (es : List Edit) → contents_put (map put_name es) ≡ []
names_put_none [] = refl
names_put_none (Insert s ∷ es) = names_put_none es
names_put_none (Delete s ∷ es) = names_put_none es

-- and hence none behind others
pub contents_with_names : (xs : List (ℕ × Option Entry)) (es : List Edit)
    → contents_put (xs ++ map put_name es) ≡ contents_put xs
contents_with_names [] es = names_put_none es
contents_with_names ((k, None) ∷ xs) es = contents_with_names xs es
contents_with_names ((k, Some (Live s)) ∷ xs) es = contents_with_names xs es
contents_with_names ((k, Some (Touched x)) ∷ xs) es = ap (λ cs. (x.id, x.tile) ∷ cs) (contents_with_names xs es)

-- those of one tile more
pub contents_pushed : {Z : Type 0} (edits : List (ℕ × Option (Arc Entry Z))) (e : ℕ × Option (Arc Entry Z)) (x : TouchedTile)
    → option_map arc_value e.1 ≡ Some (Touched x)
    → contents_put (map plain_edit (edits ++ e ∷ [])) ≡ contents_put (map plain_edit edits) ++ (x.id, x.tile) ∷ []
contents_pushed edits e x h =
    ap contents_put (map-append plain_edit edits (e ∷ []))
    ∙ filter_map-append (λ e. content_put e.1) (map plain_edit edits) (map plain_edit (e ∷ []))
    ∙ ap (λ o. contents_put (map plain_edit edits) ++ cons_option (content_put o) []) h

-- a stamp changes none
contents_stamped : (n : ℕ) (xs : List (ℕ × Option Entry)) → contents_put (map (stamped_edit n) xs) ≡ contents_put xs
contents_stamped n [] = refl
contents_stamped n ((k, None) ∷ xs) = contents_stamped n xs
contents_stamped n ((k, Some (Live s)) ∷ xs) = contents_stamped n xs
contents_stamped n ((k, Some (Touched x)) ∷ xs) = ap (λ cs. (x.id, x.tile) ∷ cs) (contents_stamped n xs)

-- edits that are alike but for stamps put the same
contents_alike : (xs ys : List (ℕ × Option Entry)) → map (stamped_edit 0) ys ≡ map (stamped_edit 0) xs
    → contents_put ys ≡ contents_put xs
contents_alike xs ys e = sym (contents_stamped 0 ys) ∙ ap contents_put e ∙ contents_stamped 0 xs

-- what they are of a change
abbrev pub renewed_by : Changes → ℤ → ℤ → List (ℕ × Option Entry) → Renewed
renewed_by x gain span_gain xs =
    record { change = x; contents = contents_put xs; gain = gain; span_gain = span_gain }

-- and are the same of it
pub renewed_alike : (x : Changes) (gain span_gain : ℤ) (xs ys : List (ℕ × Option Entry))
    → map (stamped_edit 0) ys ≡ map (stamped_edit 0) xs
    → renewed_by x gain span_gain ys ≡ renewed_by x gain span_gain xs
renewed_alike x gain span_gain xs ys e =
    λ i. record { change = x; contents = contents_alike xs ys e i; gain = gain; span_gain = span_gain }

-- ---- edits of tiles, then edits of names

-- 1 for an edit that puts a tile
abbrev tag : Option Entry → ℕ
tag None = 0
tag (Some (Live s)) = 0
tag (Some (Touched x)) = 1

-- no edit of a name puts a tile
name_tag : (e : Edit) → tag (put_name e).1 ≡ 0
name_tag (Insert s) = refl
name_tag (Delete s) = refl

-- a stamp leaves edits of names
names_stamped : (n : ℕ) (es : List Edit) → map (stamped_edit n) (map put_name es) ≡ map put_name es
names_stamped n [] = refl
names_stamped n (Insert s ∷ es) = ap (λ xs. put_name (Insert s) ∷ xs) (names_stamped n es)
names_stamped n (Delete s ∷ es) = ap (λ xs. put_name (Delete s) ∷ xs) (names_stamped n es)

-- what a stamp makes an edit of a name is that edit
name_alone : (n : ℕ) (x : ℕ × Option Entry) (e : Edit) → stamped_edit n x ≡ put_name e → x ≡ put_name e
name_alone n (k, None) e h = h
name_alone n (k, Some (Live s)) e h = h
name_alone n (k, Some (Touched x)) e h =
    let same : tag (Some (stamped n (Touched x))) ≡ 0 = ap (λ (p : ℕ × Option Entry). tag p.1) h ∙ name_tag e in
    absurd (omega (arith, same))

-- the first element
abbrev head_or : {A : Type 0} → A → List A → A
head_or d [] = d
head_or d (x ∷ xs) = x

names_alone : (n : ℕ) (xs : List (ℕ × Option Entry)) (es : List Edit) → map (stamped_edit n) xs ≡ map put_name es
    → xs ≡ map put_name es
names_alone n [] [] h = refl
names_alone n [] (e ∷ es) h = h
names_alone n (x ∷ xs) [] h = let size = ap length h in absurd (omega (arith, size))
names_alone n (x ∷ xs) (e ∷ es) h =
    let first = name_alone n x e (ap (head_or x) h) in
    let rest = names_alone n xs es (ap (drop 1) h) in
    ap (λ y. y ∷ xs) first ∙ ap (λ ys. put_name e ∷ ys) rest

-- the first edits put tiles with stamps where they do without
tiles_stamped : (n m : ℕ) (xs : List (ℕ × Option Entry)) → AllByRecursion (λ e. PutsTile e.0 e.1) (take m xs)
    → AllByRecursion (λ e. PutsTile e.0 e.1) (take m (map (stamped_edit n) xs))
tiles_stamped n zero xs h = tt
tiles_stamped n (suc m) [] h = tt
tiles_stamped n (suc m) ((k, None) ∷ xs) h = absurd h.0
tiles_stamped n (suc m) ((k, Some (Live s)) ∷ xs) h = absurd h.0
tiles_stamped n (suc m) ((k, Some (Touched x)) ∷ xs) h = (h.0, tiles_stamped n m xs h.1)

tiles_alone : (n m : ℕ) (xs : List (ℕ × Option Entry))
    → AllByRecursion (λ e. PutsTile e.0 e.1) (take m (map (stamped_edit n) xs))
    → AllByRecursion (λ e. PutsTile e.0 e.1) (take m xs)
tiles_alone n zero xs h = tt
tiles_alone n (suc m) [] h = tt
tiles_alone n (suc m) ((k, None) ∷ xs) h = absurd h.0
tiles_alone n (suc m) ((k, Some (Live s)) ∷ xs) h = absurd h.0
tiles_alone n (suc m) ((k, Some (Touched x)) ∷ xs) h = (h.0, tiles_alone n m xs h.1)

-- edits that are alike but for stamps are of one change
pub edits_alike : (m : ℕ) (es : List Edit) (xs ys : List (ℕ × Option Entry)) → AreMapEdits m es xs
    → map (stamped_edit 0) ys ≡ map (stamped_edit 0) xs → AreMapEdits m es ys
edits_alike m es xs ys h e =
    let P : List (ℕ × Option Entry) → Type 0 = λ zs. AllByRecursion (λ e. PutsTile e.0 e.1) (take m zs) in
    record {
      tiles = tiles_alone 0 m ys (subst P (sym e) (tiles_stamped 0 m xs h.tiles));
      names =
          names_alone 0 (drop m ys) es
          (sym (drop-map (stamped_edit 0) m ys) ∙ ap (drop m) e ∙ drop-map (stamped_edit 0) m xs
          ∙ ap (map (stamped_edit 0)) h.names ∙ names_stamped 0 es);
    }

-- ---- with their stamps they are what the change does to a map

stamped_tiles : (n m : ℕ) (es : List Edit) (xs : List (ℕ × Option Entry))
    → AllByRecursion (λ e. PutsTile e.0 e.1) (take m xs) → drop m xs ≡ map put_name es
    → map (stamped_edit n) xs ≡ map_edits n (contents_put xs) es
stamped_tiles n zero es xs t e =
    ap (map (stamped_edit n)) e ∙ names_stamped n es
    ∙ sym (ap (λ cs. map (put_tile n) cs ++ map put_name es) (ap contents_put e ∙ names_put_none es))
stamped_tiles n (suc m) es [] t e = e
stamped_tiles n (suc m) es ((k, None) ∷ xs) t e = absurd t.0
stamped_tiles n (suc m) es ((k, Some (Live s)) ∷ xs) t e = absurd t.0
stamped_tiles n (suc m) es ((k, Some (Touched x)) ∷ xs) t e =
    ap (λ j. (j, Some (stamped n (Touched x))) ∷ map (stamped_edit n) xs) t.0.0
    ∙ ap (λ ys. put_tile n (x.id, x.tile) ∷ ys) (stamped_tiles n m es xs t.1 e)

stamped_edits : (n m : ℕ) (es : List Edit) (xs : List (ℕ × Option Entry)) → AreMapEdits m es xs
    → map (stamped_edit n) xs ≡ map_edits n (contents_put xs) es
stamped_edits n m es xs h = stamped_tiles n m es xs h.tiles h.names

-- entries after edits are those after the plain edits
edited_all_plain : {Z : Type 0} (es : List (ℕ × Entry)) (edits : List (ℕ × Option (Arc Entry Z)))
    → edited_all es edits ≡ after_map_edits es (map plain_edit edits)
unfolding edited_all
edited_all_plain es [] = refl
edited_all_plain es (e ∷ edits) = edited_all_plain (edited es e.0 (option_map arc_value e.1)) edits

-- entries after stamped edits are those after the change
pub entries_after : {Z : Type 0} (n m : ℕ) (es : List Edit) (old : List (ℕ × Entry)) (before edits : List (ℕ × Option (Arc Entry Z)))
    → AreMapEdits m es (map plain_edit before)
    → map plain_edit edits ≡ map (stamped_edit n) (map plain_edit before)
    → edited_all old edits ≡ after_map_edits old (map_edits n (contents_put (map plain_edit before)) es)
entries_after n m es old before edits h e =
    edited_all_plain old edits
    ∙ ap (after_map_edits old) (e ∙ stamped_edits n m es (map plain_edit before) h)

-- ---- stamped one after the other

stamped_again : (n : ℕ) (x : ℕ × Option Entry) → stamped_edit 0 (stamped_edit n x) ≡ stamped_edit 0 x
stamped_again n (k, None) = refl
stamped_again n (k, Some (Live s)) = refl
stamped_again n (k, Some (Touched x)) = refl

-- where the first are stamped, all are alike but for stamps
pub partly_stamped : (n i : ℕ) (xs : List (ℕ × Option Entry))
    → map (stamped_edit 0) (map (stamped_edit n) (take i xs) ++ drop i xs) ≡ map (stamped_edit 0) xs
partly_stamped n zero xs = refl
partly_stamped n (suc i) [] = refl
partly_stamped n (suc i) (x ∷ xs) =
    ap (λ y. y ∷ map (stamped_edit 0) (map (stamped_edit n) (take i xs) ++ drop i xs)) (stamped_again n x)
    ∙ ap (λ ys. stamped_edit 0 x ∷ ys) (partly_stamped n i xs)

-- one more
next_set : {A B : Type 0} (p : A → B) (g : B → B) (i : ℕ) (olds : List B) (items : List A) (now next : A)
    → map p items ≡ map g (take i olds) ++ drop i olds
    → now ≡ slice_index_or items i now → p next ≡ g (p now)
    → map p (slice_set items i next) ≡ map g (take (suc i) olds) ++ drop (suc i) olds
next_set p g i [] [] now next h e f = refl
next_set p g zero (b ∷ bs) [] now next h e f = let size = ap length h in absurd (omega (arith, size))
next_set p g (suc i) (b ∷ bs) [] now next h e f = let size = ap length h in absurd (omega (arith, size))
next_set p g zero [] (a ∷ rest) now next h e f = let size = ap length h in absurd (omega (arith, size))
next_set p g zero (b ∷ bs) (a ∷ rest) now next h e f =
    ap (λ y. y ∷ map p rest) (f ∙ ap (λ y. g (p y)) e ∙ ap g (ap (head_or b) h))
    ∙ ap (λ ys. g b ∷ ys) (ap (drop 1) h)
next_set p g (suc i) [] (a ∷ rest) now next h e f = let size = ap length h in absurd (omega (arith, size))
next_set p g (suc i) (b ∷ bs) (a ∷ rest) now next h e f =
    ap (λ y. y ∷ map p (slice_set rest i next)) (ap (head_or b) h)
    ∙ ap (λ ys. g b ∷ ys) (next_set p g i bs rest now next (ap (drop 1) h) e f)

pub next_stamped : {A B : Type 0} (p : A → B) (g : B → B) (i : ℕ) (olds : List B) (items : List A) (now next : A)
    → map p items ≡ map g (take i olds) ++ drop i olds
    → now ≡ slice_index_or items i now → p next ≡ g (p now)
    → map p (slice_set items i next) ≡ map g (take (i + 1) olds) ++ drop (i + 1) olds
next_stamped p g i olds items now next h e f =
    next_set p g i olds items now next h e f ∙ ap (λ j. map g (take j olds) ++ drop j olds) (sym (add-one i))

-- what is said at Ok of one value is said of an equal one
pub at_ok : {A E X : Type 0} (r : Result A E) (x y z : X) → OnOk r (x ≡ y) → y ≡ z → OnOk r (x ≡ z)
at_ok (Ok a) x y z h e = h ∙ e
at_ok (Err m) x y z h e = tt
