-- The root: its keys rise below 2 ^ 32, so that it has no more entries than that, and edits at keys below it need no width.
use Rattle.std.proofs.Common.{◌≡◌, ℕ, suc, zero, ◌+◌, ◌*◌, ◌^◌, ◌≤◌, List, [], ◌∷◌, ◌++◌, length, take, take_all, drop, Option, Some, None, option_map, refl, sym, ap, ◌∙◌, subst, arith}
use Rattle.std.proofs.Math.Nat.{mod-eq_of_lt}
use Rattle.std.specs.Arc.{arc_value}
use Rattle.std.specs.declared.sync.Arc.{Arc}
use Rattle.radix_map.specs.Entries.{value_at, edited, edited_all, edited_within, KeysFit, Rises, keys_end}
use Rattle.radix_map.specs.Levels.{Root, leaf_entries, node_entries, root_entries}
use Rattle.radix_map.specs.Pending.{IsCarried}
use Rattle.std.proofs.lemmas.List.{take-append-drop}
use Rattle.radix_map.proofs.Laws.{value_edited_all}
use Rattle.radix_map.proofs.Noted.{edit_or, fit_from_rises}
use Rattle.radix_map.proofs.Values.{within_rises}
use Rattle.radix_map.specs.Rising.{leaf_rises, node_rises, rises_lower, rises-length}

abbrev Within : {T V : Type 0} → (T → List (ℕ × V)) → ℕ → Type 0
Within {T} f s = (x : T) → Rises 0 (16 * 2 ^ s) (f x)

level_rises : {T V : Type 0} (f : T → List (ℕ × V)) (s : ℕ) → Within f s → Within (node_entries f s) (s + 4)
level_rises f s h x = node_rises f s h x.slots

pub root_rises : {V : Type 0} (x : Root V) → Rises 0 keys_end (root_entries x)
root_rises {V} x =
    let h0 : Within {V = V} leaf_entries 0 = λ y. leaf_rises y.slots in
    let h1 = level_rises leaf_entries 0 h0 in
    let h2 = level_rises _ 4 h1 in
    let h3 = level_rises _ 8 h2 in
    let h4 = level_rises _ 12 h3 in
    let h5 = level_rises _ 16 h4 in
    let h6 = level_rises _ 20 h5 in
    level_rises _ 24 h6 x

pub root_size : {V : Type 0} (x : Root V) → length (root_entries x) ≤ keys_end
root_size x = let h = rises-length 0 keys_end (root_entries x) (root_rises x) in omega arith

pub within_all : {V Z : Type 0} (es : List (ℕ × V)) (edits : List (ℕ × Option (Arc V Z))) → KeysFit edits
    → edited_within keys_end es edits ≡ edited_all es edits
unfolding edited_within edited_all
within_all es [] h = refl
within_all es (e ∷ edits) h =
    ap (λ k. edited_within keys_end (edited es k (option_map arc_value e.1)) edits) (mod-eq_of_lt h.0)
    ∙ within_all (edited es e.0 (option_map arc_value e.1)) edits h.1

-- ---- what is found at a key, where edits are noted over entries

pub found_set : {V Z : Type 0} (es : List (ℕ × V)) (k : ℕ) (ps : List (ℕ × Option (Arc V Z))) (e : Option (Arc V Z)) (r : Option V)
    → Rises 0 keys_end es → Rises 0 keys_end ps → Some e ≡ value_at k ps → r ≡ option_map arc_value e
    → r ≡ value_at k (edited_all es ps)
found_set es k ps e r g h s q = q ∙ ap (λ o. edit_or o (value_at k es)) s ∙ sym (value_edited_all k es ps g h)

pub found_below : {V Z : Type 0} (es : List (ℕ × V)) (k : ℕ) (ps : List (ℕ × Option (Arc V Z))) (r : Option V)
    → Rises 0 keys_end es → Rises 0 keys_end ps → None ≡ value_at k ps → r ≡ value_at k es
    → r ≡ value_at k (edited_all es ps)
found_below es k ps r g h s q = q ∙ ap (λ o. edit_or o (value_at k es)) s ∙ sym (value_edited_all k es ps g h)

-- ---- a root after edits

pub root_edited : {V Z : Type 0} (x y z : Root V) (ps qs : List (ℕ × Option (Arc V Z)))
    → ps ≡ qs → KeysFit ps → root_entries x ≡ root_entries z
    → root_entries y ≡ edited_within keys_end (root_entries x) ps → root_entries y ≡ edited_all (root_entries z) qs
root_edited x y z ps qs e fit s h =
    h ∙ ap (λ es. edited_within keys_end es ps) s ∙ within_all (root_entries z) ps fit ∙ ap (edited_all (root_entries z)) e

-- ---- noted edits that were carried into a root

pub rises_drop : {V : Type 0} (a b n : ℕ) (es : List (ℕ × V)) → Rises a b es → Rises a b (drop n es)
rises_drop a b zero es h = h
rises_drop a b (suc n) [] h = h
rises_drop a b (suc n) (e ∷ es) h = let l = h.0 in rises_drop a b n es (rises_lower a (e.0 + 1) b es (omega arith) h.1)

fit_first : {V Z : Type 0} (n : ℕ) (ps : List (ℕ × Option (Arc V Z))) → KeysFit ps → KeysFit (take n ps)
fit_first zero ps h = tt
fit_first (suc n) [] h = tt
fit_first (suc n) (p ∷ ps) h = (h.0, fit_first n ps h.1)

all-append : {V Z : Type 0} (es : List (ℕ × V)) (xs ys : List (ℕ × Option (Arc V Z))) → edited_all es (xs ++ ys) ≡ edited_all (edited_all es xs) ys
unfolding edited_all
all-append es [] ys = refl
all-append es (x ∷ xs) ys = all-append (edited es x.0 (option_map arc_value x.1)) xs ys

pub root_carried : {V Z : Type 0} (x y : Root V) (ps : List (ℕ × Option (Arc V Z))) (n : ℕ)
    → length ps ≤ n → Rises 0 keys_end ps → root_entries y ≡ edited_within keys_end (root_entries x) (take n ps)
    → root_entries y ≡ edited_all (root_entries x) ps
root_carried x y ps n l h e =
    e ∙ ap (edited_within keys_end (root_entries x)) (take_all n ps l) ∙ within_all (root_entries x) ps (fit_from_rises 0 ps h)

-- some were carried, and the others count over the root
pub root_part : {V Z : Type 0} (x y : Root V) (ps qs : List (ℕ × Option (Arc V Z))) (n : ℕ)
    → Rises 0 keys_end ps → IsCarried keys_end (root_entries x) (root_entries y) n ps qs
    → edited_all (root_entries y) qs ≡ edited_all (root_entries x) ps
root_part x y ps qs n h c =
    let done = take c.done ps in
    let fit = fit_first c.done ps (fit_from_rises 0 ps h) in
    ap (edited_all (root_entries y)) c.rest
    ∙ ap (λ es. edited_all es (drop c.done ps)) (c.made ∙ within_all (root_entries x) done fit)
    ∙ sym (all-append (root_entries x) done (drop c.done ps))
    ∙ ap (edited_all (root_entries x)) (take-append-drop c.done ps)

pub part_rises : {V Z : Type 0} (x y : Root V) (ps qs : List (ℕ × Option (Arc V Z))) (n : ℕ)
    → Rises 0 keys_end ps → IsCarried keys_end (root_entries x) (root_entries y) n ps qs → Rises 0 keys_end qs
part_rises x y ps qs n h c = subst (Rises 0 keys_end) (sym c.rest) (rises_drop 0 keys_end c.done ps h)

pub no_edits : {V Z : Type 0} (es : List (ℕ × V)) (ps : List (ℕ × Option (Arc V Z))) → ps ≡ [] → edited_all es ps ≡ es
unfolding edited_all
no_edits es ps e = ap (edited_all es) e

pub none_rise : {V Z : Type 0} (ps : List (ℕ × Option (Arc V Z))) → ps ≡ [] → Rises 0 keys_end ps
none_rise {V} {Z} ps e = let none : Rises {V = Option (Arc V Z)} 0 keys_end [] = omega arith in subst (Rises 0 keys_end) (sym e) none

-- the keys of a root with noted edits over it rise below the end of keys
pub noted_rise : {V Z : Type 0} (x : Root V) (ps : List (ℕ × Option (Arc V Z)))
    → Rises 0 keys_end ps → Rises 0 keys_end (edited_all (root_entries x) ps)
noted_rise x ps h =
    subst (Rises 0 keys_end) (within_all (root_entries x) ps (fit_from_rises 0 ps h)) (within_rises keys_end (root_entries x) ps (omega arith) (root_rises x))

pub edited_size : {V Z : Type 0} (x : Root V) (ps : List (ℕ × Option (Arc V Z)))
    → Rises 0 keys_end ps → length (edited_all (root_entries x) ps) ≤ keys_end
edited_size x ps h =
    let within = edited_within keys_end (root_entries x) ps in
    let same = ap length (within_all (root_entries x) ps (fit_from_rises 0 ps h)) in
    let size = rises-length 0 keys_end within (within_rises keys_end (root_entries x) ps (omega arith) (root_rises x)) in
    omega arith
