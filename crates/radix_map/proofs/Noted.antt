-- Noted edits by rising key, over entries by rising key: the value at a key, the first entry, and that only keys and values of edits matter.
use Rattle.std.proofs.Common.{inl, inr, ◌≡◌, ℕ, suc, zero, ◌+◌, ◌<◌, ◌≤◌, List, [], ◌∷◌, ◌++◌, length, map, take, get_or, Bool, true, false, cond, is_eq, nat_cmp, option_map, MatchOption, Option, Some, None, refl, sym, ap, ◌∙◌, subst, arith}
use Rattle.std.specs.Bool.{nat_lt}
use Rattle.std.specs.List.Sorted.{IsPartitionedBy}
use Rattle.std.proofs.lemmas.List.Sorted.{IsPartitionedBy-ltb}
use Rattle.std.specs.Arc.{arc_value}
use Rattle.std.specs.declared.sync.Arc.{Arc}
use Rattle.std.specs.Ordering.{match_ordering}
use Rattle.radix_map.specs.Entries.{value_at, with_key, without_key, edited, edited_all, Rises, KeysFit, keys_end}
use Rattle.radix_map.specs.Pending.{plain_edit, StartsAbove, IsPast}
use Rattle.radix_map.specs.Rising.{rises_lower}
use Rattle.radix_map.proofs.Keys.{value_below, rises_order, edited-append_right, with_below, without_below}
use Rattle.radix_map.proofs.Trees.{edited_rises}
use Rattle.radix_map.proofs.Values.{same_key, key_equal, value_edited}

pub fit_from_rises : {V Z : Type 0} (a : ℕ) (ps : List (ℕ × Option (Arc V Z))) → Rises a keys_end ps → KeysFit ps
fit_from_rises a [] h = tt
fit_from_rises a (p ∷ ps) h = let l = rises_order (p.0 + 1) keys_end ps h.1 in (omega arith, fit_from_rises (p.0 + 1) ps h.1)

-- ---- the value at a key

-- what is found at a key: what an edit sets, where there is one, and o else
abbrev pub edit_or : {V Z : Type 0} → Option (Option (Arc V Z)) → Option V → Option V
edit_or None o = o
edit_or (Some e) o = option_map arc_value e

noted_first : {V Z : Type 0} (k b : ℕ) (e : ℕ × Option (Arc V Z)) (ps : List (ℕ × Option (Arc V Z))) (u : Option V) (t : Bool)
    → is_eq (nat_cmp k e.0) ≡ t → Rises (e.0 + 1) b ps
    → edit_or (value_at k ps) (cond t (option_map arc_value e.1) u) ≡ edit_or (cond t (Some e.1) (value_at k ps)) u
noted_first k b e ps u true q h =
    let at = same_key k e.0 q in
    ap (λ o. edit_or o (option_map arc_value e.1)) (value_below k (e.0 + 1) b ps h (omega arith))
noted_first k b e ps u false q h = refl

pub value_noted : {V Z : Type 0} (k a b : ℕ) (es : List (ℕ × V)) (ps : List (ℕ × Option (Arc V Z))) → Rises 0 b es
    → Rises a b ps → value_at k (edited_all es ps) ≡ edit_or (value_at k ps) (value_at k es)
unfolding edited_all
value_noted k a b es [] h g = refl
value_noted k a b es (p ∷ ps) h g =
    let o = option_map arc_value p.1 in
    let l = rises_order (p.0 + 1) b ps g.1 in
    value_noted k (p.0 + 1) b (edited es p.0 o) ps (edited_rises 0 b p.0 o es (omega arith) (omega arith) h) g.1
    ∙ ap (edit_or (value_at k ps)) (value_edited k p.0 b o es h)
    ∙ noted_first k b p ps (value_at k es) (is_eq (nat_cmp k p.0)) refl g.1

-- ---- the first entry

-- an entry below all edits stays in front
pub first_stays : {V Z : Type 0} (k b : ℕ) (v : V) (es : List (ℕ × V)) (ps : List (ℕ × Option (Arc V Z)))
    → Rises (k + 1) b ps → edited_all ((k, v) ∷ es) ps ≡ (k, v) ∷ edited_all es ps
unfolding edited_all
first_stays k b v es [] h = refl
first_stays k b v es (p ∷ ps) h =
    let o = option_map arc_value p.1 in
    let low = h.0 in
    let below : k ≤ k = omega arith in
    let end : k + 1 ≤ k + 1 = omega arith in
    ap (λ t. edited_all t ps) (edited-append_right p.0 k (k + 1) o ((k, v) ∷ []) es (below, end) low)
    ∙ first_stays k b v (edited es p.0 o) ps (rises_lower (k + 1) (p.0 + 1) b ps (omega arith) h.1)

-- an edit below all entries, or at the first of them
pub edited_above : {V : Type 0} (k b : ℕ) (o : Option V) (es : List (ℕ × V)) → Rises (k + 1) b es → edited es k o ≡ edited [] k o ++ es
edited_above k b None es h = without_below k (k + 1) b es h (omega arith)
edited_above k b (Some v) es h = with_below k (k + 1) b v es h (omega arith)

pub edited_own : {V : Type 0} (k : ℕ) (o : Option V) (u : V) (es : List (ℕ × V)) → edited ((k, u) ∷ es) k o ≡ edited [] k o ++ es
edited_own k None u es = ap (λ r. cond (is_eq r) es ((k, u) ∷ without_key es k)) (key_equal k)
edited_own k (Some v) u es = ap (λ r. match_ordering r ((k, v) ∷ (k, u) ∷ es) ((k, v) ∷ es) ((k, u) ∷ with_key es k v)) (key_equal k)

pub rises_above : {V : Type 0} (k a b : ℕ) (es : List (ℕ × V)) → k < b → StartsAbove k es → Rises a b es → Rises (k + 1) b es
rises_above k a b [] l s h = omega arith
rises_above k a b (e ∷ es) l s h = (omega arith, h.1)

pub record IsBehind {V : Type 0} (k b : ℕ) (es rest : List (ℕ × V)) : Type 0 where
  pub edit : (o : Option V) → edited es k o ≡ edited [] k o ++ rest
  pub rises : Rises (k + 1) b rest

pub behind_past : {V : Type 0} (k b : ℕ) (es rest : List (ℕ × V)) → k < b → Rises 0 b es → IsPast k es rest → IsBehind k b es rest
behind_past k b es rest l h (inl p) =
    let above = rises_above k 0 b es l p.1 h in
    record {
      edit = λ o. edited_above k b o es above ∙ ap (λ t. edited [] k o ++ t) (sym p.0);
      rises = subst (Rises (k + 1) b) (sym p.0) above;
    }
behind_past {V} k b es rest l h (inr p) =
    let all : Rises 0 b ((k, p.0) ∷ rest) = subst (Rises 0 b) p.1 h in
    record {
      edit = λ o. ap (λ t. edited t k o) p.1 ∙ edited_own k o p.0 rest;
      rises = all.1;
    }

-- an entry of the tree comes first
pub tree_first : {V Z : Type 0} (b k : ℕ) (v : V) (es : List (ℕ × V)) (ps : List (ℕ × Option (Arc V Z))) (p : ℕ × Option (Arc V Z)) (later : List (ℕ × Option (Arc V Z)))
    → ps ≡ p ∷ later → k < p.0 → Rises 0 b ps → edited_all ((k, v) ∷ es) ps ≡ (k, v) ∷ edited_all es ps
tree_first b k v es ps p later e l h =
    let all : Rises 0 b (p ∷ later) = subst (Rises 0 b) e h in
    let above : Rises (k + 1) b (p ∷ later) = (omega arith, all.1) in
    first_stays k b v es ps (subst (Rises (k + 1) b) (sym e) above)

-- an edit comes first, which sets its key or removes it
pub edit_first : {V Z : Type 0} (b : ℕ) (v : V) (es rest : List (ℕ × V)) (ps : List (ℕ × Option (Arc V Z))) (p : ℕ × Option (Arc V Z)) (later : List (ℕ × Option (Arc V Z)))
    → ps ≡ p ∷ later → Rises 0 b es → Rises 0 b ps → IsPast p.0 es rest → Some v ≡ option_map arc_value p.1
    → edited_all es ps ≡ (p.0, v) ∷ edited_all rest later
unfolding edited_all
edit_first b v es rest ps p later e h g past o =
    let all : Rises 0 b (p ∷ later) = subst (Rises 0 b) e g in
    let low = rises_order (p.0 + 1) b later all.1 in
    let behind = behind_past p.0 b es rest (omega arith) h past in
    ap (edited_all es) e ∙ ap (λ t. edited_all (edited es p.0 t) later) (sym o)
    ∙ ap (λ t. edited_all t later) (behind.edit (Some v)) ∙ first_stays p.0 b v rest later all.1

pub edit_skipped : {V Z : Type 0} (b : ℕ) (es rest : List (ℕ × V)) (ps : List (ℕ × Option (Arc V Z))) (p : ℕ × Option (Arc V Z)) (later : List (ℕ × Option (Arc V Z)))
    → ps ≡ p ∷ later → Rises 0 b es → Rises 0 b ps → IsPast p.0 es rest → None ≡ option_map arc_value p.1
    → edited_all es ps ≡ edited_all rest later
unfolding edited_all
edit_skipped b es rest ps p later e h g past o =
    let all : Rises 0 b (p ∷ later) = subst (Rises 0 b) e g in
    let low = rises_order (p.0 + 1) b later all.1 in
    let behind = behind_past p.0 b es rest (omega arith) h past in
    ap (edited_all es) e ∙ ap (λ t. edited_all (edited es p.0 t) later) (sym o) ∙ ap (λ t. edited_all t later) (behind.edit None)

pub rises_rest : {V : Type 0} (b k : ℕ) (es rest : List (ℕ × V)) → k < b → Rises 0 b es → IsPast k es rest → Rises 0 b rest
rises_rest b k es rest l h past = let behind = behind_past k b es rest l h past in rises_lower 0 (k + 1) b rest (omega arith) behind.rises

pub rises_later : {V : Type 0} (b : ℕ) (es : List (ℕ × V)) (e : ℕ × V) (later : List (ℕ × V)) → es ≡ e ∷ later → Rises 0 b es → Rises 0 b later
rises_later b es e later q h = let all : Rises 0 b (e ∷ later) = subst (Rises 0 b) q h in rises_lower 0 (e.0 + 1) b later (omega arith) all.1

pub rises_key : {V : Type 0} (b : ℕ) (es : List (ℕ × V)) (e : ℕ × V) (later : List (ℕ × V)) → es ≡ e ∷ later → Rises 0 b es → e.0 < b
rises_key b es e later q h = let all : Rises 0 b (e ∷ later) = subst (Rises 0 b) q h in let l = rises_order (e.0 + 1) b later all.1 in omega arith

-- ---- only keys and values of edits matter

pub edited_plainly : {V Z Y : Type 0} (es : List (ℕ × V)) (ps : List (ℕ × Option (Arc V Z))) (qs : List (ℕ × Option (Arc V Y)))
    → map plain_edit ps ≡ map plain_edit qs → edited_all es ps ≡ edited_all es qs
unfolding edited_all
edited_plainly es [] [] e = refl
edited_plainly es [] (q ∷ qs) e = cc
edited_plainly es (p ∷ ps) [] e = cc
edited_plainly es (p ∷ ps) (q ∷ qs) e =
    let first : plain_edit p ≡ plain_edit q = cc in
    let rest : map plain_edit ps ≡ map plain_edit qs = cc in
    ap (λ (t : _). edited_all (edited es t.0 t.1) ps) first ∙ edited_plainly (edited es q.0 (option_map arc_value q.1)) ps qs rest

pub rises_plainly : {V Z Y : Type 0} (a b : ℕ) (ps : List (ℕ × Option (Arc V Z))) (qs : List (ℕ × Option (Arc V Y)))
    → map plain_edit ps ≡ map plain_edit qs → Rises a b qs → Rises a b ps
rises_plainly a b [] [] e h = h
rises_plainly a b [] (q ∷ qs) e h = cc
rises_plainly a b (p ∷ ps) [] e h = cc
rises_plainly a b (p ∷ ps) (q ∷ qs) e h =
    let first : plain_edit p ≡ plain_edit q = cc in
    let rest : map plain_edit ps ≡ map plain_edit qs = cc in
    let key : p.0 ≡ q.0 = ap (λ (t : _). t.0) first in
    (subst (λ n. a ≤ n) (sym key) h.0, rises_plainly (p.0 + 1) b ps qs rest (subst (λ n. Rises (n + 1) b qs) (sym key) h.1))

-- ---- whether edits rise, one after another

pub rises_more : {V : Type 0} (a b : ℕ) (es : List (ℕ × V)) (i : ℕ) (d : ℕ × V) → i < length es → Rises a b (take i es)
    → b ≤ (get_or es i d).0 → Rises a ((get_or es i d).0 + 1) (take (suc i) es)
rises_more a b [] i d l h k = absurd (omega arith)
rises_more a b (e ∷ es) zero d l h k = (omega arith, omega arith)
rises_more a b (e ∷ es) (suc i) d l h k = (h.0, rises_more (e.0 + 1) b es i d (omega arith) h.1 k)

-- ---- edits are parted by a key

rises_at : {V : Type 0} (a b i : ℕ) (es : List (ℕ × V)) (d : ℕ × V) → Rises a b es → i < length es → a ≤ (get_or es i d).0
rises_at a b i [] d h l = absurd (omega arith)
rises_at a b zero (e ∷ es) d h l = h.0
rises_at a b (suc i) (e ∷ es) d h l = let first = h.0 in let k = rises_at (e.0 + 1) b i es d h.1 (omega arith) in omega arith

rises_by : {V : Type 0} (a b : ℕ) (es : List (ℕ × V)) → Rises a b es → (i j : ℕ) (d : ℕ × V) → i ≤ j → j < length es
    → (get_or es i d).0 ≤ (get_or es j d).0
rises_by a b [] h i j d l n = absurd (omega arith)
rises_by a b (e ∷ es) h zero zero d l n = omega arith
rises_by a b (e ∷ es) h zero (suc j) d l n = let k = rises_at (e.0 + 1) b j es d h.1 (omega arith) in omega arith
rises_by a b (e ∷ es) h (suc i) zero d l n = absurd (omega arith)
rises_by a b (e ∷ es) h (suc i) (suc j) d l n = rises_by (e.0 + 1) b es h.1 i j d (omega arith) (omega arith)

pub rising_parted : {V : Type 0} (a b k : ℕ) (es : List (ℕ × V)) → Rises a b es → IsPartitionedBy (λ e. nat_lt e.0 k) es
rising_parted a b k es h = IsPartitionedBy-ltb (λ e. e.0) es k (rises_by a b es h)

-- ---- when no edit is left, the tree's own entries come

pub no_items : {X : Type 0} (xs : List X) → length xs ≡ 0 → xs ≡ []
no_items [] e = refl
no_items (x ∷ xs) e = absurd (omega arith)

pub last_first : {V Z R : Type 0} (r : Option R) (f : R → ℕ × V) (start old new : List (ℕ × V)) (ps : List (ℕ × Option (Arc V Z)))
    → ps ≡ [] → edited_all old ps ≡ start → MatchOption r ((old ≡ []) × (new ≡ [])) (λ p. old ≡ f p ∷ new)
    → MatchOption r ((start ≡ []) × (edited_all new ps ≡ [])) (λ p. start ≡ f p ∷ edited_all new ps)
unfolding edited_all
last_first None f start old new ps e s (h, k) = (sym s ∙ ap (edited_all old) e ∙ h, ap (edited_all new) e ∙ k)
last_first (Some p) f start old new ps e s h = sym s ∙ ap (edited_all old) e ∙ h ∙ ap (λ t. f p ∷ t) (sym (ap (edited_all new) e))

pub last_rises : {V R : Type 0} (r : Option R) (f : R → ℕ × V) (b : ℕ) (old new : List (ℕ × V))
    → MatchOption r ((old ≡ []) × (new ≡ [])) (λ p. old ≡ f p ∷ new) → Rises 0 b old → Rises 0 b new
last_rises None f b old new (h, k) g = subst (Rises 0 b) (h ∙ sym k) g
last_rises (Some p) f b old new h g = rises_later b old (f p) new h g
