-- A map in two halves, the keys below a bound and those from it on: each edit changes the half of its
-- key alone, and both halves stay on their side.
use Rattle.std.proofs.Common.{◌≡◌, refl, sym, ap, subst, ◌∙◌, ℕ, ◌<◌, ◌≤◌, arith, ◌⊎◌, inl, inr}
use Rattle.std.proofs.Common.{List, [], ◌∷◌, ◌++◌, Option, option_map}
use Rattle.std.specs.Arc.{arc_value}
use Rattle.std.specs.declared.sync.Arc.{Arc}
use Rattle.radix_map.specs.Entries.{entries_from, entries_below, edited, edited_all, Rises, KeysFit, keys_end}
use Rattle.radix_map.proofs.Cuts.{below_or_from, from_first, from_later, below_first, below_later, from-append}
use Rattle.radix_map.proofs.Cuts.{from_all, from_none, cut, below_rises, from_rises}
use Rattle.radix_map.proofs.Keys.{edited-append_left, edited-append_right}
use Rattle.radix_map.proofs.Trees.{edited_rises}

-- the halves after edits
pub record AreHalves {V Z : Type 0} (bound : ℕ) (low high : List (ℕ × V)) (edits : List (ℕ × Option (Arc V Z))) : Type 0 where
  pub both : edited_all (low ++ high) edits ≡ edited_all low (entries_below bound edits) ++ edited_all high (entries_from bound edits)
  pub low_rises : Rises 0 bound (edited_all low (entries_below bound edits))
  pub high_rises : Rises bound keys_end (edited_all high (entries_from bound edits))

-- an edit more, in front of edits of either half
low_first : {V Z : Type 0} (bound : ℕ) (low high : List (ℕ × V)) (e : ℕ × Option (Arc V Z)) (edits : List (ℕ × Option (Arc V Z)))
    → e.0 < bound → Rises bound keys_end high → AreHalves bound (edited low e.0 (option_map arc_value e.1)) high edits
    → AreHalves bound low high (e ∷ edits)
unfolding edited_all
low_first bound low high e edits l h rest =
    let o = option_map arc_value e.1 in
    let own = below_first bound e edits l in
    let other = from_later bound e edits l in
    record {
      both =
          ap (λ es. edited_all es edits) (edited-append_left e.0 bound keys_end o low high h l) ∙ rest.both
          ∙ sym (ap (λ ps. edited_all low ps ++ edited_all high (entries_from bound (e ∷ edits))) own
          ∙ ap (λ ps. edited_all (edited low e.0 o) (entries_below bound edits) ++ edited_all high ps) other);
      low_rises = subst (λ ps. Rises 0 bound (edited_all low ps)) (sym own) rest.low_rises;
      high_rises = subst (λ ps. Rises bound keys_end (edited_all high ps)) (sym other) rest.high_rises;
    }

high_first : {V Z : Type 0} (bound : ℕ) (low high : List (ℕ × V)) (e : ℕ × Option (Arc V Z)) (edits : List (ℕ × Option (Arc V Z)))
    → bound ≤ e.0 → Rises 0 bound low → AreHalves bound low (edited high e.0 (option_map arc_value e.1)) edits
    → AreHalves bound low high (e ∷ edits)
unfolding edited_all
high_first bound low high e edits l h rest =
    let o = option_map arc_value e.1 in
    let own = from_first bound e edits l in
    let other = below_later bound e edits l in
    record {
      both =
          ap (λ es. edited_all es edits) (edited-append_right e.0 0 bound o low high h l) ∙ rest.both
          ∙ sym (ap (λ ps. edited_all low (entries_below bound (e ∷ edits)) ++ edited_all high ps) own
          ∙ ap (λ ps. edited_all low ps ++ edited_all (edited high e.0 o) (entries_from bound edits)) other);
      low_rises = subst (λ ps. Rises 0 bound (edited_all low ps)) (sym other) rest.low_rises;
      high_rises = subst (λ ps. Rises bound keys_end (edited_all high ps)) (sym own) rest.high_rises;
    }

pub halves : {V Z : Type 0} (bound : ℕ) (low high : List (ℕ × V)) (edits : List (ℕ × Option (Arc V Z))) → Rises 0 bound low
    → Rises bound keys_end high → KeysFit edits → AreHalves bound low high edits
unfolding edited_all entries_below entries_from
halves bound low high [] l h fit = record { both = refl; low_rises = l; high_rises = h }
halves {V} {Z} bound low high (e ∷ edits) l h fit =
    let o = option_map arc_value e.1 in
    by (λ k. halves bound (edited low e.0 o) high edits (edited_rises 0 bound e.0 o low (omega arith) k l) h fit.1)
    (λ k. halves bound low (edited high e.0 o) edits l (edited_rises bound keys_end e.0 o high k fit.0 h) fit.1)
    (below_or_from bound e.0)
  where
    by : (e.0 < bound → AreHalves bound (edited low e.0 (option_map arc_value e.1)) high edits)
        → (bound ≤ e.0 → AreHalves bound low (edited high e.0 (option_map arc_value e.1)) edits)
        → (e.0 < bound) ⊎ (bound ≤ e.0) → AreHalves bound low high (e ∷ edits)
    by below above (inl k) = low_first bound low high e edits k h (below k)
    by below above (inr k) = high_first bound low high e edits k l (above k)

-- what lies from a key on after edits is what lay there, after the edits there
pub from_edited : {V Z : Type 0} (from : ℕ) (es : List (ℕ × V)) (edits : List (ℕ × Option (Arc V Z))) → from ≤ keys_end
    → Rises 0 keys_end es → KeysFit edits
    → entries_from from (edited_all es edits) ≡ edited_all (entries_from from es) (entries_from from edits)
from_edited from es edits l h fit =
    let low = entries_below from es in
    let high = entries_from from es in
    let two = halves from low high edits (below_rises from 0 keys_end es h (omega arith)) (from_rises from 0 keys_end es h l) fit in
    let low_after = edited_all low (entries_below from edits) in
    let high_after = edited_all high (entries_from from edits) in
    ap (λ t. entries_from from (edited_all t edits)) (sym (cut from 0 keys_end es h)) ∙ ap (entries_from from) two.both
    ∙ from-append from low_after high_after
    ∙ ap (λ t. t ++ entries_from from high_after) (from_none from 0 from low_after two.low_rises (omega arith))
    ∙ from_all from from keys_end high_after two.high_rises (omega arith)
