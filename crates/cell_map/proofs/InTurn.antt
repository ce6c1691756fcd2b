-- Strips in order of their numbers, put in place one after the other, are the strips that they were: each number stands
-- once, so that no strip takes another's place.
use Rattle.std.proofs.Common.{◌≡◌, refl, ap, sym, subst, ◌∙◌, Bool, true, false, [], ◌∷◌, All, Contains, Option, Some, None}
use Rattle.std.specs.Prelude.{ℤ, if◌then◌else◌, cond, unwrap_or}
use Rattle.std.specs.BTreeMap.{is_at}
use Rattle.std.specs.Cmp.{IsEquivalence}
use Rattle.std.specs.List.Sorted.{IsStrictlySortedBy}
use Rattle.std.specs.Map.{lookup, keys_of}
use Rattle.std.specs.Ordering.{int_cmp, eq_by_cmp}
use Rattle.std.proofs.lemmas.Cmp.{int_cmp_total, eq_by_cmp_equiv}
use Rattle.std.proofs.lemmas.List.Elements.{All-weaker, All-contains_itself}
use Rattle.std.proofs.lemmas.Map.Keys.{IsDistinct-from_sorted}
use Rattle.std.proofs.lemmas.Map.Views.{Contains-from_lookup, lookup-from_Contains}
use Rattle.grid_core.proofs.ListMembers.{contains_later}
use Rattle.planar_law.specs.PlanarEdges.{Graph}
use Rattle.cell_map.specs.Strips.{Strips, strip_in, empty_strip}
use Rattle.cell_map.specs.Arranged.{IsSearchable}
use Rattle.cell_map.specs.Exchange.{exchanged}
use Rattle.cell_map.proofs.Filling.{one_strip}

abbrev equal : IsEquivalence (eq_by_cmp int_cmp)
equal = eq_by_cmp_equiv int_cmp_total

-- what lies under a number that stands once
found_once : (k : ℤ) (s : Graph) (strips : Strips) → IsStrictlySortedBy int_cmp (keys_of strips)
    → Contains strips (k, s) → lookup (is_at (int_cmp k)) strips ≡ Some s
found_once k s strips rises c =
    lookup-from_Contains equal k s strips (IsDistinct-from_sorted int_cmp (keys_of strips) rises) c

pub exchanged_all : (strips : Strips) (j : ℤ) (s : Graph) → IsStrictlySortedBy int_cmp (keys_of strips)
    → exchanged strips j s ≡ unwrap_or (lookup (is_at (int_cmp j)) strips) s
unfolding IsStrictlySortedBy
exchanged_all [] j s rises = refl
exchanged_all ((k, t) ∷ rest) j s rises =
    exchanged_all rest j (if is_at (int_cmp k) j then t else s) rises.1
    ∙ by (is_at (int_cmp k) j) refl (lookup (is_at (int_cmp j)) rest) refl
  where
    all : Strips
    all = (k, t) ∷ rest

    here : (b : Bool) → is_at (int_cmp k) j ≡ b
        → lookup (is_at (int_cmp j)) all ≡ cond b (Some t) (lookup (is_at (int_cmp j)) rest)
    here b e = ap (λ b. cond b (Some t) (lookup (is_at (int_cmp j)) rest)) (equal.symm j k ∙ e)

    later : (v : Graph) → lookup (is_at (int_cmp j)) rest ≡ Some v → lookup (is_at (int_cmp j)) all ≡ Some v
    later v e = found_once j v all rises (contains_later (k, t) rest (j, v) (Contains-from_lookup one_strip j v rest e))

    by : (b : Bool) → is_at (int_cmp k) j ≡ b → (o : Option Graph) → lookup (is_at (int_cmp j)) rest ≡ o
        → unwrap_or (lookup (is_at (int_cmp j)) rest) (if b then t else s) ≡ unwrap_or (lookup (is_at (int_cmp j)) all) s
    by true e (Some v) f =
        ap (λ (o : Option Graph). unwrap_or o t) f ∙ sym (ap (λ (o : Option Graph). unwrap_or o s) (later v f))
    by true e None f =
        ap (λ (o : Option Graph). unwrap_or o t) f ∙ sym (ap (λ (o : Option Graph). unwrap_or o s) (here true e))
    by false e o f = sym (ap (λ (o : Option Graph). unwrap_or o s) (here false e))

-- what holds of what lies in each strip holds of each that is there
pub all_searchable : (strips : Strips) → IsStrictlySortedBy int_cmp (keys_of strips)
    → ((k : ℤ) → IsSearchable k (strip_in strips k)) → All (λ p. IsSearchable p.0 p.1) strips
all_searchable strips rises h =
    All-weaker (Contains strips) (λ p. IsSearchable p.0 p.1)
    (λ p c. subst (IsSearchable p.0)
    (ap (λ (o : Option Graph). unwrap_or o empty_strip) (found_once p.0 p.1 strips rises c)) (h p.0))
    strips (All-contains_itself strips)
