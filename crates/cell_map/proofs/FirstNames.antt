-- The first names of four that rise do rise.
use Rattle.std.proofs.Common.{◌≡◌, ◌∙◌, ap, sym, subst, refl, ℕ, zero, suc, List, [], ◌∷◌, take}
use Rattle.std.specs.List.Sorted.{IsStrictlySortedBy}
use Rattle.std.proofs.lemmas.List.{take-map}
use Rattle.grid_core.specs.LiveList.{names}
use Rattle.grid_core.specs.Name.{Label, label_cmp}
use Rattle.grid_core.specs.Segment.{Segment}

abbrev four_names : List Label
four_names =
    record { editor = 1; serial = 1 } ∷ record { editor = 1; serial = 2 } ∷ record { editor = 1; serial = 3 }
    ∷ record { editor = 1; serial = 4 } ∷ []

rising : (n : ℕ) → IsStrictlySortedBy label_cmp (take n four_names)
unfolding IsStrictlySortedBy
rising zero = tt
rising (suc zero) = (tt, tt)
rising (suc (suc zero)) = ((refl, tt), (tt, tt))
rising (suc (suc (suc zero))) = ((refl, (refl, tt)), ((refl, tt), (tt, tt)))
rising (suc (suc (suc (suc zero)))) =
    ((refl, (refl, (refl, tt))), ((refl, (refl, tt)), ((refl, tt), (tt, tt))))
rising (suc (suc (suc (suc (suc n))))) =
    ((refl, (refl, (refl, tt))), ((refl, (refl, tt)), ((refl, tt), (tt, tt))))

pub first_rise : (n : ℕ) (ss : List Segment) → names ss ≡ four_names → IsStrictlySortedBy label_cmp (names (take n ss))
first_rise n ss e =
    subst (IsStrictlySortedBy label_cmp) (sym (ap (take n) e) ∙ take-map (λ (s : Segment). s.name) n ss) (rising n)
