-- Strips of a graph put in the place of others: what lies in a strip is what the graph has there, where
-- the strip's number was among theirs, and otherwise what lay there before.
use Rattle.std.proofs.Common.{◌≡◌, refl, ap, ◌∙◌, Bool, true, false, ◌||◌, List, [], ◌∷◌, All}
use Rattle.std.specs.Prelude.{ℤ, if◌then◌else◌}
use Rattle.std.specs.List.{list_any}
use Rattle.std.specs.BTreeMap.{is_at}
use Rattle.std.specs.Ordering.{int_cmp, int_eq}
use Rattle.std.proofs.lemmas.List.Elements.{All-map}
use Rattle.planar_law.specs.PlanarEdges.{Graph}
use Rattle.cell_map.specs.Strips.{Strips, strip_of_graph}
use Rattle.cell_map.specs.Exchange.{numbered, exchanged, IsKept}
use Rattle.cell_map.proofs.Filling.{one_strip, same_test}

-- where the strips of these numbers are kept, they are where their graph's strips are to go
pub numbered_kept : (g : Graph) (strips : Strips) (numbers : List ℤ) → All (IsKept strips) numbers
    → All (λ p. IsKept strips p.0) (numbered g numbers)
numbered_kept g strips numbers h = All-map (λ p. IsKept strips p.0) (λ k. (k, strip_of_graph g k)) numbers h

pub exchanged_numbered : (g : Graph) (numbers : List ℤ) (k : ℤ) (s : Graph)
    → exchanged (numbered g numbers) k s
    ≡ (if list_any (λ j. int_eq j k) numbers then strip_of_graph g k else s)
exchanged_numbered g [] k s = refl
exchanged_numbered g (j ∷ rest) k s =
    exchanged_numbered g rest k (if is_at (int_cmp j) k then strip_of_graph g j else s)
    ∙ by (is_at (int_cmp j) k) refl (list_any (λ j. int_eq j k) rest)
    ∙ ap (λ t. if t || list_any (λ j. int_eq j k) rest then strip_of_graph g k else s) (same_test j k)
  where
    by : (b : Bool) → is_at (int_cmp j) k ≡ b → (r : Bool)
        → (if r then strip_of_graph g k else (if b then strip_of_graph g j else s))
        ≡ (if b || r then strip_of_graph g k else s)
    by true e true = refl
    by true e false = ap (strip_of_graph g) (one_strip j k e)
    by false e true = refl
    by false e false = refl
