-- Edges make a drawing exactly where each is in its place.
use Rattle.std.proofs.Common.{◌≡◌, ◌∙◌, ap, ℕ, ◌+◌, ◌-◌, ◌<◌, arith, List, length, get_or}
use Rattle.std.specs.Prelude.{pos}
use Rattle.std.proofs.lemmas.Map.Keys.{Less-from_sorted, sorted_from_all_adjacent}
use Rattle.grid_core.specs.Edge.{EdgeEnds, edge_cmp}
use Rattle.grid_core.proofs.Order.{edge_total}
use Rattle.face_trace.specs.Links.{AreEdgesInOrder, IsPlaced}

nothing : EdgeEnds
nothing = record { a = record { x = pos 0; y = pos 0 }; b = record { x = pos 0; y = pos 0 } }

-- where each edge is in its place
pub drawing_of : (es : List EdgeEnds) → ((k : ℕ) → k < length es → IsPlaced es k) → AreEdgesInOrder es
drawing_of es placed = record {
  rising = sorted_from_all_adjacent edge_total es nothing (λ k l.
      ap (λ j. edge_cmp (get_or es j nothing) (get_or es (k + 1) nothing)) (before k)
      ∙ (placed (k + 1) l).after (omega arith) nothing);
  starts_within = λ k d l. (placed k l).start_within d;
  ends_within = λ k d l. (placed k l).end_within d;
}
  where
    before : (k : ℕ) → k ≡ k + 1 - 1
    before k = omega arith

-- each is in its place
pub place_of : (es : List EdgeEnds) → AreEdgesInOrder es → (k : ℕ) → k < length es → IsPlaced es k
place_of es drawing k l = record {
  start_within = λ d. drawing.starts_within k d l;
  end_within = λ d. drawing.ends_within k d l;
  after = λ h d. Less-from_sorted edge_cmp es (k - 1) k d drawing.rising (omega arith) l;
}
