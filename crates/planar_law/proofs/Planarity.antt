-- The edges and hot pixels of a rounding are planar. Two edges whose four ends differ have no point in
-- common (NoShare). Two with a common end have no other (Fan), unless they are one edge: then both ends
-- agree, in order. That no vertex lies inside an edge is VertexOnEdge.

use Rattle.std.proofs.Common.{◌≡◌, refl, sym, ◌⊎◌, inl, inr, List}
use Rattle.std.specs.Prelude.{pos, ◌<ℤ◌}
use Rattle.grid_core.specs.Vector.{point_cmp}
use Rattle.grid_core.specs.Segment.{Segment}
use Rattle.grid_core.specs.Edge.{EdgeEnds, IsEdge}
use Rattle.grid_core.specs.Crossing.{RationalPoint}
use Rattle.grid_core.specs.Rounding.{hot, edges}
use Rattle.grid_core.specs.Planar.{whole_point, IsOnePoint, IsCommonEnd, IsPlanar}
use Rattle.grid_core.proofs.Order.{point_same, point_lesser}
use Rattle.planar_law.proofs.EdgePieces.{IsEdgeOf, edge_of, same_point, piece_turned}
use Rattle.planar_law.proofs.OnEdge.{IsShared, shared, shared_first, shared_second, meet_along}
use Rattle.planar_law.proofs.VertexOnEdge.{ended}
use Rattle.planar_law.proofs.NoShare.{no_share}
use Rattle.planar_law.proofs.Fan.{fan}

-- the ends of an edge differ
not_one : (e : EdgeEnds) → IsEdge e → e.b ≡ e.a → ⊥
not_one e h same = cc (h, point_same e.a e.b (sym same))

-- two edges with the same ends are one, as their lesser ends come first
one_edge : (e f : EdgeEnds) → e.a ≡ f.a → e.b ≡ f.b → e ≡ f
one_edge e f ha hb l = record { a = ha l; b = hb l }

not_crossed : (e f : EdgeEnds) → IsEdge e → IsEdge f → e.a ≡ f.b → e.b ≡ f.a → ⊥
not_crossed e f h g ab ba =
    let same : point_cmp e.b e.a ≡ point_cmp f.a f.b = λ l. point_cmp (ba l) (ab l) in
    cc (point_lesser e.a e.b h, g, same)

module _ (ss : List Segment) (e f : EdgeEnds) (c : RationalPoint) (g : IsEdgeOf ss e) (h : IsEdgeOf ss f)
    (some : pos 0 <ℤ c.den) (on : IsShared e.a e.b f.a f.b c) where
  -- by which ends are one point
  aa : e.a ≡ f.a → (e ≡ f) ⊎ IsCommonEnd e f c
  aa same =
      by (fan ss g.s h.s e.a e.b f.a f.b c g.piece h.piece g.hot_b h.hot_b (not_one e g.ordered) (not_one f h.ordered)
      some on same)
    where
      by : (e.b ≡ f.b) ⊎ IsOnePoint c (whole_point e.a) → (e ≡ f) ⊎ IsCommonEnd e f c
      by (inl both) = inl (one_edge e f same both)
      by (inr is) = inr (record { at = e.a; of_first = inl refl; of_second = inl same; is = is })

  ab : e.a ≡ f.b → (e ≡ f) ⊎ IsCommonEnd e f c
  ab same =
      by (fan ss g.s h.s e.a e.b f.b f.a c g.piece (piece_turned ss h.s f.a f.b h.piece) g.hot_b h.hot_a
      (not_one e g.ordered) (λ z. not_one f h.ordered (sym z)) some (shared_second on) same)
    where
      by : (e.b ≡ f.a) ⊎ IsOnePoint c (whole_point e.a) → (e ≡ f) ⊎ IsCommonEnd e f c
      by (inl both) = absurd (not_crossed e f g.ordered h.ordered same both)
      by (inr is) = inr (record { at = e.a; of_first = inl refl; of_second = inr same; is = is })

  ba : e.b ≡ f.a → (e ≡ f) ⊎ IsCommonEnd e f c
  ba same =
      by (fan ss g.s h.s e.b e.a f.a f.b c (piece_turned ss g.s e.a e.b g.piece) h.piece g.hot_a h.hot_b
      (λ z. not_one e g.ordered (sym z)) (not_one f h.ordered) some (shared_first on) same)
    where
      by : (e.a ≡ f.b) ⊎ IsOnePoint c (whole_point e.b) → (e ≡ f) ⊎ IsCommonEnd e f c
      by (inl both) = absurd (not_crossed e f g.ordered h.ordered both same)
      by (inr is) = inr (record { at = e.b; of_first = inr refl; of_second = inl same; is = is })

  bb : e.b ≡ f.b → (e ≡ f) ⊎ IsCommonEnd e f c
  bb same =
      by (fan ss g.s h.s e.b e.a f.b f.a c (piece_turned ss g.s e.a e.b g.piece)
      (piece_turned ss h.s f.a f.b h.piece) g.hot_a h.hot_a (λ z. not_one e g.ordered (sym z))
      (λ z. not_one f h.ordered (sym z)) some (shared_first (shared_second on)) same)
    where
      by : (e.a ≡ f.a) ⊎ IsOnePoint c (whole_point e.b) → (e ≡ f) ⊎ IsCommonEnd e f c
      by (inl both) = inl (one_edge e f both same)
      by (inr is) = inr (record { at = e.b; of_first = inr refl; of_second = inr same; is = is })

  one_or_end : (e ≡ f) ⊎ IsCommonEnd e f c
  one_or_end = by (same_point e.a f.a) (same_point e.a f.b) (same_point e.b f.a) (same_point e.b f.b)
    where
      by : (e.a ≡ f.a) ⊎ (e.a ≡ f.a → ⊥) → (e.a ≡ f.b) ⊎ (e.a ≡ f.b → ⊥)
          → (e.b ≡ f.a) ⊎ (e.b ≡ f.a → ⊥)
          → (e.b ≡ f.b) ⊎ (e.b ≡ f.b → ⊥) → (e ≡ f) ⊎ IsCommonEnd e f c
      by (inl same) _ _ _ = aa same
      by (inr _) (inl same) _ _ = ab same
      by (inr _) (inr _) (inl same) _ = ba same
      by (inr _) (inr _) (inr _) (inl same) = bb same
      by (inr uw) (inr uz) (inr vw) (inr vz) =
          absurd (no_share ss e f g h (record { uw = uw; uz = uz; vw = vw; vz = vz }) (meet_along some on))

-- the edges and hot pixels of a rounding are planar
pub planar_of_rounding : (ss : List Segment) → IsPlanar (edges ss) (hot ss)
planar_of_rounding ss =
    record {
      apart = λ e f c he hf some on_e on_f.
          one_or_end ss e f c (edge_of ss e he) (edge_of ss f hf) some (shared e f c on_e on_f);
      ended = λ e h he is_hot on. ended ss e h (edge_of ss e he) is_hot on;
    }
