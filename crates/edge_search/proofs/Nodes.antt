-- The nodes that have a leaf, from the leaf up. Their widths double: so of two of them the one of the lesser number is no
-- later than the other's half, and a node has one width.
use Rattle.std.proofs.Common.{◌≡◌, refl, sym, ap, ap₂, ◌∙◌, arith, inl, inr, ℕ, suc, ◌*◌, ◌^◌, ◌<◌, ◌≤◌}
use Rattle.std.proofs.Common.{IsTrue, ◌&&◌, [], ◌∷◌, List}
use Rattle.std.specs.Prelude.{ℤ, pos, neg_ℤ, ◌+ℤ◌, ◌-ℤ◌, ◌*ℤ◌, ◌<ℤ◌, ◌≤ℤ◌, ◌⊎◌}
use Rattle.std.specs.Int.{int_div_euclid}
use Rattle.std.proofs.Math.Nat.{pow-suc}
use Rattle.std.proofs.Math.Pow.{pow_mono}
use Rattle.grid_core.specs.declared.point.Point.{Point}
use Rattle.grid_core.specs.Vector.{IsWithin}
use Rattle.grid_core.specs.Edge.{EdgeEnds}
use Rattle.grid_core.specs.Places.{spans, strip_of}
use Rattle.grid_core.proofs.Signed.{signed, size_bounds, le_true, lt_true}
use Rattle.grid_core.proofs.Ring.{int_mul_nonneg, int_lt_of_mul}
use Rattle.grid_core.proofs.Polynomial.{V, K, ◌⊕◌, ◌⊖◌, ◌⊗◌, same_polynomial}
use Rattle.grid_core.proofs.Crossings.{floor_low, floor_high}
use Rattle.grid_core.proofs.Quotients.{floor_ge, floor_le, above_floor_ge, below_floor_le}
use Rattle.edge_search.specs.Pieces.{column, IsNode, IsUnder, HasColumn, IsPiece}
use Rattle.edge_search.specs.Nodes.{IsLeafOf}
use Rattle.edge_search.specs.declared.piece.Piece.{Piece}
use Rattle.edge_search.proofs.Enough.{spans_low, spans_high}

-- ---- widths

abbrev IsPower : ℤ → Type 0
IsPower w = (l : ℕ) × (w ≡ pos (2 ^ l))

power_positive : {w : ℤ} → IsPower w → pos 0 <ℤ w
power_positive h = let some : 1 ≤ 2 ^ h.0 = pow_mono {i = 0} (omega arith) in omega (arith, signed, h.1, some)

doubled : (l m : ℕ) → l < m → 2 * 2 ^ l ≤ 2 ^ m
doubled l m less =
    let more : 2 ^ (suc l) ≤ 2 ^ m = pow_mono {i = suc l} (omega (arith, less)) in
    omega (arith, more, pow-suc 2 l)

powers_rank : {w v : ℤ} → IsPower w → IsPower v → (w ≡ v) ⊎ (((pos 2 *ℤ w) ≤ℤ v) ⊎ ((pos 2 *ℤ v) ≤ℤ w))
powers_rank {w} {v} h k = by (ranks h.0 k.0)
  where
    ranks : (l m : ℕ) → (l ≡ m) ⊎ ((l < m) ⊎ (m < l))
    ranks l m = grind arith

    by : (h.0 ≡ k.0) ⊎ ((h.0 < k.0) ⊎ (k.0 < h.0)) → (w ≡ v) ⊎ (((pos 2 *ℤ w) ≤ℤ v) ⊎ ((pos 2 *ℤ v) ≤ℤ w))
    by (inl same) = inl (h.1 ∙ ap (λ (l : ℕ). pos (2 ^ l)) same ∙ sym k.1)
    by (inr (inl less)) = inr (inl (omega (arith, signed, h.1, k.1, doubled h.0 k.0 less)))
    by (inr (inr less)) = inr (inr (omega (arith, signed, h.1, k.1, doubled k.0 h.0 less)))

-- ---- products

product_rest : (n w v : ℤ) → n *ℤ (w -ℤ pos 2 *ℤ v) ≡ n *ℤ w -ℤ pos 2 *ℤ (n *ℤ v)
product_rest n w v = same_polynomial (n ∷ w ∷ v ∷ []) (V 0 ⊗ (V 1 ⊖ K (pos 2) ⊗ V 2)) (V 0 ⊗ V 1 ⊖ K (pos 2) ⊗ (V 0 ⊗ V 2)) refl

width_rest : (n w : ℤ) → n *ℤ (w -ℤ pos 1) ≡ n *ℤ w -ℤ n
width_rest n w = same_polynomial (n ∷ w ∷ []) (V 0 ⊗ (V 1 ⊖ K (pos 1))) (V 0 ⊗ V 1 ⊖ V 0) refl

ends_rest : (n w v : ℤ) → (n +ℤ pos 1) *ℤ (v -ℤ pos 2 *ℤ w) ≡ (n *ℤ v +ℤ v) -ℤ pos 2 *ℤ (n *ℤ w +ℤ w)
ends_rest n w v =
    same_polynomial (n ∷ w ∷ v ∷ []) ((V 0 ⊕ K (pos 1)) ⊗ (V 2 ⊖ K (pos 2) ⊗ V 1))
    ((V 0 ⊗ V 2 ⊕ V 2) ⊖ K (pos 2) ⊗ (V 0 ⊗ V 1 ⊕ V 1)) refl

node_power : {n w : ℤ} → IsNode n w → IsPower w
node_power h = (h.power.0, h.power.2)

-- what is at least 256 times a positive number is positive
node_positive : (n w : ℤ) → pos 0 <ℤ w → pos 256 ≤ℤ (n *ℤ w) → pos 0 <ℤ n
node_positive n w some h =
    let turned : w *ℤ n ≡ n *ℤ w = same_polynomial (n ∷ w ∷ []) (V 1 ⊗ V 0) (V 0 ⊗ V 1) refl in
    let none : w *ℤ pos 0 ≡ pos 0 = same_polynomial (w ∷ []) (V 0 ⊗ K (pos 0)) (K (pos 0)) refl in
    int_lt_of_mul w (pos 0) n some (omega (arith, signed, turned, none, h))

pub node_above : {n w : ℤ} → IsNode n w → pos 0 <ℤ n
node_above {n} {w} h = node_positive n w (power_positive (node_power h)) h.from

-- ---- from the leaf up

-- node n of w columns has the leaf. So has 0, which is over the root, of twice its columns
pub record Climbs (leaf n w : ℤ) : Type 0 where
  pub power : (l : ℕ) × (w ≡ pos (2 ^ l))
  pub under : IsUnder n w leaf

module _ (leaf : ℤ) where
  pub at_leaf : Climbs leaf leaf (pos 1)
  at_leaf = record { power = (0, refl); under = record { from = omega (arith, signed); to = omega (arith, signed) } }

  pub climbed : (n w : ℤ) → Climbs leaf n w → Climbs leaf (int_div_euclid n (pos 2)) (pos 2 *ℤ w)
  climbed n w h =
      let half = int_div_euclid n (pos 2) in
      let some = power_positive h.power in
      let low = floor_low n (pos 2) (omega (arith, signed)) in
      let high = floor_high n (pos 2) (omega (arith, signed)) in
      let down = int_mul_nonneg w (n -ℤ pos 2 *ℤ half) (omega (arith, signed, some)) (omega (arith, signed, low)) in
      let up = int_mul_nonneg w (pos 2 *ℤ half +ℤ pos 1 -ℤ n) (omega (arith, signed, some)) (omega (arith, signed, high)) in
      let down_is : w *ℤ (n -ℤ pos 2 *ℤ half) ≡ n *ℤ w -ℤ half *ℤ (pos 2 *ℤ w) =
      same_polynomial (n ∷ w ∷ half ∷ []) (V 1 ⊗ (V 0 ⊖ K (pos 2) ⊗ V 2)) (V 0 ⊗ V 1 ⊖ V 2 ⊗ (K (pos 2) ⊗ V 1)) refl in
      let up_is : w *ℤ (pos 2 *ℤ half +ℤ pos 1 -ℤ n) ≡ half *ℤ (pos 2 *ℤ w) +ℤ w -ℤ n *ℤ w =
      same_polynomial (n ∷ w ∷ half ∷ []) (V 1 ⊗ (K (pos 2) ⊗ V 2 ⊕ K (pos 1) ⊖ V 0))
      (V 2 ⊗ (K (pos 2) ⊗ V 1) ⊕ V 1 ⊖ V 0 ⊗ V 1) refl in
      let twice : 2 ^ (suc h.power.0) ≡ 2 ^ h.power.0 * 2 = pow-suc 2 h.power.0 in
      record {
        power = (suc h.power.0, omega (arith, signed, h.power.1, twice));
        under = record {
          from = omega (arith, signed, down, down_is, h.under.from);
          to = omega (arith, signed, up, up_is, h.under.to);
        };
      }

  -- a node of w columns that has the leaf is a node of no other number of columns
  pub one_width : (n w v : ℤ) → pos 0 <ℤ n → pos 256 ≤ℤ leaf → leaf <ℤ pos 512 → Climbs leaf n w → IsNode n v → v ≡ w
  one_width n w v some from to h k = by (powers_rank (node_power k) h.power)
    where
      by : (v ≡ w) ⊎ (((pos 2 *ℤ v) ≤ℤ w) ⊎ ((pos 2 *ℤ w) ≤ℤ v)) → v ≡ w
      by (inl same) = same
      by (inr (inl less)) =
          let gap = int_mul_nonneg n (w -ℤ pos 2 *ℤ v) (omega (arith, signed, some)) (omega (arith, signed, less)) in
          absurd (omega (arith, signed, gap, product_rest n w v, k.from, h.under.from, to))
      by (inr (inr less)) =
          let gap = int_mul_nonneg (n +ℤ pos 1) (v -ℤ pos 2 *ℤ w) (omega (arith, signed, some)) (omega (arith, signed, less)) in
          absurd (omega (arith, signed, gap, ends_rest n w v, k.to, h.under.to, from))

  -- no node that has the leaf comes after it
  pub none_after : (m v : ℤ) → IsNode m v → IsUnder m v leaf → m ≤ℤ leaf
  none_after m v k has =
      let some = power_positive (node_power k) in
      let some_m = node_positive m v some k.from in
      let gap = int_mul_nonneg m (v -ℤ pos 1) (omega (arith, signed, some_m)) (omega (arith, signed, some)) in
      omega (arith, signed, gap, width_rest m v, has.from)

  -- a node that has the leaf, and isn't as late as another that has it, is no later than the node over that
  pub next_node : (n w m v : ℤ) → pos 0 <ℤ n → Climbs leaf n w → IsNode m v → IsUnder m v leaf → m <ℤ n
      → m ≤ℤ int_div_euclid n (pos 2)
  next_node n w m v some h k has less = by (powers_rank h.power (node_power k))
    where
      some_w : pos 0 <ℤ w
      some_w = power_positive h.power

      some_v : pos 0 <ℤ v
      some_v = power_positive (node_power k)

      no_wider : v ≤ℤ w → m ≤ℤ int_div_euclid n (pos 2)
      no_wider narrow =
          let gap = int_mul_nonneg n (w -ℤ v) (omega (arith, signed, some)) (omega (arith, signed, narrow)) in
          let gap_is : n *ℤ (w -ℤ v) ≡ n *ℤ w -ℤ n *ℤ v =
          same_polynomial (n ∷ w ∷ v ∷ []) (V 0 ⊗ (V 1 ⊖ V 2)) (V 0 ⊗ V 1 ⊖ V 0 ⊗ V 2) refl in
          let room = int_mul_nonneg v (n -ℤ m -ℤ pos 1) (omega (arith, signed, some_v)) (omega (arith, signed, less)) in
          let room_is : v *ℤ (n -ℤ m -ℤ pos 1) ≡ n *ℤ v -ℤ m *ℤ v -ℤ v =
          same_polynomial (n ∷ m ∷ v ∷ []) (V 2 ⊗ (V 0 ⊖ V 1 ⊖ K (pos 1))) (V 0 ⊗ V 2 ⊖ V 1 ⊗ V 2 ⊖ V 2) refl in
          absurd (omega (arith, signed, gap, gap_is, room, room_is, h.under.from, has.to))

      by : (w ≡ v) ⊎ (((pos 2 *ℤ w) ≤ℤ v) ⊎ ((pos 2 *ℤ v) ≤ℤ w)) → m ≤ℤ int_div_euclid n (pos 2)
      by (inl same) = no_wider (omega (arith, signed, same))
      by (inr (inr narrow)) = no_wider (omega (arith, signed, narrow, some_v))
      by (inr (inl wide)) =
          let some_m = node_positive m v some_v k.from in
          let gap = int_mul_nonneg m (v -ℤ pos 2 *ℤ w) (omega (arith, signed, some_m)) (omega (arith, signed, wide)) in
          let twice : w *ℤ (pos 2 *ℤ m) ≡ pos 2 *ℤ (m *ℤ w) =
          same_polynomial (w ∷ m ∷ []) (V 0 ⊗ (K (pos 2) ⊗ V 1)) (K (pos 2) ⊗ (V 1 ⊗ V 0)) refl in
          let more : w *ℤ (n +ℤ pos 1) ≡ n *ℤ w +ℤ w =
          same_polynomial (w ∷ n ∷ []) (V 0 ⊗ (V 1 ⊕ K (pos 1))) (V 1 ⊗ V 0 ⊕ V 0) refl in
          let below = int_lt_of_mul w (pos 2 *ℤ m) (n +ℤ pos 1) some_w
          (omega (arith, signed, gap, product_rest m v w, twice, more, h.under.to, has.from)) in
          floor_ge n (pos 2) m (omega (arith, signed)) (omega (arith, signed, below))

-- ---- columns

module _ {k : ℤ} {q : Point} {leaf : ℤ} (at : IsLeafOf k q leaf) where
  -- an edge that has q has the leaf's column
  pub has_leaf : (e : EdgeEnds) → IsTrue (spans q e) → HasColumn e (column k leaf)
  has_leaf e h =
      let low = floor_ge q.x (pos 256) e.a.x (omega (arith, signed)) (spans_low e q h) in
      let high = floor_le q.x (pos 256) (e.b.x -ℤ pos 1) (omega (arith, signed)) (omega (arith, signed, spans_high e q h)) in
      record { from = omega (arith, signed, low, at.is); to = omega (arith, signed, high, at.is) }

  -- the edge of a piece over a node that has the leaf has q
  pub piece_spans : {es : List EdgeEnds} {w : ℤ} (p : Piece) → IsPiece k es w p → IsUnder p.node w leaf → IsTrue (spans q p.edge)
  piece_spans {es} {w} p piece under =
      let low : p.edge.a.x ≤ℤ int_div_euclid q.x (pos 256) = omega (arith, signed, piece.from, under.from, at.is) in
      let high : int_div_euclid q.x (pos 256) ≤ℤ (p.edge.b.x -ℤ pos 1) = omega (arith, signed, piece.to, under.to, at.is) in
      let from = above_floor_ge q.x (pos 256) p.edge.a.x (omega (arith, signed)) low in
      let to = below_floor_le q.x (pos 256) (p.edge.b.x -ℤ pos 1) (omega (arith, signed)) high in
      ap₂ (λ a b. a && b)
      (le_true (pos 256 *ℤ p.edge.a.x) q.x from)
      (lt_true q.x (pos 256 *ℤ p.edge.b.x) (omega (arith, signed, to)))

-- the column of a query point of strip k, counted from the strip's first
pub record IsPart (k x : ℤ) : Type 0 where
  pub from : pos 0 ≤ℤ (int_div_euclid x (pos 256) -ℤ pos 256 *ℤ k)
  pub to : (int_div_euclid x (pos 256) -ℤ pos 256 *ℤ k) <ℤ pos 256
  pub low : neg_ℤ (pos (2 ^ 40)) ≤ℤ (pos 256 *ℤ k)
  pub high : (pos 256 *ℤ k) ≤ℤ pos (2 ^ 40)

pub part_is : (k : ℤ) (q : Point) → IsWithin (2 ^ 40) q → strip_of 256 q ≡ k → IsPart k q.x
part_is k q within strip =
    let size = size_bounds q.x (2 ^ 40) within.x in
    let low = floor_low q.x (pos 65536) (omega (arith, signed)) in
    let high = floor_high q.x (pos 65536) (omega (arith, signed)) in
    let same : int_div_euclid q.x (pos 65536) ≡ k = strip in
    let from = floor_ge q.x (pos 256) (pos 256 *ℤ k) (omega (arith, signed)) (omega (arith, signed, low, same)) in
    let to = floor_le q.x (pos 256) (pos 256 *ℤ k +ℤ pos 255) (omega (arith, signed)) (omega (arith, signed, high, same)) in
    record {
      from = omega (arith, signed, from);
      to = omega (arith, signed, to);
      low = omega (arith, signed, high, same, size.0);
      high = omega (arith, signed, low, same, size.1);
    }

-- the leaf that has it
pub leaf_is : (k : ℤ) (q : Point) (leaf : ℤ) → IsPart k q.x → leaf ≡ pos 256 +ℤ (int_div_euclid q.x (pos 256) -ℤ pos 256 *ℤ k)
    → IsLeafOf k q leaf
leaf_is k q leaf part is =
    record {
      from = omega (arith, signed, part.from, is);
      to = omega (arith, signed, part.to, is);
      is = omega (arith, signed, is);
    }
