-- The search from the leaf of a point's column up. Of the pieces over nodes that have the leaf, those over later nodes are
-- done: some edges have one near the point for each. At 0 all of them are done, and each edge that has the
-- point's column has one of them.
use Rattle.std.proofs.Common.{◌≡◌, sym, subst, arith, ⊎_elim, ℕ, Some, None, List, [], ◌∷◌}
use Rattle.std.proofs.Common.{◌++◌, slice_index_or, Contains, IsTrue}
use Rattle.std.specs.Prelude.{ℤ, pos, ◌*ℤ◌, ◌<ℤ◌, ◌≤ℤ◌, All}
use Rattle.std.specs.Int.{int_div_euclid}
use Rattle.std.proofs.lemmas.List.Elements.{All-contains, Contains-get_or, Contains-append_left}
use Rattle.std.proofs.lemmas.List.Elements.{Contains-append_right, Contains-append_cases}
use Rattle.grid_core.specs.declared.point.Point.{Point}
use Rattle.grid_core.specs.Edge.{EdgeEnds, IsEdge}
use Rattle.grid_core.specs.Places.{lies_on}
use Rattle.grid_core.proofs.ListMembers.{contains_map, contains_first, contains_cases}
use Rattle.grid_core.proofs.Ring.{int_lt_or_le}
use Rattle.grid_core.proofs.Signed.{signed}
use Rattle.place_test.specs.Nearest.{Around, around}
use Rattle.place_test.specs.Reach.{IsEdgeWithin}
use Rattle.edge_search.specs.Candidates.{edges_of, ArePiecesWithin, HaveColumn, AreNear}
use Rattle.edge_search.specs.Found.{IsNearestVertical, IsNearest}
use Rattle.edge_search.specs.Near.{HasNear}
use Rattle.edge_search.specs.Nodes.{IsLeafOf}
use Rattle.edge_search.specs.Pieces.{IsNode, IsUnder, ArePieces, AreVerticals, IsSearch}
use Rattle.edge_search.specs.Search.{Searched, DontCross}
use Rattle.edge_search.specs.declared.piece.Piece.{Piece}
use Rattle.edge_search.proofs.Least.{none_in}
use Rattle.edge_search.proofs.Nodes.{Climbs, at_leaf, climbed, one_width, none_after, next_node}
use Rattle.edge_search.proofs.Nodes.{node_above, has_leaf, piece_spans}

-- ---- some edges and more

near_among : {q : Point} {e : EdgeEnds} (some more : List EdgeEnds) → ((c : EdgeEnds) → Contains some c → Contains more c)
    → HasNear some q e → HasNear more q e
near_among some more in_more h =
    record {
      below = λ above. let c = h.below above in (c.0, in_more c.0 c.1, c.2, c.3, c.4);
      above = λ not_above. let c = h.above not_above in (c.0, in_more c.0 c.1, c.2, c.3, c.4);
    }

-- the edge of a piece among some is that of one of them
edge_of_piece : (ps : List Piece) (e : EdgeEnds) → Contains (edges_of ps) e → (p : Piece) × Contains ps p × (p.edge ≡ e)
edge_of_piece ps e h =
    let found = (contains_map (λ (p : Piece). p.edge) ps e).0 h in (found.1, (found.0, found.2, found.3), found.4)

pub pieces_within : {k : ℤ} {es : List EdgeEnds} {ps : List Piece} (n : ℕ) → All (IsEdgeWithin n) es → ArePieces k es ps
    → ArePiecesWithin n ps
pieces_within {k} {es} {ps} n within pieces =
    λ i d fits.
    let p = slice_index_or ps i d in
    All-contains (IsEdgeWithin n) es p.edge within (pieces.each p (Contains-get_or ps i d fits)).1.edge

-- what a search keeps, said of what its caller sees
pub seen : {n : ℕ} {k : ℤ} {es : List EdgeEnds} {ps rs : List Piece} {vs us : List EdgeEnds} {s : Searched}
    → (record { strip = k; edges = es }) ≡ s
    → rs ≡ ps
    → us ≡ vs
    → IsSearch n k es ps vs
    → IsSearch n s.strip s.edges rs us
seen {n} {k} {es} {ps} {rs} {vs} {us} {s} view same_ps same_vs kept =
    subst (λ (v : Searched). IsSearch n v.strip v.edges rs us) view
    (subst (λ (xs : List Piece). IsSearch n k es xs us) (sym same_ps)
    (subst (λ (xs : List EdgeEnds). IsSearch n k es ps xs) (sym same_vs) kept))

-- the edges of some of those that don't cross don't cross
pub some_apart : {es some : List EdgeEnds} → ((e : EdgeEnds) → Contains some e → Contains es e) → DontCross es → DontCross some
some_apart {es} {some} in_es apart =
    record {
      ordered = λ i d fits.
          All-contains IsEdge es (slice_index_or some i d) apart.ordered
          (in_es (slice_index_or some i d) (Contains-get_or some i d fits));
      inside = λ e f q r of_e of_f. apart.inside e f q r (in_es e of_e) (in_es f of_f);
      one = λ e f q of_e of_f. apart.one e f q (in_es e of_e) (in_es f of_f);
    }

pub verticals_alone : {es vs : List EdgeEnds} → AreVerticals es vs → AreVerticals vs vs
verticals_alone vertical =
    record {
      each = λ e h. (h, (vertical.each e h).1);
      all = λ e h level. h;
      order = vertical.order;
    }

-- the vertical edge that has the point, if there is one, and perhaps another
pub with_vertical : {es vs : List EdgeEnds} {q : Point} {w : Around} (v : EdgeEnds) → AreVerticals es vs → Contains vs v
    → ((e : EdgeEnds) → Contains vs e → IsTrue (lies_on q e) → Some v ≡ Some e)
    → w ≡ around [] (v ∷ []) q → IsNearestVertical es q w
with_vertical {es} {vs} v vertical in_vs found is =
    record {
      some = v ∷ [];
      is = is;
      members = λ e h. subst (Contains es) (only e h) (vertical.each v in_vs).0;
      vertical = λ e h level on.
          let same : v ≡ e = cc_some v e (found e (vertical.all e h level) on) in
          subst (Contains (v ∷ [])) same (contains_first v []);
    }
  where
    only : (e : EdgeEnds) → Contains (v ∷ []) e → v ≡ e
    only e h = ⊎_elim (λ (same : v ≡ e). same) (λ (c : Contains [] e). absurd (none_in c)) (contains_cases v [] e h)

    cc_some : (a b : EdgeEnds) → Some a ≡ Some b → a ≡ b
    cc_some a b e = cc

pub no_vertical : {es vs : List EdgeEnds} {q : Point} {w : Around} → AreVerticals es vs
    → ((e : EdgeEnds) → Contains vs e → IsTrue (lies_on q e) → None ≡ Some e)
    → w ≡ around [] [] q → IsNearestVertical es q w
no_vertical {es} {vs} {q} vertical found is =
    record {
      some = [];
      is = is;
      members = λ e h. absurd (none_in h);
      vertical = λ e h level on. absurd (clash e (found e (vertical.all e h level) on));
    }
  where
    clash : (e : EdgeEnds) → None ≡ Some e → ⊥
    clash e h = cc

pub some_within : {n : ℕ} (ps some : List Piece) → ((p : Piece) → Contains some p → Contains ps p) → ArePiecesWithin n ps
    → ArePiecesWithin n some
some_within {n} ps some in_ps within =
    λ i d fits.
    let p = slice_index_or some i d in
    All-contains (λ (r : Piece). IsEdgeWithin n r.edge) ps p within (in_ps p (Contains-get_or some i d fits))

-- ---- from the leaf up

-- the search has come to a node, or to 0: for each piece over a later node that has the leaf there is one near
pub record HasClimbed (k : ℤ) (es : List EdgeEnds) (ps : List Piece) (q : Point) (leaf node : ℤ) (w : Around) : Type 0 where
  pub at : IsLeafOf k q leaf
  pub columns : ℤ
  pub climbs : Climbs leaf node columns
  pub some : List EdgeEnds
  pub is : w ≡ around [] some q
  pub members : (e : EdgeEnds) → Contains some e → Contains es e
  pub vertical : (e : EdgeEnds) → Contains es e → e.a.x ≡ e.b.x → IsTrue (lies_on q e) → Contains some e
  pub done : (p : Piece) (v : ℤ) → Contains ps p → IsNode p.node v → IsUnder p.node v leaf → node <ℤ p.node
      → HasNear some q p.edge

module _ {k : ℤ} {es : List EdgeEnds} {ps : List Piece} {q : Point} {leaf : ℤ} (pieces : ArePieces k es ps) where
  -- over the leaf nothing is done
  pub begun : {w : Around} → IsLeafOf k q leaf → IsNearestVertical es q w → HasClimbed k es ps q leaf leaf w
  begun {w} at h =
      record {
        at = at;
        columns = pos 1;
        climbs = at_leaf leaf;
        some = h.some;
        is = h.is;
        members = h.members;
        vertical = h.vertical;
        done = λ p v in_ps node under later. absurd (clash p v (none_after leaf p.node v node under) later);
      }
    where
      clash : (p : Piece) (v : ℤ) → p.node ≤ℤ leaf → leaf <ℤ p.node → ⊥
      clash p v l m = omega (arith, signed, l, m)

  -- pieces over the node have the point's column
  pub have_column : {node : ℤ} {w : Around} → pos 0 <ℤ node → HasClimbed k es ps q leaf node w → HaveColumn node q ps
  have_column {node} some h p in_ps over =
      let piece = pieces.each p in_ps in
      let v = piece.0 in
      let is_node : IsNode node v = subst (λ n. IsNode n v) over piece.1.node in
      let same = one_width leaf node h.columns v some h.at.from h.at.to h.climbs is_node in
      let under : IsUnder p.node v leaf =
      subst (λ n. IsUnder n v leaf) (sym over) (subst (λ c. IsUnder node c leaf) (sym same) h.climbs.under) in
      piece_spans h.at p piece.1 under

  -- with those near the point of the pieces over the node, the node is done
  pub climbs_on : {node half : ℤ} {w x : Around} {near : List Piece}
      → pos 0 <ℤ node
      → HasClimbed k es ps q leaf node w
      → AreNear node q ps near
      → ((fs : List EdgeEnds) → w ≡ around [] fs q → x ≡ around [] (fs ++ edges_of near) q)
      → half ≡ int_div_euclid node (pos 2)
      → HasClimbed k es ps q leaf half x
  climbs_on {node} {half} {w} {x} {near} some h found added halved =
      record {
        at = h.at;
        columns = pos 2 *ℤ h.columns;
        climbs = subst (λ n. Climbs leaf n (pos 2 *ℤ h.columns)) (sym halved) (climbed leaf node h.columns h.climbs);
        some = h.some ++ edges_of near;
        is = added h.some h.is;
        members = λ e c.
            ⊎_elim (λ (l : Contains h.some e). h.members e l)
            (λ (m : Contains (edges_of near) e).
            let p = edge_of_piece near e m in
            subst (Contains es) p.2 (pieces.each p.0 (found.members p.0 p.1)).1.edge)
            (Contains-append_cases h.some (edges_of near) e c);
        vertical = λ e c level on. Contains-append_left h.some (edges_of near) e (h.vertical e c level on);
        done = λ p v in_ps is_node under later.
            ⊎_elim
            (λ (l : node <ℤ p.node).
            near_among h.some (h.some ++ edges_of near) (Contains-append_left h.some (edges_of near))
            (h.done p v in_ps is_node under l))
            (λ (m : p.node ≤ℤ node).
            near_among (edges_of near) (h.some ++ edges_of near) (Contains-append_right h.some (edges_of near))
            (found.near p in_ps
            (⊎_elim
            (λ (l : p.node <ℤ node).
            absurd (clash p (next_node leaf node h.columns p.node v some h.climbs is_node under l) later))
            (λ (l : node ≤ℤ p.node). same p l m)
            (int_lt_or_le p.node node))))
            (int_lt_or_le node p.node);
      }
    where
      clash : (p : Piece) → p.node ≤ℤ int_div_euclid node (pos 2) → half <ℤ p.node → ⊥
      clash p l m = omega (arith, signed, l, m, halved)

      same : (p : Piece) → node ≤ℤ p.node → p.node ≤ℤ node → p.node ≡ node
      same p l m = omega (arith, signed, l, m)

  -- at 0 all is done
  pub reached : {node : ℤ} {w : Around} → node ≤ℤ pos 0 → HasClimbed k es ps q leaf node w → IsNearest es q w
  reached {node} none h =
      record {
        some = h.some;
        is = h.is;
        enough = record {
          members = h.members;
          vertical = h.vertical;
          near = λ e of_e s.
              let found = pieces.all e leaf of_e h.at.from h.at.to (has_leaf h.at e s) in
              let p = found.0 in
              let v = found.2.over.0 in
              let is_node = found.2.over.1.node in
              subst (HasNear h.some q) found.2.edge (h.done p v found.1 is_node found.2.over.2 (above p v is_node));
        };
      }
    where
      above : (p : Piece) (v : ℤ) → IsNode p.node v → node <ℤ p.node
      above p v is_node = let up = node_above is_node in omega (arith, signed, none, up)
