use Rattle.std.proofs.Common.{◌^◌, rules, ◌∙◌, refl, sym, subst, w64, SFits, to_z, to_z-of_z}
use Rattle.std.specs.Prelude.{pos}
use Rattle.grid_core.proofs.Signed.{from_lt_true, from_lt_false}
use Rattle.edge_search.specs.Nodes.{IsLeafOf}
use Rattle.edge_search.specs.Search.{Searched}
use Rattle.edge_search.proofs.Climbing.{seen, begun, have_column, climbs_on, reached}
use Rattle.edge_search.proofs.Climbing.{pieces_within, some_within}
use Rattle.edge_search.proofs.search.EdgeSearch.nearest.Goals as goal

pub nodes-init : goal.nodes-init
nodes-init c =
    let kept = seen c.self.view_is c.as_slice-pieces.ensures.value refl c.self.invariant in
    let fits_strip : SFits w64 c.self.inside.strip = search rules in
    let fits : SFits w64 c.leaf_of-leaf.result = search rules in
    let at : IsLeafOf c.self.inside.strip c.args.at c.leaf_of-leaf.result = simp to_z-of_z at c.leaf_of-leaf.ensures in
    let seen_at : IsLeafOf c.args.self.now.strip c.args.at c.leaf_of-leaf.result =
    subst (λ (s : Searched). IsLeafOf s.strip c.args.at c.leaf_of-leaf.result) c.self.view_is at in
    begun kept.pieces
    (subst (IsLeafOf c.args.self.now.strip c.args.at) (sym (to_z-of_z fits)) seen_at)
    c.nearest_vertical-nearest.ensures

pub candidates-requires-clause-within : goal.candidates-requires-clause-within
candidates-requires-clause-within c =
    let kept = seen c.self.view_is c.as_slice-pieces.ensures.value refl c.self.invariant in
    pieces_within (2 ^ 30) kept.within kept.pieces

pub candidates-requires-clause-order : goal.candidates-requires-clause-order
candidates-requires-clause-order c =
    let kept = seen c.self.view_is c.as_slice-pieces.ensures.value refl c.self.invariant in
    kept.pieces.order

pub candidates-requires-clause-column : goal.candidates-requires-clause-column
candidates-requires-clause-column c =
    let kept = seen c.self.view_is c.as_slice-pieces.ensures.value refl c.self.invariant in
    have_column kept.pieces (from_lt_true (pos 0) (to_z w64 c.nodes.node-bits) c.nodes-test.true) c.nodes.invariant

pub add_pieces-requires-clause-within : goal.add_pieces-requires-clause-within
add_pieces-requires-clause-within c =
    let kept = seen c.self.view_is c.as_slice-pieces.ensures.value refl c.self.invariant in
    some_within c.as_slice-pieces.result.now c.candidates.result.now c.candidates.ensures.members
    (pieces_within (2 ^ 30) kept.within kept.pieces)

pub nodes-preserved : goal.nodes-preserved
nodes-preserved c =
    let kept = seen c.self.view_is c.as_slice-pieces.ensures.value refl c.self.invariant in
    let fits : SFits w64 c.floor-node.result = search rules in
    let some = from_lt_true (pos 0) (to_z w64 c.nodes.node-bits) c.nodes-test.true in
    let half = to_z-of_z fits ∙ c.floor-node.ensures in
    climbs_on kept.pieces some c.nodes.invariant c.candidates.ensures c.add_pieces.ensures half

pub returns-clause-found : goal.returns-clause-found
returns-clause-found c =
    let kept = seen c.self.view_is c.as_slice-pieces.ensures.value refl c.self.invariant in
    reached kept.pieces (from_lt_false (pos 0) (to_z w64 c.nodes.node-bits) c.nodes-test.false) c.nodes.invariant

pub returns-clause-kept : goal.returns-clause-kept
returns-clause-kept c = (seen c.self.view_is c.as_slice-pieces.ensures.value refl c.self.invariant).apart

pub returns-clause-within : goal.returns-clause-within
returns-clause-within c = (seen c.self.view_is c.as_slice-pieces.ensures.value refl c.self.invariant).within
