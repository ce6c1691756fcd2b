use Rattle.std.proofs.Common.{◌≡◌, ◌∙◌, sym, ap, subst, refl, arith, true, false, is_eq, Bool, ℕ, List, [], ◌∷◌, ◌<◌, ◌≤◌, length, Some, None, cond}
use Rattle.std.specs.List.{filter}
use Rattle.std.specs.Ordering.{nat_cmp}
use Rattle.std.proofs.lemmas.Bool.Decides.{nat_tests}
use Rattle.std.proofs.lemmas.Cmp.{nat_cmp_total}
use Rattle.grid_core.specs.declared.point.Point.{Point}
use Rattle.grid_core.specs.Tiles.{in_tile}
use Rattle.hot_tile.specs.declared.spots.Spot.{Spot}
use Rattle.hot_tile.specs.Frame.{TileFrame, key_of, key_in}
use Rattle.hot_tile.specs.Tile.{frame_of, spots_in}
use Rattle.hot_tile.proofs.Lookups.{none_past, none_there, one_there}
use Rattle.hot_tile.proofs.TellLaws.{none_outside, none_at, one_at}
use Rattle.hot_tile.proofs.tile.Tile.vertex.Goals as goal

apart_cmp : (j k : ℕ) → (j ≡ k → ⊥) → is_eq (nat_cmp j k) ≡ false
apart_cmp j k h = grind (arith, nat_tests)

same_cmp : (j k : ℕ) → j ≡ k → is_eq (nat_cmp j k) ≡ true
same_cmp j k h = grind (arith, nat_tests)

-- a key that isn't there says that the pixel lies elsewhere
outside : (f : TileFrame) (h : Point) → None ≡ key_in f h → in_tile f.profile f.id h ≡ false
outside f h e = by (in_tile f.profile f.id h) e
  where
    by : (b : Bool) → None ≡ cond b (Some (key_of f h)) None → b ≡ false
    by true e = cc
    by false e = refl

-- a key that is there is that of the pixel, which lies in the tile
inside : (f : TileFrame) (h : Point) (k : ℕ) → Some k ≡ key_in f h → (in_tile f.profile f.id h ≡ true) × (k ≡ key_of f h)
inside f h k e = by (in_tile f.profile f.id h) e
  where
    by : (b : Bool) → Some k ≡ cond b (Some (key_of f h)) None → (b ≡ true) × (k ≡ key_of f h)
    by true e = (refl, same e)
      where
        same : Some k ≡ Some (key_of f h) → k ≡ key_of f h
        same e = cc
    by false e = absurd (cc e)

pub returns-in_err-key : goal.returns-in_err-key
returns-in_err-key c =
    c.from_residual.ensures
    ∙ sym (none_outside c.args.self.now c.frame.ensures.kept c.args.at
    (outside (frame_of c.args.self.now) c.args.at (c.in_err-key.ensures ∙ ap (λ (f : TileFrame). key_in f c.args.at) c.frame.ensures.value)))

pub returns-in_err-spot : goal.returns-in_err-spot
returns-in_err-spot c =
    let there = inside (frame_of c.args.self.now) c.args.at c.in_ok-key.key (c.in_ok-key.ensures ∙ ap (λ (f : TileFrame). key_in f c.args.at) c.frame.ensures.value) in
    let missing = c.in_err-spot.ensures.lookup.0 in
    let past : length c.spots-spots.result.now ≤ c.index_of_key.result = grind (arith, nat_tests) in
    let none =
    none_past nat_cmp_total (λ (x : Spot). x.key) c.in_ok-key.key c.spots-spots.result.now c.index_of_key.result c.spots-spots.ensures.rising
    c.index_of_key.ensures.lesser c.index_of_key.ensures.others past in
    c.from_residual-in_err-spot.ensures
    ∙ sym (none_at c.args.self.now c.frame.ensures.kept c.args.at there.0
    (subst (λ k. filter (λ (x : Spot). is_eq (nat_cmp x.key k)) (spots_in c.args.self.now) ≡ []) there.1
    (subst (λ (xs : List Spot). filter (λ (x : Spot). is_eq (nat_cmp x.key c.in_ok-key.key)) xs ≡ []) c.spots-spots.ensures.value none)))

pub returns-then-spot-key : goal.returns-then-spot-key
returns-then-spot-key c =
    let there =
    inside (frame_of c.args.self.now) c.args.at c.in_ok-key.key
    (c.in_ok-key.ensures ∙ ap (λ (f : TileFrame). key_in f c.args.at) c.frame.ensures.value) in
    let found = c.in_ok-spot.ensures.lookup.0 in
    let within : c.index_of_key.result < length c.spots-spots.result.now = grind (arith, nat_tests) in
    let read = c.in_ok-spot.ensures.lookup.1 in
    let apart : is_eq (nat_cmp c.in_ok-spot.spot.now.key c.in_ok-key.key) ≡ false =
    apart_cmp c.in_ok-spot.spot.now.key c.in_ok-key.key c.if-spot-key.true in
    let none =
    none_there nat_cmp_total (λ (x : Spot). x.key) c.in_ok-key.key c.spots-spots.result.now c.index_of_key.result c.spots-spots.ensures.rising
    c.index_of_key.ensures.lesser c.index_of_key.ensures.others c.in_ok-spot.spot.now within
    (ap (λ (x : Spot). is_eq (nat_cmp x.key c.in_ok-key.key)) (sym read) ∙ apart) in
    sym (none_at c.args.self.now c.frame.ensures.kept c.args.at there.0
    (subst (λ k. filter (λ (x : Spot). is_eq (nat_cmp x.key k)) (spots_in c.args.self.now) ≡ []) there.1
    (subst (λ (xs : List Spot). filter (λ (x : Spot). is_eq (nat_cmp x.key c.in_ok-key.key)) xs ≡ []) c.spots-spots.ensures.value none)))

pub returns : goal.returns
returns c =
    let there =
    inside (frame_of c.args.self.now) c.args.at c.in_ok-key.key
    (c.in_ok-key.ensures ∙ ap (λ (f : TileFrame). key_in f c.args.at) c.frame.ensures.value) in
    let found = c.in_ok-spot.ensures.lookup.0 in
    let within : c.index_of_key.result < length c.spots-spots.result.now = grind (arith, nat_tests) in
    let read = c.in_ok-spot.ensures.lookup.1 in
    let same : is_eq (nat_cmp c.in_ok-spot.spot.now.key c.in_ok-key.key) ≡ true =
    same_cmp c.in_ok-spot.spot.now.key c.in_ok-key.key c.if-spot-key.false in
    let one =
    one_there nat_cmp_total (λ (x : Spot). x.key) c.in_ok-key.key c.spots-spots.result.now c.index_of_key.result c.spots-spots.ensures.rising
    c.index_of_key.ensures.lesser c.index_of_key.ensures.others c.in_ok-spot.spot.now within
    (ap (λ (x : Spot). is_eq (nat_cmp x.key c.in_ok-key.key)) (sym read) ∙ same)
    ∙ ap (λ (x : Spot). x ∷ []) (sym read) in
    sym (one_at c.args.self.now c.frame.ensures.kept c.args.at there.0 c.in_ok-spot.spot.now
    (subst (λ k. filter (λ (x : Spot). is_eq (nat_cmp x.key k)) (spots_in c.args.self.now) ≡ c.in_ok-spot.spot.now ∷ []) there.1
    (subst (λ (xs : List Spot). filter (λ (x : Spot). is_eq (nat_cmp x.key c.in_ok-key.key)) xs ≡ c.in_ok-spot.spot.now ∷ []) c.spots-spots.ensures.value one)))
