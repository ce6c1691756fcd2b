use Rattle.std.proofs.Common.{rules, ◌≡◌, ap, sym, subst, ◌∙◌, ◌++◌, ◌+◌, ◌≤◌, ◌^◌, arith, Bool, vec_len, vec_capacity}
use Rattle.std.proofs.Common.{w32, w64, SFits, to_z, of_z, to_z-of_z}
use Rattle.std.specs.Prelude.{ℤ, pos, ◌+ℤ◌, ◌-ℤ◌, ◌*ℤ◌, ◌<ℤ◌, ◌≤ℤ◌, unsigned_abs}
use Rattle.std.proofs.lemmas.Int.{ints}
use Rattle.grid_core.specs.declared.tile.TileId.{TileId}
use Rattle.grid_core.specs.Tiles.{along, falls, tile_of}
use Rattle.grid_core.proofs.Quotients.{times_more}
use Rattle.grid_core.proofs.Signed.{signed, fits_by_size}
use Rattle.tile_walk.specs.Borders.{IsBorder, IsEntry}
use Rattle.tile_walk.specs.Columns.{column_from, rows_from, most_tiles, before}
use Rattle.tile_walk.specs.Steps.{exit_of}
use Rattle.tile_walk.proofs.Floors.{fits}
use Rattle.tile_walk.proofs.Room.{gap_falls}
use Rattle.tile_walk.proofs.Rows.{split_of, right_of}
use Rattle.tile_walk.proofs.Walking.{IsWalked, begun, has_room, rows_small, goes_on, next_is_border}
use Rattle.tile_walk.proofs.walk.push_columns.Goals as goal

pub first_border-border-requires-clause-after : goal.first_border-border-requires-clause-after
first_border-border-requires-clause-after c =
    let pr = c.args.profile.now in
    let s = c.args.s.now in
    let first : SFits w32 c.args.first.i = search rules in
    let column : c.args.first.i ≡ (tile_of pr s.p).i = ap (λ t. t.i) c.requires.first_is in
    let at : to_z w64 (of_z w64 (to_z w64 (of_z w64 c.from.result) +ℤ pos 1)) ≡ (tile_of pr s.p).i +ℤ pos 1 =
    omega (arith, ints, column, c.from.ensures) in
    subst (λ k. s.p.x <ℤ (pos pr.side *ℤ k)) (sym at)
    (right_of pr c.requires.sizes.some_side s s.p.x ((tile_of pr s.p).i +ℤ pos 1) (omega (arith, signed)))

pub first_border-border-requires-clause-next : goal.first_border-border-requires-clause-next
first_border-border-requires-clause-next c =
    let pr = c.args.profile.now in
    let s = c.args.s.now in
    let first : SFits w32 c.args.first.i = search rules in
    let column : c.args.first.i ≡ (tile_of pr s.p).i = ap (λ t. t.i) c.requires.first_is in
    let at : to_z w64 (of_z w64 (to_z w64 (of_z w64 c.from.result) +ℤ pos 1)) ≡ (tile_of pr s.p).i +ℤ pos 1 =
    omega (arith, ints, column, c.from.ensures) in
    let least = fits (split_of pr c.requires.sizes.some_side s s.p.x) (tile_of pr s.p).i (omega (arith, signed)) in
    subst (λ k. (pos pr.side *ℤ k -ℤ pos pr.side) ≤ℤ s.p.x) (sym at)
    (omega (arith, signed, least, times_more (pos pr.side) (tile_of pr s.p).i))

pub loop-i-init : goal.loop-i-init
loop-i-init c =
    let pr = c.args.profile.now in
    let s = c.args.s.now in
    let out = c.args.out.now in
    let b = c.first_border-border.result in
    let first : SFits w32 c.args.first.i = search rules in
    let row : SFits w32 c.args.first.j = search rules in
    let column : c.args.first.i ≡ (tile_of pr s.p).i = ap (λ t. t.i) c.requires.first_is in
    let end : c.args.last.i ≡ (tile_of pr s.q).i = ap (λ t. t.i) c.requires.last_is in
    let at : to_z w64 (of_z w64 (to_z w64 (of_z w64 c.from.result) +ℤ pos 1)) ≡ (tile_of pr s.p).i +ℤ pos 1 =
    omega (arith, ints, column, c.from.ensures) in
    let border : IsBorder pr s ((tile_of pr s.p).i +ℤ pos 1) b.row b.above =
    subst (λ k. IsBorder pr s k b.row b.above) at c.first_border-border.ensures in
    let room : vec_len out + most_tiles (tile_of pr s.p) (tile_of pr s.q) ≤ vec_capacity out =
    subst (λ (x : TileId × TileId). vec_len out + most_tiles x.0 x.1 ≤ vec_capacity out)
    (λ n. (c.requires.first_is n, c.requires.last_is n)) c.requires.room in
    let start = begun pr c.requires.sizes.some_side s c.requires.segment.ordered out.items b.row b.above
    (vec_len out) (vec_capacity out) (omega (arith, signed, column, end, c.requires.several)) border room in
    simp to_z-of_z
    (subst (λ (t : TileId). IsWalked pr s out.items out.items t.i t.j b.row b.above (vec_len out) (vec_capacity out))
    (sym c.requires.first_is) start)

pub exit_row-requires : goal.exit_row-requires
exit_row-requires c =
    let pr = c.args.profile.now in
    let s = c.args.s.now in
    let last : SFits w32 c.args.last.i = search rules in
    let end : c.args.last.i ≡ (tile_of pr s.q).i = ap (λ t. t.i) c.requires.last_is in
    let less : to_z w32 c.loop-i.i-bits <ℤ (tile_of pr s.q).i = omega (arith, ints, end, c.loop-i-test.true) in
    let small = rows_small pr c.requires.sizes.some_side s c.requires.segment.ordered c.loop-i.invariant
    c.is_falling-falls.ensures.kept less in
    omega (arith, small.0)

pub overflow_cast-exit_row : goal.overflow_cast-exit_row
overflow_cast-exit_row c =
    let pr = c.args.profile.now in
    let s = c.args.s.now in
    let b = c.loop-i.border in
    let last : SFits w32 c.args.last.i = search rules in
    let end : c.args.last.i ≡ (tile_of pr s.q).i = ap (λ t. t.i) c.requires.last_is in
    let less : to_z w32 c.loop-i.i-bits <ℤ (tile_of pr s.q).i = omega (arith, ints, end, c.loop-i-test.true) in
    let small = rows_small pr c.requires.sizes.some_side s c.requires.segment.ordered c.loop-i.invariant
    c.is_falling-falls.ensures.kept less in
    let exit : c.exit_row.result ≡ exit_of (falls s) b =
    c.exit_row.ensures ∙ ap (λ f. exit_of f b) c.is_falling-falls.ensures.value in
    let size : unsigned_abs c.exit_row.result ≤ 2 ^ 30 + 1 =
    subst (λ z. unsigned_abs z ≤ 2 ^ 30 + 1) (sym exit) small.1 in
    let wide : SFits w64 c.exit_row.result = search rules in
    simp to_z-of_z (fits_by_size w32 c.exit_row.result (omega arith))

pub push_column-requires : goal.push_column-requires
push_column-requires c =
    let pr = c.args.profile.now in
    let s = c.args.s.now in
    let b = c.loop-i.border in
    let out = c.loop-i.out in
    let last : SFits w32 c.args.last.i = search rules in
    let end : c.args.last.i ≡ (tile_of pr s.q).i = ap (λ t. t.i) c.requires.last_is in
    let less : to_z w32 c.loop-i.i-bits <ℤ (tile_of pr s.q).i = omega (arith, ints, end, c.loop-i-test.true) in
    let small = rows_small pr c.requires.sizes.some_side s c.requires.segment.ordered c.loop-i.invariant
    c.is_falling-falls.ensures.kept less in
    let exit : c.exit_row.result ≡ exit_of (falls s) b =
    c.exit_row.ensures ∙ ap (λ f. exit_of f b) c.is_falling-falls.ensures.value in
    let size : unsigned_abs c.exit_row.result ≤ 2 ^ 30 + 1 =
    subst (λ z. unsigned_abs z ≤ 2 ^ 30 + 1) (sym exit) small.1 in
    let wide : SFits w64 c.exit_row.result = search rules in
    let narrow : SFits w32 c.exit_row.result = fits_by_size w32 c.exit_row.result (omega arith) in
    let room = has_room pr c.requires.sizes.some_side s c.requires.segment.ordered c.loop-i.invariant less in
    simp to_z-of_z
    (subst (λ (x : Bool × ℤ). vec_len out + rows_from x.0 (to_z w32 c.loop-i.entry-bits) x.1 ≤ vec_capacity out)
    (λ n. (sym c.is_falling-falls.ensures.value n, sym exit n)) room)

pub overflow_cast-entry : goal.overflow_cast-entry
overflow_cast-entry c =
    let pr = c.args.profile.now in
    let s = c.args.s.now in
    let last : SFits w32 c.args.last.i = search rules in
    let end : c.args.last.i ≡ (tile_of pr s.q).i = ap (λ t. t.i) c.requires.last_is in
    let less : to_z w32 c.loop-i.i-bits <ℤ (tile_of pr s.q).i = omega (arith, ints, end, c.loop-i-test.true) in
    let small = rows_small pr c.requires.sizes.some_side s c.requires.segment.ordered c.loop-i.invariant
    c.is_falling-falls.ensures.kept less in
    let size = small.0 in
    let wide : SFits w64 c.loop-i.border.row = search rules in
    simp to_z-of_z (fits_by_size w32 c.loop-i.border.row (omega arith))

pub next_border-border-requires-clause-small : goal.next_border-border-requires-clause-small
next_border-border-requires-clause-small c =
    let pr = c.args.profile.now in
    let s = c.args.s.now in
    let last : SFits w32 c.args.last.i = search rules in
    let end : c.args.last.i ≡ (tile_of pr s.q).i = ap (λ t. t.i) c.requires.last_is in
    let less : to_z w32 c.loop-i.i-bits <ℤ (tile_of pr s.q).i = omega (arith, ints, end, c.loop-i-test.true) in
    let small = rows_small pr c.requires.sizes.some_side s c.requires.segment.ordered c.loop-i.invariant
    c.is_falling-falls.ensures.kept less in
    omega (arith, small.0)

pub loop-i-smaller : goal.loop-i-smaller
loop-i-smaller c =
    let last : SFits w32 c.args.last.i = search rules in
    let less : to_z w32 c.loop-i.i-bits <ℤ c.args.last.i = omega (arith, ints, c.loop-i-test.true) in
    let next : SFits w32 (to_z w32 c.loop-i.i-bits +ℤ pos 1) = search rules in
    simp to_z-of_z (gap_falls (to_z w32 c.loop-i.i-bits) c.args.last.i less)

pub loop-i-preserved : goal.loop-i-preserved
loop-i-preserved c =
    let pr = c.args.profile.now in
    let s = c.args.s.now in
    let b = c.loop-i.border in
    let out = c.loop-i.out in
    let new = c.push_column.new.out in
    let i = to_z w32 c.loop-i.i-bits in
    let entry = to_z w32 c.loop-i.entry-bits in
    let last : SFits w32 c.args.last.i = search rules in
    let end : c.args.last.i ≡ (tile_of pr s.q).i = ap (λ t. t.i) c.requires.last_is in
    let less : to_z w32 c.loop-i.i-bits <ℤ (tile_of pr s.q).i = omega (arith, ints, end, c.loop-i-test.true) in
    let small = rows_small pr c.requires.sizes.some_side s c.requires.segment.ordered c.loop-i.invariant
    c.is_falling-falls.ensures.kept less in
    let exit : c.exit_row.result ≡ exit_of (falls s) b =
    c.exit_row.ensures ∙ ap (λ f. exit_of f b) c.is_falling-falls.ensures.value in
    let size : unsigned_abs c.exit_row.result ≤ 2 ^ 30 + 1 =
    subst (λ z. unsigned_abs z ≤ 2 ^ 30 + 1) (sym exit) small.1 in
    let size_row = small.0 in
    let wide : SFits w64 c.exit_row.result = search rules in
    let narrow : SFits w32 c.exit_row.result = fits_by_size w32 c.exit_row.result (omega arith) in
    let wide_row : SFits w64 c.loop-i.border.row = search rules in
    let narrow_row : SFits w32 c.loop-i.border.row = fits_by_size w32 c.loop-i.border.row (omega arith) in
    let next : SFits w32 (to_z w32 c.loop-i.i-bits +ℤ pos 1) = search rules in
    let items = simp to_z-of_z at c.push_column.ensures.items in
    let len = simp to_z-of_z at c.push_column.ensures.len in
    let step = goes_on pr c.requires.sizes.some_side s c.requires.segment.ordered c.loop-i.invariant
    new.items c.next_border-border.result.row c.next_border-border.result.above (vec_len new) (vec_capacity new) less
    (items ∙ ap (λ (x : Bool × ℤ). out.items ++ column_from x.0 i entry x.1)
    (λ n. (c.is_falling-falls.ensures.value n, exit n)))
    (len ∙ ap (λ (x : Bool × ℤ). vec_len out + rows_from x.0 entry x.1)
    (λ n. (c.is_falling-falls.ensures.value n, exit n)))
    c.push_column.ensures.capacity
    (next_is_border pr s c.of-rise.result (i +ℤ pos 1) b.row b.above c.next_border-border.result.row
    c.next_border-border.result.above c.of-rise.ensures c.loop-i.invariant.border c.next_border-border.ensures) in
    simp to_z-of_z step

pub returns-clause-entry : goal.returns-clause-entry
returns-clause-entry c =
    let pr = c.args.profile.now in
    let s = c.args.s.now in
    let last : SFits w32 c.args.last.i = search rules in
    let end : c.args.last.i ≡ (tile_of pr s.q).i = ap (λ t. t.i) c.requires.last_is in
    let at : to_z w32 c.loop-i.i-bits ≡ c.args.last.i =
    omega (arith, ints, end, c.loop-i-test.false, c.loop-i.invariant.before_q) in
    subst (λ k. IsEntry pr s k (to_z w32 c.loop-i.entry-bits)) at c.loop-i.invariant.entry_is

pub returns-clause-items : goal.returns-clause-items
returns-clause-items c =
    let pr = c.args.profile.now in
    let s = c.args.s.now in
    let last : SFits w32 c.args.last.i = search rules in
    let end : c.args.last.i ≡ (tile_of pr s.q).i = ap (λ t. t.i) c.requires.last_is in
    let at : to_z w32 c.loop-i.i-bits ≡ c.args.last.i =
    omega (arith, ints, end, c.loop-i-test.false, c.loop-i.invariant.before_q) in
    c.loop-i.invariant.items ∙ ap (λ k. c.args.out.now.items ++ before k (along pr s)) at

pub returns-clause-room : goal.returns-clause-room
returns-clause-room c =
    let pr = c.args.profile.now in
    let s = c.args.s.now in
    let last : SFits w32 c.args.last.i = search rules in
    let end : c.args.last.i ≡ (tile_of pr s.q).i = ap (λ t. t.i) c.requires.last_is in
    let at : to_z w32 c.loop-i.i-bits ≡ c.args.last.i =
    omega (arith, ints, end, c.loop-i-test.false, c.loop-i.invariant.before_q) in
    subst (λ (x : ℤ × TileId).
    vec_len c.loop-i.out + most_tiles (record { i = x.0; j = to_z w32 c.loop-i.entry-bits }) x.1
    ≤ vec_capacity c.loop-i.out) (λ n. (at n, sym c.requires.last_is n)) c.loop-i.invariant.room
