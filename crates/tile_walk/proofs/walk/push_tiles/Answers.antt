use Rattle.std.proofs.Common.{rules, refl, sym, ap, ◌∙◌, ◌++◌, ◌≤◌, arith, w32, SFits, to_z, of_z, to_z-of_z}
use Rattle.grid_core.specs.Tiles.{along, falls, tile_of}
use Rattle.tile_walk.specs.Columns.{rows_from, most_tiles, before}
use Rattle.tile_walk.proofs.Room.{last_room}
use Rattle.tile_walk.proofs.Walking.{one_column, more_columns, several}
use Rattle.tile_walk.proofs.walk.push_tiles.Goals as goal

pub push_column-requires : goal.push_column-requires
push_column-requires c =
    let first = c.tile_at-first.result in
    let last = c.tile_at-last.result in
    let from : SFits w32 first.j = search rules in
    let to : SFits w32 last.j = search rules in
    let need : rows_from c.is_falling.result first.j last.j ≤ most_tiles first last =
    last_room c.is_falling.result first.i first.j last.i last.j in
    simp to_z-of_z (omega (arith, need, c.most_tiles.ensures, c.in_ok-reserve.ensures.ok))

pub returns-then-first-last-clause-whole : goal.returns-then-first-last-clause-whole
returns-then-first-last-clause-whole c =
    let pr = c.args.profile.now in
    let s = c.args.s.now in
    let first = c.tile_at-first.result in
    let last = c.tile_at-last.result in
    let from : SFits w32 first.j = search rules in
    let to : SFits w32 last.j = search rules in
    let start : SFits w32 first.i = search rules in
    let end : SFits w32 last.i = search rules in
    one_column pr c.side-side.ensures.kept.some_side s c.p.ensures.kept.ordered c.is_falling.result
    c.is_falling.ensures.value first last
    (c.tile_at-first.ensures ∙ ap (tile_of pr) c.p.ensures.value)
    (c.tile_at-last.ensures ∙ ap (tile_of pr) c.q.ensures.value)
    c.args.out.now.items c.reserve.new.self.items c.push_column.new.out.items
    (sym (to_z-of_z start) ∙ ap (to_z w32) c.if-first-last.true ∙ to_z-of_z end)
    c.in_ok-reserve.ensures.items (simp to_z-of_z at c.push_column.ensures.items)

pub push_columns-entry-requires-clause-several : goal.push_columns-entry-requires-clause-several
push_columns-entry-requires-clause-several c =
    let pr = c.args.profile.now in
    let s = c.args.s.now in
    let first = c.tile_at-first.result in
    let last = c.tile_at-last.result in
    several pr c.side-side.ensures.kept.some_side s c.p.ensures.kept.ordered (falls s) refl first last
    (c.tile_at-first.ensures ∙ ap (tile_of pr) c.p.ensures.value)
    (c.tile_at-last.ensures ∙ ap (tile_of pr) c.q.ensures.value)
    (λ e. c.if-first-last.false (ap (of_z w32) e))

pub push_column-requires-2 : goal.push_column-requires-2
push_column-requires-2 c =
    let last = c.tile_at-last.result in
    let entry = c.push_columns-entry.result in
    let from : SFits w32 entry = search rules in
    let to : SFits w32 last.j = search rules in
    let need : rows_from c.is_falling-2.result entry last.j ≤ most_tiles (record { i = last.i; j = entry }) last =
    last_room c.is_falling-2.result last.i entry last.i last.j in
    simp to_z-of_z (omega (arith, need, c.push_columns-entry.ensures.room))

pub returns-clause-whole : goal.returns-clause-whole
returns-clause-whole c =
    let pr = c.args.profile.now in
    let s = c.args.s.now in
    let first = c.tile_at-first.result in
    let last = c.tile_at-last.result in
    let entry = c.push_columns-entry.result in
    let from : SFits w32 entry = search rules in
    let to : SFits w32 last.j = search rules in
    let end : SFits w32 last.i = search rules in
    more_columns pr c.side-side.ensures.kept.some_side s c.p.ensures.kept.ordered c.is_falling-2.result
    c.is_falling-2.ensures.value first last
    (c.tile_at-first.ensures ∙ ap (tile_of pr) c.p.ensures.value)
    (c.tile_at-last.ensures ∙ ap (tile_of pr) c.q.ensures.value)
    c.args.out.now.items c.push_columns-entry.new.out.items c.push_column-2.new.out.items entry
    c.push_columns-entry.ensures.entry
    (c.push_columns-entry.ensures.items ∙ ap (λ ts. ts ++ before last.i (along pr s)) c.in_ok-reserve.ensures.items)
    (simp to_z-of_z at c.push_column-2.ensures.items)
