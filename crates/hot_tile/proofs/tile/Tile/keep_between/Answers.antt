use Rattle.std.proofs.Common.{◌≡◌, ◌∙◌, sym, ap, subst, arith, ◌-◌, ◌<◌, List, [], ◌++◌, map, length, take, drop}
use Rattle.std.specs.Prelude.{ℕ, pos}
use Rattle.std.proofs.lemmas.List.{length-map, take-map, drop-map}
use Rattle.grid_core.specs.Segment.{Segment}
use Rattle.hot_tile.specs.declared.tile.HotPart.{HotPart}
use Rattle.hot_tile.specs.Tile.{TileContent, IsTileContent, rows_in, path_in}
use Rattle.hot_tile.specs.HotPart.{part_rows}
use Rattle.hot_tile.proofs.PathLaws.{between_more}
use Rattle.hot_tile.proofs.TileLaws.{rows_are, row_none}
use Rattle.hot_tile.proofs.tile.Tile.keep_between.Goals as goal
use Rattle.hot_tile.proofs.tile.Tile.keep_between.Goals.{After-deref}

abbrev unread : Segment
unread =
    record {
      name = record { editor = 0; serial = 0 };
      p = record { x = pos 0; y = pos 0 };
      q = record { x = pos 0; y = pos 0 };
    }

-- the rows that are kept are those of the segments
rows_kept : (c : After-deref) → c.deref.result.now.rows ≡ map (path_in c.args.self.now) c.args.self.now.segments
rows_kept c =
    let content = subst IsTileContent c.self.view_is c.self.invariant.content in
    let rows = subst (λ (t : TileContent). c.in-Some.hot_part.value.rows ≡ rows_in t) c.self.view_is
    (sym (ap (part_rows c.self.inside.listed) c.in-Some.is) ∙ c.self.invariant.rows) in
    ap (λ (r : HotPart). r.rows) c.deref.ensures ∙ rows ∙ rows_are c.args.self.now content.meet

pub push_run-requires-clause-within : goal.push_run-requires-clause-within
push_run-requires-clause-within c =
    let n : length c.deref.result.now.rows ≡ length c.args.self.now.segments =
    ap length (rows_kept c) ∙ length-map c.args.self.now.segments (path_in c.args.self.now) in
    omega (arith, n, c.requires.within)

pub loop-preserved : goal.loop-preserved
loop-preserved c =
    let content = subst IsTileContent c.self.view_is c.self.invariant.content in
    let rows = subst (λ (t : TileContent). map (λ (s : Segment). []) t.segments ≡ rows_in t) c.self.view_is
    (sym (ap (part_rows c.self.inside.listed) c.in-None.is) ∙ c.self.invariant.rows) in
    let within : c.loop.counter < length c.args.self.now.segments = omega (arith, c.loop-test.true, c.requires.within) in
    c.in_ok-push-in-None.ensures
    ∙ between_more (path_in c.args.self.now) c.args.self.now.segments c.args.from c.loop.counter unread c.args.rows.now c.loop.rows []
    c.loop.auto.counter within c.loop.invariant (row_none c.args.self.now content.meet rows c.loop.counter unread within)

pub returns-in_ok-push_run-in-Some : goal.returns-in_ok-push_run-in-Some
returns-in_ok-push_run-in-Some c =
    c.in_ok-push_run-in-Some.ensures
    ∙ ap (λ (rows : List (List ℕ)). c.args.rows.now ++ take (c.args.to - c.args.from) (drop c.args.from rows))
    (rows_kept (goal.at.returns-in_ok-push_run-in-Some c).After-deref)
    ∙ ap (λ (rows : List (List ℕ)). c.args.rows.now ++ rows)
    (ap (take (c.args.to - c.args.from)) (drop-map (path_in c.args.self.now) c.args.from c.args.self.now.segments)
    ∙ take-map (path_in c.args.self.now) (c.args.to - c.args.from) (drop c.args.from c.args.self.now.segments))
