use Rattle.std.proofs.Common.{◌≡◌, ◌∙◌, sym, ap, subst, ℕ, [], ◌<◌, map, length, get_or}
use Rattle.std.specs.Prelude.{pos}
use Rattle.std.specs.Ordering.{nat_cmp}
use Rattle.std.specs.List.Sorted.{IsStrictlySortedBy}
use Rattle.grid_core.specs.Segment.{Segment}
use Rattle.hot_tile.specs.declared.tile.HotPart.{HotPart}
use Rattle.hot_tile.specs.Tile.{TileContent, IsTileContent, rows_in, path_in}
use Rattle.hot_tile.specs.HotPart.{part_rows}
use Rattle.hot_tile.proofs.GrownRows.{path_rises}
use Rattle.hot_tile.proofs.TileLaws.{row_at, row_none}
use Rattle.hot_tile.proofs.tile.Tile.row.Goals as goal

abbrev unread : Segment
unread =
    record {
      name = record { editor = 0; serial = 0 };
      p = record { x = pos 0; y = pos 0 };
      q = record { x = pos 0; y = pos 0 };
    }

-- the row of each segment of a tile stands in order
in_order : (t : TileContent) → IsTileContent t → (i : ℕ) → i < length t.segments
    → IsStrictlySortedBy nat_cmp (path_in t (get_or t.segments i unread))
in_order t k i lt = path_rises t k.sizes (get_or t.segments i unread) (k.live.within i unread lt).ordered

pub returns-in-Some : goal.returns-in-Some
returns-in-Some c =
    let content = subst IsTileContent c.self.view_is c.self.invariant.content in
    let rows = subst (λ (t : TileContent). c.in-Some.hot_part.value.rows ≡ rows_in t) c.self.view_is
    (sym (ap (part_rows c.self.inside.listed) c.in-Some.is) ∙ c.self.invariant.rows) in
    let value : (d : Segment) → c.row.result.now ≡ path_in c.args.self.now (get_or c.args.self.now.segments c.args.i d) =
    λ d. c.row.ensures
    ∙ ap (λ (r : HotPart). get_or r.rows c.args.i []) c.deref.ensures
    ∙ row_at c.args.self.now c.in-Some.hot_part.value.rows content.meet rows c.args.i d c.requires in
    record {
      value = value;
      rising = subst (IsStrictlySortedBy nat_cmp) (sym (value unread)) (in_order c.args.self.now content c.args.i c.requires);
    }

pub returns-in-None : goal.returns-in-None
returns-in-None c =
    let content = subst IsTileContent c.self.view_is c.self.invariant.content in
    let rows = subst (λ (t : TileContent). map (λ (s : Segment). []) t.segments ≡ rows_in t) c.self.view_is
    (sym (ap (part_rows c.self.inside.listed) c.in-None.is) ∙ c.self.invariant.rows) in
    let value : (d : Segment) → [] ≡ path_in c.args.self.now (get_or c.args.self.now.segments c.args.i d) =
    λ d. row_none c.args.self.now content.meet rows c.args.i d c.requires in
    record {
      value = value;
      rising = subst (IsStrictlySortedBy nat_cmp) (sym (value unread)) (in_order c.args.self.now content c.args.i c.requires);
    }
