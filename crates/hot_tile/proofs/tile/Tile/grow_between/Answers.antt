-- What is written is what grows of the rows before `kept`; the rows from there on are as they were.
use Rattle.std.proofs.Common.{◌≡◌, ◌∙◌, sym, ap, ℕ, List, [], ◌<◌, ◌+◌, arith, subst, length, get_or, take}
use Rattle.std.specs.List.{filter}
use Rattle.std.proofs.lemmas.List.{get_or_default, take_rest}
use Rattle.grid_core.specs.Segment.{Segment}
use Rattle.hot_tile.specs.Steps.{meets_key, grown_row}
use Rattle.hot_tile.specs.Tile.{frame_of, path_in}
use Rattle.hot_tile.specs.Paths.{grown_path}
use Rattle.hot_tile.proofs.PathLaws.{IsKeeping, keeping_none, keeps_one, keeps_run, writes_one, grown_from, grown_stays}
use Rattle.hot_tile.proofs.tile.Tile.grow_between.Goals as goal
use Rattle.hot_tile.proofs.tile.Tile.grow_between.Goals.{Joined-first-fresh, then-first-fresh+in_ok-keep_between+in_ok-grow_row+in_ok-push, else-first-fresh}

pub loop-i-init : goal.loop-i-init
loop-i-init c = keeping_none (grown_path c.args.self.now c.args.fresh.now) (path_in c.args.self.now) c.args.self.now.segments c.args.from c.args.rows.now

pub keep_between-requires-clause-order : goal.keep_between-requires-clause-order
keep_between-requires-clause-order c = c.loop-i.invariant.past

-- the segment at i meets no pixel before the first
before : (c : Joined-first-fresh) (d : Segment) → c.loop-i.i < length c.args.self.now.segments
    → filter (meets_key (frame_of c.args.self.now) (get_or c.args.self.now.segments c.loop-i.i d)) (take c.first_met-first.result c.args.fresh.now) ≡ []
before c d within =
    let u : c.index-segments-i.result ≡ get_or c.args.self.now.segments c.loop-i.i d =
    c.index-segments-i.is
    ∙ ap (λ (us : List Segment). get_or us c.loop-i.i c.index-segments-i.result) c.segments-segments.ensures.value
    ∙ get_or_default c.args.self.now.segments c.loop-i.i c.index-segments-i.result d within in
    sym (λ k. filter (meets_key (c.frame-frame.ensures.value k) (u k)) (take c.first_met-first.result c.args.fresh.now))
    ∙ c.first_met-first.ensures.before

pub loop-i-preserved : goal.loop-i-preserved
loop-i-preserved c =
    let within : c.loop-i.i < length c.args.self.now.segments = omega (arith, c.loop-i-test.true, c.requires.within) in
    elim c.if-first-fresh.branch [
      | then-first-fresh+in_ok-keep_between+in_ok-grow_row+in_ok-push w ↦
          let d = w.index-segments-i-then-first-fresh.result in
          let u : d ≡ get_or c.args.self.now.segments c.loop-i.i d =
          w.index-segments-i-then-first-fresh.is ∙ ap (λ (us : List Segment). get_or us c.loop-i.i d) c.segments-segments.ensures.value in
          let row : w.deref.result.now ≡ grown_path c.args.self.now c.args.fresh.now (get_or c.args.self.now.segments c.loop-i.i d) =
          w.deref.ensures.value ∙ w.in_ok-grow_row.ensures
          ∙ (λ k. grown_row (c.frame-frame.ensures.value k) (u k) (w.row.ensures.value d k) (take_rest c.args.fresh.now c.first_met-first.result k))
          ∙ grown_from (frame_of c.args.self.now) (get_or c.args.self.now.segments c.loop-i.i d)
          (path_in c.args.self.now (get_or c.args.self.now.segments c.loop-i.i d)) c.args.fresh.now c.first_met-first.result (before c d within) in
          subst (λ (p : ℕ × List (List ℕ)).
          IsKeeping (grown_path c.args.self.now c.args.fresh.now) (path_in c.args.self.now) c.args.self.now.segments c.args.from p.0 (c.loop-i.i + 1) c.args.rows.now p.1)
          (λ k. (sym w.kept-is k, sym (w.rows-is ∙ w.in_ok-push.ensures) k))
          (writes_one c.loop-i.invariant d w.keep_between.new.rows w.deref.result.now within w.in_ok-keep_between.ensures row)
      | else-first-fresh w ↦
          subst (λ (p : ℕ × List (List ℕ)).
          IsKeeping (grown_path c.args.self.now c.args.fresh.now) (path_in c.args.self.now) c.args.self.now.segments c.args.from p.0 (c.loop-i.i + 1) c.args.rows.now p.1)
          (λ k. (sym w.kept-is k, sym w.rows-is k))
          (keeps_one c.loop-i.invariant c.index-segments-i.result within
          (grown_stays c.args.self.now c.args.fresh.now (get_or c.args.self.now.segments c.loop-i.i c.index-segments-i.result) c.first_met-first.result
          (before c c.index-segments-i.result within) (omega (arith, w.if-first-fresh.false))))
    ]

pub returns : goal.returns
returns c =
    let ended : c.loop-i.i ≡ c.args.to = omega (arith, c.loop-i-test.false, c.loop-i.auto.i-end c.requires.order) in
    keeps_run
    (subst (λ n. IsKeeping (grown_path c.args.self.now c.args.fresh.now) (path_in c.args.self.now) c.args.self.now.segments c.args.from c.loop-i.kept n c.args.rows.now c.loop-i.rows)
    ended c.loop-i.invariant)
    c.keep_between-2.new.rows c.in_ok-keep_between-2.ensures
