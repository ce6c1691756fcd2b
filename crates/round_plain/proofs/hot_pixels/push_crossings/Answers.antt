-- What is found is appended, and it is within 2^30.
use Rattle.std.proofs.Common.{◌∙◌, ap, sym, subst, ◌++◌, ◌∷◌, [], List, ◌^◌}
use Rattle.std.specs.Prelude.{Vec}
use Rattle.std.specs.List.{All}
use Rattle.std.specs.declared.alloc.Global.{Global}
use Rattle.std.proofs.lemmas.List.Elements.{All-push}
use Rattle.grid_core.specs.declared.point.Point.{Point}
use Rattle.grid_core.specs.Vector.{IsWithin}
use Rattle.grid_core.specs.Segment.{Segment, IsSegment}
use Rattle.grid_core.specs.Rounding.{crossing_pixel}
use Rattle.grid_core.proofs.ListSteps.{found_some, found_none}
use Rattle.round_plain.proofs.hot_pixels.push_crossings.Goals as goal
use Rattle.round_plain.proofs.hot_pixels.push_crossings.Goals.{in-Some+in_ok-push, in_default}

pub loop-t-preserved : goal.loop-t-preserved
loop-t-preserved c = elim c.match-crossing_pixel.branch [
  | in-Some+in_ok-push w ↦
      (let now = ap (λ (v : Vec Point Global). v.items) w.found-is
      ∙ w.in_ok-push.ensures.items in
      let here = subst (λ (t : Segment). IsSegment (2 ^ 30) t) (sym c.t-item.is)
      (c.requires.others c.loop-t.t-index c.t-item.result c.loop-t-test.true) in
      record {
        value =
            now ∙ ap (λ (xs : List Point). xs ++ w.in-Some.h ∷ []) c.loop-t.invariant.value
            ∙ found_some (crossing_pixel c.args.s.now) c.args.found.now.items c.args.others.now
            c.loop-t.t-index c.t-item.result w.in-Some.h c.loop-t-test.true c.t-item.is
            w.in-Some.ensures.value;
        within =
            subst (λ (xs : List Point). All (IsWithin (2 ^ 30)) xs) (sym now)
            (All-push (IsWithin (2 ^ 30)) c.loop-t.found.items w.in-Some.h
            c.loop-t.invariant.within (w.in-Some.ensures.within c.requires.first here));
      })
  | in_default w ↦
      (let now = ap (λ (v : Vec Point Global). v.items) w.found-is in
      record {
        value =
            now ∙ c.loop-t.invariant.value
            ∙ found_none (crossing_pixel c.args.s.now) c.args.found.now.items c.args.others.now
            c.loop-t.t-index c.t-item.result c.loop-t-test.true c.t-item.is
            w.in_default.ensures.value;
        within = subst (λ (xs : List Point). All (IsWithin (2 ^ 30)) xs)
            (sym now) c.loop-t.invariant.within;
      })
]
