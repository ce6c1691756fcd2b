-- A segment more has a later name than those before it.
use Rattle.std.proofs.Common.{ap, sym, subst, rules, ◌∙◌, ◌+◌, ◌≤◌, List, length}
use Rattle.std.specs.List.Sorted.{IsStrictlySortedBy}
use Rattle.grid_core.specs.LiveList.{names}
use Rattle.grid_core.specs.Name.{label_cmp}
use Rattle.grid_core.specs.Segment.{Segment}
use Rattle.bench_places.proofs.Rising.{AreBelow, rising_nil, rising_more, below_more, below_next, one_more, longer}
use Rattle.bench_places.proofs.drawing.segments.Goals as goal
use Rattle.bench_places.proofs.drawing.segments.Goals.{in-Some+in_ok-push, in_default}

pub loop-serial-init : goal.loop-serial-init
loop-serial-init c =
    let none = sym c.new-segments.ensures.items in
    record {
      rising = subst (λ (ss : List Segment). IsStrictlySortedBy label_cmp (names ss)) none rising_nil;
      below = subst (AreBelow 1) none tt;
      few = search rules;
    }

pub loop-serial-preserved : goal.loop-serial-preserved
loop-serial-preserved c =
    let n = c.loop-serial.serial + 1 in
    let ss = c.loop-serial.segments.items in
    let before = c.loop-serial.invariant in
    elim c.match-segment.branch [
      | in-Some+in_ok-push w ↦
          let s = w.in-Some.s in
          let more = sym (ap (λ (v : _). v.items) w.segments-is ∙ w.in_ok-push.ensures.items) in
          record {
            rising = subst (λ (ts : List Segment). IsStrictlySortedBy label_cmp (names ts)) more
                (rising_more n ss s before.rising before.below w.in-Some.ensures);
            below = subst (AreBelow (n + 1)) more (below_more n ss s before.below w.in-Some.ensures);
            few = subst (λ (ts : List Segment). length ts ≤ n) more (one_more ss s c.loop-serial.serial before.few);
          }
      | in_default w ↦
          let same = sym (ap (λ (v : _). v.items) w.segments-is) in
          record {
            rising = subst (λ (ts : List Segment). IsStrictlySortedBy label_cmp (names ts)) same before.rising;
            below = subst (AreBelow (n + 1)) same (below_next n ss before.below);
            few = subst (λ (ts : List Segment). length ts ≤ n) same (longer (length ss) c.loop-serial.serial before.few);
          }
    ]
