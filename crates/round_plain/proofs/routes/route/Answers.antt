-- A pixel that is met is inserted; the set is then told in order.
use Rattle.std.proofs.Common.{◌≡◌, ◌∙◌, ap, sym, map, take, get_or, ◌^◌, rules, arith}
use Rattle.std.specs.BTreeSet.{BTreeSet, insert_key}
use Rattle.std.proofs.lemmas.List.{take_all}
use Rattle.grid_core.specs.Vector.{IsWithin}
use Rattle.round_plain.specs.declared.routes.Step.{Step}
use Rattle.round_plain.specs.Routes.{pixels}
use Rattle.round_plain.proofs.Steps.{steps_met, step_cmp, met_more, met_no_more, pixels-steps_met, unread}
use Rattle.round_plain.proofs.routes.route.Goals as goal
use Rattle.round_plain.proofs.routes.route.Goals.{then-meets_pixel+in_ok-insert, else-meets_pixel}

pub meets_pixel-requires : goal.meets_pixel-requires
meets_pixel-requires c =
    let h : IsWithin (2 ^ 30) (get_or c.args.vertices.now c.loop-v.v-index unread).at = c.requires
    c.loop-v.v-index unread c.loop-v-test.true in
    record { x = omega (arith, h.x); y = omega (arith, h.y) }

pub loop-v-preserved : goal.loop-v-preserved
loop-v-preserved c = elim c.if-meets_pixel.branch [
  | then-meets_pixel+in_ok-insert w ↦
      (ap (λ (m : BTreeSet Step). m.keys) w.met-is ∙ w.in_ok-insert.ensures.keys
      ∙ (λ i. insert_key step_cmp (c.loop-v.invariant i) (w.step_of.ensures i))
      ∙ met_more c.args.s.now c.args.vertices.now c.loop-v.v-index unread c.loop-v-test.true
      (sym c.meets_pixel.ensures ∙ w.if-meets_pixel.true))
  | else-meets_pixel w ↦
      (ap (λ (m : BTreeSet Step). m.keys) w.met-is ∙ c.loop-v.invariant
      ∙ met_no_more c.args.s.now c.args.vertices.now c.loop-v.v-index unread c.loop-v-test.true
      (sym c.meets_pixel.ensures ∙ w.if-meets_pixel.false))
]

pub returns : goal.returns
returns c =
    let all : take c.loop-v.v-index c.args.vertices.now
    ≡ c.args.vertices.now = search (rules, take_all) in
    let e : c.in_ok-points.points.items ≡ map
    (λ (a : Step). a.pixel) c.loop-v.met.keys = search rules in
    c.of.ensures ∙ e ∙ ap (map (λ (a : Step). a.pixel)) (c.loop-v.invariant
    ∙ ap (steps_met c.args.s.now) all)
    ∙ pixels-steps_met c.args.s.now (pixels c.args.vertices.now)
