use Rattle.std.proofs.Common.{◌≡◌, subst, ap, ◌∙◌, ◌<◌, arith, IfSome}
use Rattle.grid_core.specs.Segment.{IsSegment, segment_of}
use Rattle.session_core.specs.Limits.{most_serials}
use Rattle.session_core.proofs.Drawing.{serials_used, serials_left, next_serial}
use Rattle.session_core.proofs.act.draw.Goals as goal

-- src/act.rt
pub returns-in-Ok-clause-refused : goal.returns-in-Ok-clause-refused
returns-in-Ok-clause-refused c =
    serials_used c.args.profile.now c.args.last c.unwrap-name.result c.args.a c.args.b
    (subst (IsSegment c.args.profile.now.bound) c.in-Ok.ensures.value c.in-Ok.ensures.within)
    c.if-last-eq-LAST_SERIAL.true

pub returns-in-Ok-2-clause-drawn : goal.returns-in-Ok-2-clause-drawn
returns-in-Ok-2-clause-drawn c =
    let fits = c.ranges.last.fits in
    let few : c.args.last < most_serials = omega (arith, c.if-last-eq-LAST_SERIAL.false, fits) in
    serials_left c.args.profile.now c.args.last c.unwrap-name.result c.args.a c.args.b
    (subst (IsSegment c.args.profile.now.bound) c.in-Ok-2.ensures.value c.in-Ok-2.ensures.within) few

pub returns-in-Ok-2-clause-value : goal.returns-in-Ok-2-clause-value
returns-in-Ok-2-clause-value c =
    let fits = c.ranges.last.fits in
    let few : c.args.last < most_serials = omega (arith, c.if-last-eq-LAST_SERIAL.false, fits) in
    let named = subst (λ o. IfSome o (λ n. n ≡ record { editor = c.args.editor; serial = c.saturating_add.result })) c.unwrap-name.ensures c.new.ensures.value in
    c.in-Ok-2.ur-is
    ∙ c.in-Ok-2.ensures.value
    ∙ ap (λ n. segment_of n c.args.a c.args.b) named
    ∙ ap (λ k. segment_of (record { editor = c.args.editor; serial = k }) c.args.a c.args.b)
    (c.saturating_add.ensures ∙ next_serial c.args.last few)
