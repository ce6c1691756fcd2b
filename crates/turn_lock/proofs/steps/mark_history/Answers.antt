use Rattle.std.proofs.Common.{rules, ◌≡◌, ◌<◌, ◌^◌, Bool, true, false, cond, length, refl, sym, ap, subst, arith, ◌∙◌}
use mir.Val.{bool_byte}
use Rattle.turn_lock.specs.History.{GrowsBy}
use Rattle.turn_lock.proofs.Turns.{marks_history}
use Rattle.turn_lock.proofs.steps.mark_history.Goals as goal

number_of : (up : Bool) → bool_byte up ≡ cond up 1 0
number_of true = refl
number_of false = refl

pub fetch_add-requires : goal.fetch_add-requires
fetch_add-requires g c =
    let told = c.requires.list in
    let size = c.marks.ensures in
    let size' = ap (length {A = g.row.B-Entry.Denot}) told in
    let short : length g.W.MarkedHistory.list < 2 ^ 32 = omega arith in
    let v = c.args.seat.now.me.0 in (
      search rules,
      search rules,
      marks_history g.B.Counted.history g.B.Counted.author g.B.Counted.label _ _ _ _ _
          c.requires.holds.0 _ c.args.up _ c.requires.holds.1 (c.from.ensures ∙ number_of c.args.up)
          (subst (GrowsBy (g.B.Counted.author v.label) v.number c.args.up v.journal) (sym told) c.requires.grows) short,
    )
