use Rattle.std.proofs.Common.{SFits, to_z-of_z, rules}
use mir.Syntax.{w128}
use Rattle.script_read.specs.Reply.{said_text}
use Rattle.seg_text.proofs.Buffers.{in_three, fails_in_three}
use Rattle.script_read.proofs.write.push_contour.Goals as goal

pub returns-clause-text : goal.returns-clause-text
unfolding said_text
returns-clause-text c =
    let fits : SFits w128 c.args.area2 = search rules in
    let signed = simp to_z-of_z at c.in_ok-push_signed.ensures.text in
    in_three _ _ _ _ _ _ _ _ c.in_ok-push_count.ensures.text signed c.push_points.ensures.text

pub returns-clause-memory : goal.returns-clause-memory
returns-clause-memory c =
    fails_in_three _ _ _ _ _ _ _ c.in_ok-push_count.ensures.text c.in_ok-push_signed.ensures.text c.push_points.ensures.memory
