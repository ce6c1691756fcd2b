use Rattle.script_read.specs.Reply.{said_text}
use Rattle.seg_text.proofs.Buffers.{in_three, fails_in_three}
use Rattle.script_read.proofs.write.push_stale.Goals as goal

pub returns-clause-text : goal.returns-clause-text
unfolding said_text
returns-clause-text c = in_three _ _ _ _ _ _ _ _ c.in_ok-push_number.ensures.text c.in_ok-push_text.ensures.text c.push_spaced_tile.ensures.text

pub returns-clause-memory : goal.returns-clause-memory
returns-clause-memory c = fails_in_three _ _ _ _ _ _ _ c.in_ok-push_number.ensures.text c.in_ok-push_text.ensures.text c.push_spaced_tile.ensures.memory
