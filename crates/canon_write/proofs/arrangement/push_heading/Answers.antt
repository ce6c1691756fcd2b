use Rattle.canon_write.specs.Text.{heading}
use Rattle.seg_text.proofs.Buffers.{in_three}
use Rattle.canon_write.proofs.arrangement.push_heading.Goals as goal

pub returns-clause-text : goal.returns-clause-text
unfolding heading
returns-clause-text c =
    let count = rw c.from.ensures at c.in_ok-push_count.ensures.text in
    in_three _ _ _ _ _ _ _ _ c.in_ok-push_text.ensures.text count c.push_text-2.ensures.text
