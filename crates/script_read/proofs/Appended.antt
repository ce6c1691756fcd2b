-- A reply that shows the drawing.
use Rattle.std.proofs.Common.{◌≡◌, ℕ, List}
use Rattle.script_read.specs.Reply.{reply_text, said_text}
use Rattle.script_read.specs.declared.reply.Reply.{Reply}
use Rattle.script_read.specs.declared.reply.Said.TheVariants.{Show}

-- a reply that shows the drawing is its text
pub shown : (reply : Reply) (text : List ℕ) → reply.said ≡ Show text → reply_text reply ≡ text
unfolding reply_text said_text
shown reply text e = simp e
