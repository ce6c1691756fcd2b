use Rattle.script_read.proofs.LineLaws.{feed_position}
use Rattle.script_read.proofs.lines.line_feed.Goals as goal

pub returns : goal.returns
returns c = feed_position c.args.bytes.now c.memchr.result c.memchr.ensures
