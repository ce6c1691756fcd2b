-- Each read takes its piece after what was taken before.
use Rattle.std.proofs.Common.{rules}
use Rattle.std.proofs.KnownBytes.{Consumes-kept}
use Rattle.io_ports.proofs.Pieces.{none_past, takes_just, takes_more}
use Rattle.io_ports.proofs.transfers.read_all.Goals as goal

pub returns-in-Err-clause-too_long_only : goal.returns-in-Err-clause-too_long_only
returns-in-Err-clause-too_long_only g c =
    none_past _ _ _ _ _ (Consumes-kept _ _ _ _ c.loop-n.invariant.taken c.in-Err.ensures.bytes) (search rules)

pub returns-then-is_err-clause-taken : goal.returns-then-is_err-clause-taken
returns-then-is_err-clause-taken g c = takes_more _ _ _ _ _ _ _ c.loop-n.invariant.taken c.in-Ok.ensures.bytes.0 (search rules)

pub returns-then-len-limit-clause-too_long : goal.returns-then-len-limit-clause-too_long
returns-then-len-limit-clause-too_long g c =
    λ _. takes_just _ _ _ _ _ _ _ c.loop-n.invariant.taken c.in-Ok.ensures.bytes.0 c.in-Ok.ensures.bound.0 (search rules)
