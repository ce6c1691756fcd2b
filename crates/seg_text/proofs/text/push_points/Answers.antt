use Rattle.std.proofs.lemmas.Result.{err_from_is_err_and}
use Rattle.seg_text.proofs.Buffers.{begins_less}
use Rattle.seg_text.proofs.text.push_points.Goals as goal

pub returns-in_err-push_spaced_point-clause-memory : goal.returns-in_err-push_spaced_point-clause-memory
returns-in_err-push_spaced_point-clause-memory c =
    let failed = err_from_is_err_and c.from_residual.result c.from_residual.ensures.1 in
    rw failed.1 (begins_less _ _ _ _ c.loop-at.invariant c.in_err-push_spaced_point.ensures.memory)
