use Rattle.std.proofs.lemmas.Result.{err_from_is_err_and}
use Rattle.seg_text.proofs.Buffers.{begins_less}
use Rattle.canon_write.proofs.arrangement.push_edge_lines.Goals as goal

pub returns-in_err-push_edge_line-clause-memory : goal.returns-in_err-push_edge_line-clause-memory
returns-in_err-push_edge_line-clause-memory c =
    let failed = err_from_is_err_and c.from_residual.result c.from_residual.ensures.1 in
    rw failed.1 (begins_less _ _ _ _ c.loop-bundled.invariant c.in_err-push_edge_line.ensures.memory)
