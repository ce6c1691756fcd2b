use Rattle.std.proofs.lemmas.Result.{err_from_is_err_and}
use Rattle.io_ports.proofs.Pieces.{kept_whole}
use Rattle.snapround.proofs.play.respond.Goals as goal

pub returns-in_err-close-clause-part : goal.returns-in_err-close-clause-part
returns-in_err-close-clause-part g c =
    let returned = err_from_is_err_and c.from_residual-in_err-close.result c.from_residual-in_err-close.ensures.1 in
    rw returned.1 (kept_whole _ _ _ _ c.in_ok-some_bad.ensures.whole c.in_err-close.ensures.bytes)
