-- What the read put in front of the buffer is the front of what was left.
use Rattle.io_ports.proofs.Pieces.{front_is_read}
use Rattle.io_ports.proofs.steady.SteadySourceSource.read.Goals as goal

pub returns-clause-bytes : goal.returns-clause-bytes
returns-clause-bytes c =
    front_is_read _ _ _ _ _ _ _ c.deref.ensures.value c.self.view_is c.copy_from_slice.ensures.after c.min-n.ensures
