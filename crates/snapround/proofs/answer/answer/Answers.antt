use Rattle.snapround.proofs.Lines.{order_is_fair, order_is_served}
use Rattle.snapround.proofs.answer.answer.Goals as goal

pub step-requires-clause-fair : goal.step-requires-clause-fair
step-requires-clause-fair c = order_is_fair _ _ c.read_line.ensures.fair c.in-Order.is

pub step-requires-clause-served : goal.step-requires-clause-served
step-requires-clause-served c = order_is_served _ _ _ c.read_line.ensures.value c.in-Order.is
