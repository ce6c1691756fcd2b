use Rattle.std.proofs.Common.{◌≡◌, ℕ, ◌%◌, ◌^◌, []}
use Rattle.turn_lock.specs.declared.stage.Stage.TheVariants.{Waits}
use Rattle.turn_lock.specs.View.{at_stage}
use Rattle.turn_lock.proofs.steps.wait_turn.Given as goal

abbrev pub invariant-loop : goal.invariant-loop
invariant-loop g l = record {
  table : l.seat.table_id ≡ l.fn.seat.table_id;
  waits : (t : ℕ) × (l.ticket ≡ t % 2 ^ 64) × (l.seat.me ≡ (at_stage (Waits t) l.fn.seat.me.0, []));
}
