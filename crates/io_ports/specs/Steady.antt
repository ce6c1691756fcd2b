-- The sink in memory, as contracts see it.
use Rattle.std.specs.Prelude.{ℕ, List, Bool}

-- what was written, and whether the sink is shut
pub record Kept : Type 0 where
  pub bytes : List ℕ
  pub is_shut : Bool
