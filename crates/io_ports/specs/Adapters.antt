-- A source over a reader of std and a sink over a writer, as contracts see them: with what they wrap.
use Rattle.std.specs.Prelude.{ℕ, Bool}

-- the reader, and how many of its calls failed
pub record OverReader (R : Type 0) : Type 0 where
  pub inner : R
  pub faults : ℕ

-- the writer, whether the sink is shut, and how many of its calls failed
pub record OverWriter (W : Type 0) : Type 0 where
  pub inner : W
  pub is_shut : Bool
  pub faults : ℕ
