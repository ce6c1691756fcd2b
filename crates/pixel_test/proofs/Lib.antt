pub mod ConstraintPairs
pub mod CornerTest
