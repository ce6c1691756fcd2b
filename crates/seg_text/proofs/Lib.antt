pub mod Buffers
pub mod DigitLaws
pub mod FieldLaws
