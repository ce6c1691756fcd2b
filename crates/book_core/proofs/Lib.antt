pub mod Touches
pub mod Clashes
pub mod Growing
pub mod Apart
pub mod Refusals
pub mod Waiting
