pub mod Machine
pub mod Limits
pub mod Answer
pub mod Step
pub mod Output
pub mod States
pub mod Laws
pub mod World
