pub mod Reach
pub mod Nearest
