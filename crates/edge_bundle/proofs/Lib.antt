pub mod Drawings
pub mod DrawnWithin
