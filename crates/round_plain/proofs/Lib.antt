pub mod Counts
pub mod Pairs
pub mod Steps
pub mod RouteEdges
pub mod Gathered
pub mod Rounded
