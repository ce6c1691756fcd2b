pub mod Joined
pub mod Scans
