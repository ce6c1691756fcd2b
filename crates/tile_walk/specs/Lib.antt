pub mod Borders
pub mod Columns
pub mod Steps
