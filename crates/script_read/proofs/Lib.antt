pub mod Appended
pub mod LineLaws
