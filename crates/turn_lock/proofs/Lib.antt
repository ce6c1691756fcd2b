pub mod Histories
pub mod Views
pub mod Tickets
pub mod Turns
pub mod Passes
