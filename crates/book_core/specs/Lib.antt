pub mod Book
pub mod Stamps
pub mod Commit
pub mod Committed
pub mod Laws
pub mod Waiting
