pub mod Adapters
pub mod Causes
pub mod Steady
pub mod Transfers
