pub mod Strips
pub mod Arranged
pub mod Found
pub mod Exchange
pub mod Columns
