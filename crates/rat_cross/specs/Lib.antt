pub mod Apart
pub mod CrossPoint
pub mod CrossProduct
pub mod Narrow
