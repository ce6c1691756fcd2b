pub mod BoundingBoxes
pub mod Bounds
pub mod Signs
