pub mod HotPixels
pub mod Routes
pub mod Bundles
