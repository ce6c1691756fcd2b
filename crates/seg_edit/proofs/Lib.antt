pub mod Preparing
pub mod Standing
pub mod Moving
pub mod Ready
pub mod Reading
pub mod Waiting
pub mod GivenTiles
