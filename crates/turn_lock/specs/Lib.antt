pub mod Stage
pub mod History
pub mod View
pub mod Rule
pub mod Plays
pub mod Pass
pub mod Turn
