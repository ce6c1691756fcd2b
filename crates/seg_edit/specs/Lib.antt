pub mod Contents
pub mod Prepared
pub mod Looks
pub mod Waiting
