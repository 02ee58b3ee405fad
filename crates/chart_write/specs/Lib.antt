pub mod Writing
pub mod Private
pub mod Promises
pub mod Cases
