pub mod Writing
pub mod Promises
pub mod Private
pub mod Cases
