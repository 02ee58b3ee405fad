pub mod Trace
pub mod Promises
pub mod Private
pub mod Cases
