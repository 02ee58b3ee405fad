pub mod Mending
pub mod Promises
pub mod Private
pub mod Cases
