pub mod Private
pub mod Refusal
pub mod Cases
pub mod Promises
