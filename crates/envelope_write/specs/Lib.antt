pub mod Write
pub mod Promises
pub mod Refusal
pub mod Private
pub mod Cases
