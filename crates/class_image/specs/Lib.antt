pub mod Message
pub mod Promises
pub mod Cases
