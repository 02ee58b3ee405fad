pub mod Moving
pub mod Promises
pub mod Cases
