pub mod Net
pub mod Private
pub mod Promises
pub mod Cases
