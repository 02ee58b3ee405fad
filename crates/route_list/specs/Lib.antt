pub mod Listing
pub mod Private
pub mod Promises
pub mod Cases
