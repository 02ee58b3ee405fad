pub mod Class
pub mod Calls
pub mod Promises
pub mod Private
pub mod Sample
pub mod Cases
