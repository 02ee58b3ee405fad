pub mod Fewest
pub mod Promises
pub mod Private
pub mod Cases
