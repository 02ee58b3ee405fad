pub mod Packed
pub mod Wide
pub mod Cases
pub mod Promises
