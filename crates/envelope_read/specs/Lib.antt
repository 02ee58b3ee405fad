pub mod Read
pub mod Private
pub mod Promises
pub mod Parts
pub mod Cases
