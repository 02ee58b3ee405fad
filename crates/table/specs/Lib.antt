pub mod Choice
pub mod Table
pub mod Promises
pub mod Private
pub mod Cases
