pub mod Slots
pub mod Stowing
pub mod Turns
pub mod Telling
pub mod Promises
