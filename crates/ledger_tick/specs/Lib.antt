pub mod Tick
pub mod Private
pub mod Cases
