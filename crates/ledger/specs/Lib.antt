pub mod Rules
pub mod Outcome
pub mod Private
pub mod Cases
