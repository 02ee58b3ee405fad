pub mod Frame
pub mod Refusal
pub mod Place
pub mod Private
pub mod Cases
