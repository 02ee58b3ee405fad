pub mod Values
pub mod Refusals
pub mod Sample
pub mod Cases
