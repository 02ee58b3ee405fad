pub mod Lines
pub mod Cases
