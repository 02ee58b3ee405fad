pub mod Clear
pub mod Cases
