pub mod Fields
pub mod Reading
pub mod Private
pub mod Cases
