pub mod Questions
pub mod Values
pub mod Rows
pub mod Slip
