pub mod Joining
pub mod Digits
pub mod Lengths
