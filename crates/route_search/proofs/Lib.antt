pub mod Finding
pub mod Following
pub mod Telling
