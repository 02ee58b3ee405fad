pub mod Entries
pub mod Filling
pub mod Listing
pub mod Known
pub mod Reaching
pub mod Choosing
pub mod Promises
