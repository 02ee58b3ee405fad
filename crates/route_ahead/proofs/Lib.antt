pub mod Flood
pub mod Spreading
pub mod Looking
pub mod Going
pub mod Promises
