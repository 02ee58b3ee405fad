pub mod ByKeys
pub mod Laws
pub mod Accepted
