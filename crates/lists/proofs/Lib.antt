pub mod Bools
pub mod Places
pub mod Stores
pub mod Lists
pub mod Refusals
pub mod Chains
pub mod Runs
pub mod Given
