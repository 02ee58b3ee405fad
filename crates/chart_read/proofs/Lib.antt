pub mod Laws
pub mod Walking
pub mod Fields
pub mod Keyed
pub mod Given
pub mod Taking
pub mod Holding
