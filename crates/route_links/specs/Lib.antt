pub mod Sets
pub mod Arrays
pub mod ByNode
pub mod Promises
pub mod Private
pub mod Cases
