pub mod Laws
pub mod ReadBack
pub mod WriteBack
pub mod Promises
pub mod RefuseLaws
