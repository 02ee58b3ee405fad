pub mod Fields
pub mod Walking
pub mod Promises
pub mod Sizes
pub mod Mending
pub mod Numbers
pub mod Sorting
