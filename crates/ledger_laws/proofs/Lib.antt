pub mod Places
pub mod Keeps
pub mod Promises
pub mod Numbers
pub mod Accepting
pub mod Waiting
