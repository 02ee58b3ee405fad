pub mod Log
pub mod Account
pub mod Images
pub mod Promises
pub mod Cases
