pub mod Leg
pub mod Ledger
pub mod Promises
pub mod Cases
