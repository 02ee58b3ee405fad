pub mod Private
pub mod Marks
pub mod Decimal
pub mod Cases
