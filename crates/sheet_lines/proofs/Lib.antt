pub mod Directions
pub mod Labels
pub mod Lengths
pub mod NumberLengths
