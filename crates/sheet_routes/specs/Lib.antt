pub mod RouteLines
pub mod Private
pub mod Cases
