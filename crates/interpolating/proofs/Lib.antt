pub mod Bounds
pub mod Stage
pub mod Openings
