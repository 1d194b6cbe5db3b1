pub mod Bounds
pub mod Arrays
pub mod Passes
pub mod Columns
pub mod Spans
pub mod Courses
pub mod Turns
pub mod Prefixes
