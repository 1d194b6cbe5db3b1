pub mod Interpolation
pub mod Roots
pub mod Received
pub mod Reading
