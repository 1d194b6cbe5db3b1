pub mod Squaring
pub mod LookUps
