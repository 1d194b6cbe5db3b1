pub mod Meaning
pub mod Once
