pub mod Sweeps
pub mod Advances
pub mod Steps
