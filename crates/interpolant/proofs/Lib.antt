pub mod Loops
pub mod Starts
pub mod Solves
pub mod Bases
