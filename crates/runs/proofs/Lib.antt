pub mod Running
pub mod Histories
pub mod Recovered
pub mod Own
