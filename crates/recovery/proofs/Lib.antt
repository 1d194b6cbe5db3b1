pub mod Opened
pub mod Found
