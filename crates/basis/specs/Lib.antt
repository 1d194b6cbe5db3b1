pub mod Rows
pub mod Powers
pub mod Found
