pub mod Placing
pub mod Orders
pub mod Unique
pub mod Accepted
pub mod Clearing
