pub mod Choice
pub mod Rows
pub mod Stepping
pub mod Tableaus
