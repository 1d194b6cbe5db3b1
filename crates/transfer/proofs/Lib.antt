pub mod Acts
pub mod Written
pub mod Filled
pub mod Back
pub mod Again
