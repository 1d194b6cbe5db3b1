pub mod Telling
pub mod Entering
pub mod Nearness
